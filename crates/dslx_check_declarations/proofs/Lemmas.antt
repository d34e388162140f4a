-- lists whose elements have names
pub mod Listed
-- ends of channels
pub mod Ends
-- walks over items
pub mod Items
-- what is in scope behind parametrics
pub mod Parts
-- items by their numbers
pub mod Told
-- what is known of a text that is checked, as more and more of it is judged
pub mod Work
