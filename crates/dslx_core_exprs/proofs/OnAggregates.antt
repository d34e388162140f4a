-- what is made of elements that are all of one type
pub mod Elements
-- places of names, and lists that are filled
pub mod ListLemmas
