-- what is found outside instances, and in them
pub mod Finds
-- what a text is told
pub mod Verdicts
-- that what a text's own global environment says is what is asked of all that is known of the text
pub mod Text
-- that the fault of a text is found however its instances are found
pub mod Least
