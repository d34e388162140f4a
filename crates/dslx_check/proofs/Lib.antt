-- what is found outside all instances
pub mod OnOutside
-- lists of numbers and of instances
pub mod OnNumbers
-- all instances that are reached
pub mod OnFound
-- items of one name
pub mod OnNamesakes
-- what a text is told
pub mod OnChecking
-- what a text is told, from all that is found of it
pub mod OnWhole
-- that what a text's own global environment says is what is asked of all that is known of the text
pub mod OnText
-- that the global environment of a text is settled: longer chains of items add nothing to it
pub mod OnSettled
-- that the fault of a text is found however its instances are found
pub mod OnLeast
