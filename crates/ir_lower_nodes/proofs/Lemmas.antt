-- putting nodes for operations of checked expressions on words, and for values that are written out
pub mod Words
-- putting nodes for patterns of checked expressions
pub mod Patterns
-- when the nodes of an IR proc do what a checked proc does
pub mod Acts
-- putting nodes for the steps of checked procs
pub mod Steps
