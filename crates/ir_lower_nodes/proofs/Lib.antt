-- putting nodes for operations of checked expressions on words, and for values that are written out
pub mod OnWords
-- lemmas for other crates
pub mod Lemmas
-- putting nodes for patterns of checked expressions
pub mod OnPatterns
-- putting nodes for checked expressions
pub mod OnExprs
-- when the nodes of an IR proc do what a checked proc does
pub mod OnActs
-- putting nodes for the steps of checked procs
pub mod OnSteps
-- putting nodes for the activations of checked procs
pub mod OnProcs
