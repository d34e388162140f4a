-- what builtins become
pub mod BuiltinLemmas
-- how many items a list has
pub mod Counted
-- what loops become
pub mod LoopLemmas
-- what matches become
pub mod MatchLemmas
-- how many turns a loop has
pub mod TurnLemmas
