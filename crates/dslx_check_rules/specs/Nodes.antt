-- what a typing in code is the judgement of
pub mod Parts
-- what nodes come to, by what their parts come to
pub mod Nodes
