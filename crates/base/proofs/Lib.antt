-- tables of names
pub mod OnNameTable
-- stacks
pub mod OnStacks
-- texts
pub mod OnTexts
-- for other crates' proofs
pub mod Lemmas
-- orders in which each thing comes after those that it needs, or a thing that needs itself; all things that do, and which need one another
pub mod OnTopoOrder
-- exact readers from grammars that are given as data
pub mod OnGrammar
