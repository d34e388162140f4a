-- lists
pub mod Lists
-- tables of names
pub mod NameTable
-- stacks
pub mod Stacks
-- texts
pub mod Texts
-- orders in which each thing comes after those that it needs, or a thing that needs itself; all things that do, and which need one another
pub mod TopoOrder
-- exact readers from grammars that are given as data
pub mod Grammar
