-- lists, and what stands in them
pub mod OnLists
-- channels, and the words that go over them
pub mod OnWords
-- procs that do the same
pub mod OnProcs
-- the package as a whole
pub mod OnWhole
-- procs that do what a text's do
pub mod OnText
-- what a lowered instance is made of
pub mod OnMade
-- the types of checked expressions, of steps and of functions, computed
pub mod OnTypes
