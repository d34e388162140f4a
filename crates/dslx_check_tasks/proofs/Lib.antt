-- what crates above take by name
pub mod Lemmas
-- items that are told
pub mod OnItems
-- instances that are told
pub mod OnInstances
-- parts of declarations that are told
pub mod OnParts
-- the top
pub mod OnTops
-- what parts of declarations, which calls and spawns ask for, and the top of a text come to, by walks over their parts
pub mod OnDeclarations
