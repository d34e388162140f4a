-- what holds of all texts
pub mod Laws
-- where the checking of a text stands
pub mod Standing
-- what is told of what was walked over
pub mod Told
-- what parts of declarations, which calls and spawns ask for, and the top of a text come to, by walks over their parts
pub mod Declarations
