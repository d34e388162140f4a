-- names that are bound
pub mod OnBindings
-- builtins and effects
pub mod OnCallees
-- ends of channels
pub mod OnEnds
-- parts of other declarations
pub mod OnForeign
-- groups of items by their names
pub mod OnGroups
-- keys
pub mod OnKeys
-- names of local bindings
pub mod OnLocals
-- what is looked up
pub mod OnLookups
-- names without marks
pub mod OnMarks
-- items that are known with all that they mention
pub mod OnSettled
-- the types of values
pub mod OnTypedValues
-- members of enums
pub mod OnMembers
-- names of items
pub mod OnNames
-- where nothing is known
pub mod OnNothing
-- what a walk comes to
pub mod OnTypings
-- names as values
pub mod OnUses
-- what crates above take by name
pub mod Lemmas
