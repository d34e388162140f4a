-- fields
pub mod OnFields
-- items by their numbers
pub mod OnItems
-- structs
pub mod OnStructs
-- members of enums
pub mod OnMembers
-- enums
pub mod OnEnums
-- constants
pub mod OnConstants
