-- free names
pub mod FreeNames
-- written types
pub mod WrittenTypes
