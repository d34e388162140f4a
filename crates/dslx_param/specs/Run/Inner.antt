-- machines from which something was taken
pub mod Opened
-- struct values
pub mod Structs
