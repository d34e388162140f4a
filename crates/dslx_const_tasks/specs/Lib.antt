-- what is to be done and where the machine stands, without references
pub mod Plain
-- values of items that are kept
pub mod Values
