-- the parametrics of a call, one by one
pub mod Parametrics
-- calls from their parametrics
pub mod Calls
-- what operands infer, one by one
pub mod Inferring
-- the fields of struct values
pub mod Fields
