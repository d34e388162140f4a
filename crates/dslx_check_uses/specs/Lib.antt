-- calls, by what their parts came to
pub mod Called
-- the parametrics of a call, a spawn or the top
pub mod Arguments
-- contracts of private parts
pub mod Inner
-- nodes that use other declarations, by what their parts came to
pub mod Uses
-- what operands infer
pub mod Inferring
-- forms of calls
pub mod Forms
-- channels by their names
pub mod Ends
