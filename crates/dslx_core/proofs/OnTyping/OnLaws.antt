-- environments that agree on what is mentioned
pub mod Agreeing
-- values depend on what is mentioned alone
pub mod Dependence
pub mod Free
pub mod Endings
-- what operations give
pub mod Typed
-- the test of equality of values
pub mod OneValue
-- the least fault
pub mod Orders
