-- What assignments that are taken in order leave.
pub mod Settling
-- The width of what an expression is worth.
pub mod Fitting
