-- what an expression is worth
pub mod Value
-- what the signals and channels of a module are
pub mod Signals
-- widths and reads of expressions
pub mod Forms
-- what a module does in a cycle
pub mod Meaning
-- what may be evaluated
pub mod Sound
-- assignments in an order in which each reads what is there, and their values as a fold
pub mod Settled
-- what holds of a module without a fault
pub mod WellFormed
-- what a module does over rows
pub mod Rows
-- the verifier
pub mod Verifier
