pub mod Lemmas
mod Stepping
-- the tokens of an IR text
pub mod OnToken
