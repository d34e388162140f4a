-- the machine that evaluates
pub mod Eval
-- elaboration
pub mod Network
