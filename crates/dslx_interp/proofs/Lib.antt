-- the machine that evaluates
pub mod OnEval
-- operations on words and values
pub mod OnOperate
-- elaboration
pub mod OnNetwork
-- lemmas for other crates
pub mod Lemmas
