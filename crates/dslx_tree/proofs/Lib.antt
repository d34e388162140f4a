-- chains of operators
pub mod OnChains
-- operators
pub mod OnOperators
-- for other crates' proofs
pub mod Lemmas
