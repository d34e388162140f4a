-- lists and names, as the definitions of the language use them
mod ListLemmas
-- for other crates' proofs
pub mod Lemmas
-- inference of parametric values
pub mod OnInference
-- operators
pub mod OnOperators
