pub mod Lemmas
-- the verifier
pub mod OnVerifier
