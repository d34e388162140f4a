pub mod Words
pub mod Resets
pub mod Prefixes
pub mod Exact
-- for the crates above
pub mod Lemmas
-- netlists of pipelined hardware: lists of wires over ports and registers, and what they carry
pub mod OnNetlist
