-- The public library: lemmas on what std lacks.
pub mod Prefixes
pub mod Faults
pub mod Indexed
pub mod Indices
