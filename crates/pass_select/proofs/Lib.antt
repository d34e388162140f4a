pub mod Chosen
pub mod Appends
pub mod Lemmas
