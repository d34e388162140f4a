pub mod Lemmas
pub mod Names
pub mod Numbers
pub mod Values
pub mod Written
pub mod Lines
