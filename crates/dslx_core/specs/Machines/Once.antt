-- tables in which each instance stands once
pub mod Once
