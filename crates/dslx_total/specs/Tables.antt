-- tables of functions
pub mod Tables
