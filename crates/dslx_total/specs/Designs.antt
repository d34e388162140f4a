-- tables of procs, and designs
pub mod Designs
