-- the command line as clap reads it, and what words say
pub mod CommandLine
-- the same without where the names lie
pub mod Named
-- which requests have numbers within their bounds
pub mod Bounds
