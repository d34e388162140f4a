-- what operands infer
pub mod Inferred
