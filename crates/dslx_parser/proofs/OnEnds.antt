-- tokens that are names
pub mod Named
-- what each rule keeps
pub mod Rules
-- what the trees keep
pub mod Kept
