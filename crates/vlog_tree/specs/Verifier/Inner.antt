-- what code holds of what definitions see
pub mod Seen
-- the first assignment whose target depends on itself
pub mod Firsts
