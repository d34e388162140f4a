-- what trees come to, by what stands at their tops
pub mod Levels
