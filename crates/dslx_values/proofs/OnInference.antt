-- what is inferred past the last argument
pub mod Ends
-- what written types infer, by what stands at their tops
pub mod Levels
