-- the texts of names, literals and expressions
pub mod Parts
-- the text of a module
pub mod ModuleText
