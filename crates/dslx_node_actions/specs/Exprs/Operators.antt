-- what the rules of operators and of what stands behind an atom make
pub mod Operators
-- what these rules do where their symbols are complete
pub mod Rules
