-- an expression and its span
pub mod Exprs
-- what the rules of numbers, names, arrays and parentheses make
pub mod Atoms
-- what the rules of calls and of arguments between `<` and `>` make
pub mod Calls
-- what the rules of atoms and arguments do where their symbols are complete
pub mod Rules
