-- what the rules of struct values make
pub mod Fields
-- what the rules of blocks where an expression stands, of `if`, `match` and `for` make
pub mod Braces
-- what these rules do where their symbols are complete
pub mod Rules
