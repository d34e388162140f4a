-- what an operand stands for in a checked expression
pub mod Given
-- comparisons and shifts to the right, by how words are read
pub mod Signs
-- values as they are written out
pub mod Literals
