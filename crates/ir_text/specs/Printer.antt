-- the texts of numbers, types, constants and operands
pub mod Parts
-- the text of each line
pub mod Lines
