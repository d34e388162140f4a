-- What functions of this crate promise to one another.

-- binary operators by what they do with words and orders
pub mod Binaries
-- the bits that the one operand of a builtin is
pub mod Operands
-- numbers in the ranges of bits, and words in their order
pub mod Ranges
