-- sums, products, quotients and complements
pub mod Arithmetic
-- each operation on words, by its one formula
pub mod Operations
-- the two orders
pub mod Order
-- numbers side by side, parts of a number, numbers made longer
pub mod Parts
-- the positions of bits
pub mod BitPositions
-- one bit of all bits
pub mod Reduction
-- shifts by any amount
pub mod Shift
-- signed values
pub mod Sign
-- a number of some bits, as contracts see `Bits`
pub mod Word
