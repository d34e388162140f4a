-- values that no word of the code holds
pub mod Helds
-- builtins of one operand, by the bits that it is
pub mod Operands
-- numbers in the ranges of bits
pub mod RangeLemmas
-- how many turns there are between two words
pub mod TurnLemmas
