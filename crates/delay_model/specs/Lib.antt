-- how texts spell operations, and the operation of a name
pub mod Names
-- how many operands an operation takes, and its attributes
pub mod Signatures
-- how long operations take, by which width
pub mod Delays
