-- values of types
pub mod OfTypes
-- what judgements say
pub mod TypingRelations
-- numbers that lie in their width
pub mod OfWords
-- operators, casts and slices
pub mod OfOperators
-- declared types of one name
pub mod OneName
-- tuples, arrays and structs
pub mod OfAggregates
-- array literals
pub mod OfArrays
-- names and literals
pub mod OfNames
-- patterns
pub mod OfPatterns
-- blocks, `if` and `for`
pub mod OfControl
-- builtins
pub mod OfCalls
-- slices, parts of bits and fields
pub mod OfParts
-- constants, sizes and bounds
pub mod OfConstants
-- struct values
pub mod OfStructs
-- `match`
pub mod OfMatches
-- written types
pub mod OfWritten
-- turns of loops, and functions
pub mod OfFunctions
-- parametrics of calls
pub mod OfParametricArgs
