-- induction on trees, and trees beside what they come to
pub mod Trees
-- judgements with which nothing is wrong
pub mod WellTypedParts
-- operators, casts, indices, parts of bits and fields
pub mod OfOperations
-- constants, widths, sizes and slices
pub mod OfConstants
-- written types
pub mod OfTypes
-- tuples, arrays and struct values
pub mod OfAggregates
-- names, members of enums and numbers
pub mod OfNames
-- `if`, blocks and loops
pub mod OfControl
-- loops
pub mod OfLoops
-- calls of builtins
pub mod OfBuiltins
-- parametrics
pub mod OfParametricArgs
-- calls of functions
pub mod OfFunctions
-- the trees of parts, and what they mean
pub mod Links
-- patterns
pub mod OfShapes
-- `match`
pub mod OfMatch
-- places at which all but locals are bound alike
pub mod OfScopes
-- narrow tuples
pub mod OfNarrow
-- the induction on trees
pub mod Joined
-- values that come back from their flat words
pub mod OfFlat
-- instances of functions
pub mod Bodies
