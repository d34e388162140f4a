-- types that are equal in all their parts
pub mod Equal
-- widths of all bits in a type
pub mod InTypes
-- what parts become
pub mod Parts
-- lists of parts
pub mod Lists
-- types within the limits
pub mod Limits
-- judgements within the limits
pub mod Limited
-- numbers without a type
pub mod Bare
-- constants, sizes and bounds
pub mod Constants
-- operators, casts, indices and fields
pub mod OfOperations
-- slices
pub mod OfSlices
-- written types
pub mod OfTypes
-- names, members of enums and numbers
pub mod OfNames
-- tuples and arrays
pub mod OfAggregates
-- struct values
pub mod OfStructs
-- patterns
pub mod OfPatterns
-- `match`
pub mod OfMatch
-- `if`, statements and blocks
pub mod OfControl
-- loops
pub mod OfLoops
-- calls
pub mod OfCalls
-- the induction on trees
pub mod Joined
-- a value of each type
pub mod Inhabited
-- instances of functions
pub mod OfInstances
-- tables of instances
pub mod OfTables
-- effects at the top of `next`
pub mod OfEffects
-- the block of `next`
pub mod OfNext
-- `next` of instances of procs
pub mod OfProcs
-- members of procs
pub mod OfMembers
