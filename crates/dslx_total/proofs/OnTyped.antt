-- types that are equal in all their parts
pub mod OnOneType
-- types without signs and names, and sound types
pub mod OnTypes
-- values as literals
pub mod OnLiterals
-- what is lowered where its parts are there
pub mod OnOptions
-- each kind of expression
pub mod OnConstructs
-- operators
pub mod OnOperators
-- scopes in which one more value is bound
pub mod OnScopes
-- patterns
pub mod OnPatterns
-- types of few bits
pub mod OnSmall
-- values that pass the test
pub mod OnSame
-- values that fit patterns
pub mod OnFits
-- the induction on patterns
pub mod Fitting
-- what parts become
pub mod OnParts
-- types within the limits
pub mod OnSound
-- operators, casts, slices, indices, parts and fields
pub mod OfOperations
-- names, members and numbers
pub mod OfNames
-- tuples and arrays
pub mod OfAggregates
-- struct values
pub mod OfStructs
-- `let`, statements and blocks
pub mod OfControl
-- calls
pub mod OfCalls
-- `match`
pub mod OfMatch
-- loops
pub mod OfLoops
-- written types
pub mod OfWritten
-- the induction on trees
pub mod Joined
-- instances of functions
pub mod OfFunctions
-- signatures of functions
pub mod OnSignatures
-- tables of instances
pub mod OfTables
-- steps over what they are lowered to
pub mod OnSteps
-- the steps of `next`
pub mod OfSteps
-- `next` of instances of procs
pub mod OfNexts
