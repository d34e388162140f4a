-- core expressions, shapes and plain values at each of their kinds
pub mod Openings
-- what operators give for bits
pub mod Words
-- options, operands and results
pub mod Kept
-- operators
pub mod Operations
-- the test of equal types
pub mod OneType
-- names at their numbers
pub mod Slots
-- equal values without signs and names
pub mod Likes
-- patterns
pub mod OfPatterns
-- names, numbers and members
pub mod OfNames
-- lists of expressions
pub mod Lists
-- blocks, choices and loops
pub mod OfControl
-- matches
pub mod OfMatch
-- tuples, and parts of values
pub mod OfParts
-- casts, slices and parts of bits
pub mod OfCasts
-- builtins and calls
pub mod OfCalls
-- binary operators
pub mod OfBinary
-- written types
pub mod OfTypes
-- arrays and structs
pub mod OfAggregates
-- parts beside their trees
pub mod Links
-- the induction
pub mod Joined
-- instances of functions
pub mod Tables
-- arrays whose last element is repeated
pub mod OfDots
-- values that come from plain ones
pub mod FromPlain
-- the steps of `next`
pub mod OfSteps
-- procs
pub mod OfProcs
