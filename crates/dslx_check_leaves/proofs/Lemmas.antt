-- walks one after another
pub mod Walking
-- parts one after another
pub mod Each
-- what trees come to, by what stands at their tops
pub mod Levels
-- arrays and tuples
pub mod OnArrays
-- walks that bind names
pub mod Moving
-- blocks, statements and patterns, by what stands at their tops
pub mod Scopes
-- statements that bind names
pub mod Binding
-- patterns
pub mod OnPatterns
-- loops
pub mod Loops
-- nodes of functions that look things up
pub mod Whole
-- arms of a match
pub mod OnArms
-- tops of nodes
pub mod Tops
-- tops of calls
pub mod OnCallTops
-- struct values
pub mod OnStructs
-- calls
pub mod OnCalls
-- patterns that are one value of which more is looked up
pub mod OnOneValue
-- effects
pub mod OnEffects
-- which values patterns fit, and whether a match fits all
pub mod Fits
