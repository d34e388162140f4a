-- options that are there
pub mod OnOptions
-- the layers of expressions
pub mod OnLayers
-- expressions of words, and lists of expressions
pub mod OnParts
-- tuples, arrays and their parts
pub mod OnAggregates
-- choices, and what is bound
pub mod OnControl
-- functions
pub mod OnCalls
-- each kind of expression
pub mod OnLowered
