mod OneReading
mod OneTree
mod Texts
-- the builder
pub mod OnBuilder
-- the builder makes what the rules say
pub mod OnBuilt
-- the depth of trees
pub mod OnDepths
-- the names of ends
pub mod OnEnds
-- the spans of trees
pub mod OnSpans
