pub mod OneCut
pub mod CutsSoFar
pub mod PrefixFacts
pub mod Powers
