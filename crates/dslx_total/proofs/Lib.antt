-- what is checked
pub mod OnClosed
-- `config`
pub mod OnConfigs
-- designs
pub mod OnDesigns
-- expressions
pub mod OnExpressions
-- families of procs
pub mod OnFamilies
-- instances
pub mod OnInstances
-- networks of accepted texts
pub mod OnNets
-- the same meaning, the same outcomes
pub mod OnOutcomes
-- parametric arguments of their own types
pub mod OnOwn
-- tables of functions
pub mod OnTables
-- words of channels
pub mod OnWords
-- for other crates' proofs
pub mod Lemmas
-- what an accepted text is lowered to has types: those of the text, without signs and names
pub mod OnTyped
