-- what crates above take by name
pub mod Lemmas
-- the table of types
pub mod OnTable
-- kinds of types
pub mod OnKinds
-- limits on types
pub mod OnLimits
-- the types of what operators give
pub mod OnBinary
-- what the nodes of DSLX's trees come to, by what their parts come to
pub mod OnNodes
-- what control comes to, by what its parts come to
pub mod OnControl
