-- checks in their order, and the fault that is named
pub mod Checks
-- which nodes fit the table of operations
pub mod Fitting
-- the numbers of the rules, by name
pub mod RuleNumbers
-- the rules and limits of each line
pub mod Lines
-- the rules and limits of a package
pub mod Verified
-- what functions of this crate promise to one another, and nobody else needs
pub mod Inner
-- packages that mean the same
pub mod Same
-- what has a type has a value of it
pub mod Typed
