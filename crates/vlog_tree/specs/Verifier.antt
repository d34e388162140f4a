-- checks in their order, and the fault that is named
pub mod Checks
-- where the parts of a module stand
pub mod WithSpans
-- the ports that a module must have
pub mod Ports
-- the numbers of the rules, by name
pub mod RuleNumbers
-- the rules and limits of each part
pub mod Parts
-- which wires depend on themselves
pub mod Loops
-- the rules and limits of a module
pub mod Verified
-- what functions of this crate promise to one another, and nobody else needs
pub mod Inner
