-- a proc as its scheduler sees it: the delays and sources of its nodes
pub mod Timed
-- which schedules of a proc are legal, and which is the least
pub mod Legal
-- what is answered: the schedule, or the cause for which there is none
pub mod Answer
-- the schedules of a package, or the first proc that has none
pub mod Packages
-- what functions of this crate promise to one another, and nobody else needs
pub mod Inner
-- laws
pub mod Laws
-- the text of schedules
pub mod Text
