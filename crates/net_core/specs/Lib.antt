-- what a proc does in one activation, and the conditions on it
pub mod Behavior
-- a proc alone, over the words that its channels will ever bring
pub mod Trace
-- how far each proc comes in a network with bounded channels, and the final cut
pub mod Cuts
-- the machine that makes one event at a time, as steps on cuts
pub mod Machine
-- what a cut leaves: the outcome
pub mod Outcomes
-- which networks, bodies, inputs, depths and outcomes belong together
pub mod WellFormed
-- what a configuration of the machine shows
pub mod Shows
-- what is kept of an activation that is open
pub mod Keeps
-- what a proc's next event can be
pub mod Nexts
-- what can be known of a cut by counts alone
pub mod Counted
-- contracts of private functions
pub mod Inner
