-- that a chain without a loop ends
pub mod Chains
-- what an expression is worth that fits
pub mod Worth
-- signals in a cycle
pub mod Cycles
-- and over rows
pub mod Given
-- ports that are put one channel after another
pub mod OnPorts
-- declarations and assignments
pub mod OnAssembly
-- FIFOs that are laid out
pub mod OnQueues
-- for other crates
pub mod Lemmas
-- the names of a module
pub mod OnNames
-- the schedules of a package
pub mod OnSchedules
-- what is printed
pub mod OnPrinted
-- what stands at the ends of channels
pub mod OnSides
-- the words that receives keep and find
pub mod OnKept
-- where ports and registers stand
pub mod OnPlaces
-- the wires of a package's parts
pub mod OnMade
-- and its rows
pub mod OnRows
-- which proc has sites at an end of a channel
pub mod OnEnds
-- the procs of a package, one after another
pub mod OnProcs
-- the parts of a package that are put together
pub mod OnPut
-- the steps by which they are
pub mod OnBuild
-- the hardware of IR procs: the signals of their nodes and sites, and where their registers stand
pub mod OnSignals
-- scheduled packages as blocks
pub mod OnSchedule
-- the hardware of IR procs that are scheduled
pub mod OnPipelines
-- what goes through the ports of a package's module, as a simulation of it shows it
pub mod OnStreams
