-- signals that carry numbers of their widths
pub mod Widths
-- the ports of a module
pub mod Ports
-- a module that is put together
pub mod Assembly
-- what holds of each element of a list, with its index
pub mod Each
-- the FIFOs of inner channels
pub mod Queues
-- what the outside does at channels in a row
pub mod Outside
-- a module that drives what a block does
pub mod Drives
-- the Verilog text of a package
pub mod Texts
-- the parts of a package's netlist
pub mod Parts
-- the ends of channels
pub mod Sides
-- all procs, with their schedules
pub mod Procs
-- what the functions that put its parts together promise one another
pub mod Put
-- the module of a package
pub mod Modules
-- the hardware of IR procs: the signals of their nodes and sites, and where their registers stand
pub mod Signals
-- scheduled packages as blocks
pub mod Schedule
-- the hardware of IR procs that are scheduled
pub mod Pipelines
-- what goes through the ports of a package's module, as a simulation of it shows it
pub mod Streams
