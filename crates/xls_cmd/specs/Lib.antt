-- what the program answers to words, by what the files hold
pub mod Answer
-- `check`, and runs of designs
pub mod Design
-- `gen`
pub mod Gen
-- runs of IR packages
pub mod Ir
-- `ir`, and packages of designs
pub mod Lowered
-- `opt`
pub mod Opt
-- `run`
pub mod Run
-- `schedule`
pub mod Schedule
-- what all commands share
pub mod Shared
-- `sim`
pub mod Sim
-- `verilog`
pub mod Verilog
-- which words want several workers
pub mod Workers
