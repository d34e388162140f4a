-- `check` and `run` of designs
-- `ir`, and packages of designs
-- `opt`
-- `run` of IR packages
-- `schedule`
-- `sim`
-- `verilog`
-- for other crates' proofs
-- what all commands share
mod Answering
pub mod Lemmas
pub mod OnDesign
pub mod OnGen
pub mod OnIr
pub mod OnLowered
pub mod OnOpt
pub mod OnSchedule
pub mod OnShared
pub mod OnSim
pub mod OnVerilog
