-- Instances of procs that are reached in a text without faults, as lemmas. This module is for other crates' proofs; nothing else of
-- this folder is.
pub use Rattle.dslx_total.proofs.OnConfigs.There.{accepted, is_there}
