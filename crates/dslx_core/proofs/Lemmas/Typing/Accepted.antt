-- What is so of items and instances of a text without faults, as lemmas. This module is for other crates' proofs; nothing else of this
-- folder is.
pub use Rattle.dslx_core.proofs.OnTyping.OnAccepted.Namesakes.{few_instances, names_apart, own_faults}
pub use Rattle.dslx_core.proofs.OnTyping.OnAccepted.OneInstance.{one_instance}
pub use Rattle.dslx_core.proofs.OnTyping.OnAccepted.Sound.{IsAccepted, all_empty, all_so, both_empty, each_well_typed, instance_faults, one_of_these, outside, sound}
