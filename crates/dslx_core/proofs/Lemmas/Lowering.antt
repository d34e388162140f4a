-- What is there where something is lowered, and the laws of this crate as lemmas. This module is for other crates' proofs; nothing else of
-- this folder is.
pub use Rattle.dslx_core.proofs.OnLowering.Kept.{from_then, from_both, from_where}
pub use Rattle.dslx_core.proofs.OnLowering.Tables.{calls_settle, parametric_args_own, parametric_args_hide, all_one_number, at_the_end, not_the_end}
pub use Rattle.dslx_core.proofs.OnLowering.Slots.{constant_means, size_means}
pub use Rattle.dslx_core.proofs.OnLowering.Joined.{type_of_text_means}
pub use Rattle.dslx_core.proofs.OnLowering.OfProcs.{next_of_instances, state_of_instances}
pub use Rattle.dslx_core.proofs.OnLowering.FromPlain.{from_plain}
