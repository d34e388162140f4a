-- The laws of this crate as lemmas. This module is for other crates' proofs; nothing else of this folder is.
pub use Rattle.dslx_core.proofs.OnTyping.OnActivities.Activations.{activation_goes}
pub use Rattle.dslx_core.proofs.OnTyping.OnActivities.Statements.{body_goes}
