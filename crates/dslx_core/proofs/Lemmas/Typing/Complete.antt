-- The laws of this crate as lemmas, and the text of an item as a place. This module is for other crates' proofs; nothing else of this folder is.
pub use Rattle.dslx_core.proofs.OnTyping.OnComplete.OfConstants.{alias_has_type, constant_has_value, inner_globals, parametric_has_value}
pub use Rattle.dslx_core.proofs.OnTyping.OnComplete.OfEnums.{enum_has_type}
pub use Rattle.dslx_core.proofs.OnTyping.OnComplete.OfInstances.{instance_has_value, no_constant}
pub use Rattle.dslx_core.proofs.OnTyping.OnComplete.OfStructs.{struct_has_type}
pub use Rattle.dslx_core.proofs.OnTyping.OnComplete.OfTypes.{declared_stays, gives_still, own_parametric_args}
pub use Rattle.dslx_core.proofs.OnTyping.OnComplete.Scopes.{item_env, item_typed, none_own}
