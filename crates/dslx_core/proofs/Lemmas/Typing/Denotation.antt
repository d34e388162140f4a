-- What names of each kind of item mean, and meanings by their names, as lemmas. This module is for other crates' proofs; nothing else of
-- this folder is.
pub use Rattle.dslx_core.proofs.OnTyping.OnDenotation.Chained.{known_kinds}
pub use Rattle.dslx_core.proofs.OnTyping.OnLaws.Endings.{OfKinds, of_kinds, one_meaning}
