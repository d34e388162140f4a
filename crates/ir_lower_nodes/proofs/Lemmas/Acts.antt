-- For other crates' proofs: the laws of this crate as lemmas, and what is done one after another.
pub use Rattle.ir_lower_nodes.proofs.OnActs.OnSame.{alike_same}
pub use Rattle.ir_lower_nodes.proofs.OnActs.OnParts.{alike_as, nodes_append, sites_append, steps_end, steps_append, step_sites_append}
