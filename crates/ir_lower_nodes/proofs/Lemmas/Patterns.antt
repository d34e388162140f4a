-- For other crates' proofs: what patterns do with values, and with operands.
pub use Rattle.ir_lower_nodes.proofs.OnPatterns.OnShapes.{apart_is, always_apart, arm_apart, any_first, compared}
pub use Rattle.ir_lower_nodes.proofs.OnPatterns.OnParts.{typed_value, bound_typed, have_more, have_length, get_there, one_item, IsTupleHere, tuple_here, element_put}
pub use Rattle.ir_lower_nodes.proofs.OnPatterns.OnBound.{BindsTo, ArmBindsTo, map_more, grown_twice}
pub use Rattle.ir_lower_nodes.proofs.OnPatterns.OnFits.{AnyFitsTo}
