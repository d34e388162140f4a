-- What is true of all values, types and tests, as lemmas, and that values depend on what is mentioned. This module is for other
-- crates' proofs; nothing else of this folder is.
-- recursion between items
pub mod Chains
-- reaching, and ranks
pub mod Reaching
pub use Rattle.dslx_core.proofs.OnTyping.OnLaws.Typed.{and_true, unbroken, both_unbroken, AreBits, is_bits_value, is_unsigned_value, is_bits_type, some_typed, binary_typed, prefix_typed, cast_typed}
pub use Rattle.dslx_core.proofs.OnTyping.OnLaws.Free.{value_depends, written_type_depends, pattern_depends, bound_alike}
pub use Rattle.dslx_core.proofs.OnTyping.OnLaws.Agreeing.{NamesAgree, Extend, FitAlike, unchanged}
pub use Rattle.dslx_core.proofs.OnTyping.OnLaws.Endings.{agree_on, item_over, Agreeing, AllGiven, call_one, given_agree, given_here, given_more, parametric_args_one}
pub use Rattle.dslx_core.proofs.OnTyping.OnLaws.Orders.{none_without_faults}
pub use Rattle.dslx_core.proofs.OnTyping.OnLaws.OneValue.{one_value_by_test, value_equals_itself}
