-- The laws of this crate as lemmas, of whole trees, and what a judgement with which nothing is wrong says of its parts. This module
-- is for other crates' proofs; nothing else of this folder is.
pub use Rattle.dslx_core.proofs.OnTyping.OnSound.WellTypedParts.{IsAlone, IsSettled, all_in, all_in_three, alone_well_typed, alone_has, limited_well_typed, none_in, none_in_three, not_broken, passed, settled_well_typed, some_fault, unlimited_type}
pub use Rattle.dslx_core.proofs.OnTyping.OnSound.OfFunctions.{CallFound, IsRight, call_found, right_well_typed}
pub use Rattle.dslx_core.proofs.OnTyping.OnSound.OfParametricArgs.{AreGiven, EachGiven, NumbersWellTyped, ParametricArgsKnown, typing_right, parametric_args_given, parametric_args_known}
pub use Rattle.dslx_core.proofs.OnTyping.OnSound.OfBuiltins.{token_declared, wrongly_called}
pub use Rattle.dslx_core.proofs.OnTyping.OnSound.OfNames.{member_known, name_has}
pub use Rattle.dslx_core.proofs.OnTyping.OnSound.OfConstants.{bound_has, constant_has, count_has}
pub use Rattle.dslx_core.proofs.OnTyping.OnSound.OfControl.{bound_known}
pub use Rattle.dslx_core.proofs.OnTyping.OnSound.Joined.{argument_gives, block_of_text_has, expression_gives, expression_has, pattern_gives, statement_gives, type_has_den}
pub use Rattle.dslx_core.proofs.OnTyping.OnSound.Bodies.{function_has_size, function_has_value}
pub use Rattle.dslx_core.proofs.OnTyping.OnSound.Trees.{HoldOn, TreeClaims, held, held_tree, holds_block, holds_expr, holds_pattern, holds_type_expr, own_block, own_expr, own_pattern, own_type_expr, paired, pairing}
