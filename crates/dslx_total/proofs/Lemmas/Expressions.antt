-- Widths of bits in types, and types whose arrays have elements, as lemmas. This module is for other crates' proofs; nothing else of this
-- folder is.
pub use Rattle.dslx_total.proofs.OnExpressions.InTypes.{in_array, in_bits, in_enum, in_struct, in_tuple, own_width}
pub use Rattle.dslx_total.proofs.OnExpressions.OfProcs.{sized_there, stands_with, typed_with}
pub use Rattle.dslx_total.proofs.OnExpressions.Constants.{bound_there, constant_there}
pub use Rattle.dslx_total.proofs.OnExpressions.Joined.{block_part_lowers_to, expression_part, pattern_part, type_is_wide, type_part_lowers_to}
pub use Rattle.dslx_total.proofs.OnExpressions.Limits.{narrow, not_passed, settled_limits}
pub use Rattle.dslx_total.proofs.OnExpressions.OfAggregates.{array_is}
pub use Rattle.dslx_total.proofs.OnExpressions.OfControl.{annotated_there, stands_behind, typed_behind}
pub use Rattle.dslx_total.proofs.OnExpressions.Inhabited.{some_value}
pub use Rattle.dslx_total.proofs.OnExpressions.OfEffects.{ChannelThere, EffectWellTyped, channel_there, effect_well_typed, received_declared, token_declared, typing_at}
pub use Rattle.dslx_total.proofs.OnExpressions.OfInstances.{ArgumentsExist, arguments_stand, plain_name}
pub use Rattle.dslx_total.proofs.OnExpressions.OfMatch.{alternatives_known, none_binds, one_clean, plain_locals}
pub use Rattle.dslx_total.proofs.OnExpressions.OfPatterns.{EachPatternLowers, local_beside}
pub use Rattle.dslx_total.proofs.OnExpressions.OfTables.{IsInTable, TableHas, calls_known, next_there}
pub use Rattle.dslx_total.proofs.OnExpressions.OfTables.{one_more as one_instance_more}
pub use Rattle.dslx_total.proofs.OnExpressions.Parts.{LowersTo, LowersToType, alone_lowers_to, all_sound, well_typed_there, within_lowers_to}
