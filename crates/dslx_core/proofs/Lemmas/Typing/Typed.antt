-- The laws of this crate as lemmas, with what judgements say where a type is there. This module is for other crates' proofs;
-- nothing else of this folder is.
-- lists of parts
pub mod OfLists
pub use Rattle.dslx_core.proofs.OnTyping.OnTyped.TypingRelations.{none_some, same_some, or_false, not_false, unbroken_parts, rule_holds, test_holds, settled_type, alone_type}
pub use Rattle.dslx_core.proofs.OnTyping.OnTyped.OfTypes.{ElementsOf, base_lies, bits_level, bits_lie, bits_of_width, is_array_of, is_bits_of, is_enum_of, is_struct_of, is_token_of, is_tuple_of, of_array, of_bits, of_struct, of_token, of_tuple, one_bool, one_list, one_name, one_type, own_bits, type_induction, typed_level, of_enum}
pub use Rattle.dslx_core.proofs.Lemmas.Typing.Typed.OfLists.{all_are, all_there}
pub use Rattle.dslx_core.proofs.OnTyping.OnTyped.OfWords.{BaseLies, BitsLie, InRange, MadeBits, and_reduce_lies, binary_made, cast_made, clz_lies, ctz_lies, dyn_slice_lies, in_range, lies, next_lies, number_lies, or_reduce_lies, prefix_made, rev_lies, slice_lies, xor_reduce_lies}
pub use Rattle.dslx_core.proofs.OnTyping.OnTyped.OneName.{one_of_text, like_itself, list_parts, parts_declared, array_declared, element_declared, struct_declared, tuple_declared}
pub use Rattle.dslx_core.proofs.OnTyping.OnTyped.OfOperators.{binary_gives, prefix_gives, cast_gives, bits_declared}
pub use Rattle.dslx_core.proofs.OnTyping.OnTyped.OfAggregates.{index_gives, tuple_gives, tuple_part_given}
pub use Rattle.dslx_core.proofs.OnTyping.OnTyped.OfArrays.{number_given, untyped_given, untyped_gives, untyped_there, typed_gives}
pub use Rattle.dslx_core.proofs.OnTyping.OnTyped.OfNames.{name_gives, member_gives, bool_gives, number_gives}
pub use Rattle.dslx_core.proofs.OnTyping.OnTyped.OfPatterns.{bound_keeps, parts_of_type, one_value_keeps, name_pattern_keeps, tuple_pattern_keeps}
pub use Rattle.dslx_core.proofs.OnTyping.OnTyped.OfControl.{truth_given, if_gives, let_keeps, bare_keeps, statements_keep, block_gives}
pub use Rattle.dslx_core.proofs.OnTyping.OnTyped.OfCalls.{counting_gives, reducing_gives, update_given, BitsGiven, bits_given}
pub use Rattle.dslx_core.proofs.OnTyping.OnTyped.OfParts.{bounds_within, slice_gives, part_gives, field_gives, with_both_type}
pub use Rattle.dslx_core.proofs.OnTyping.OnTyped.OfConstants.{none_shown, shown, constant_is_denoted, denoted_is_known, size_is_denoted, bound_is_denoted}
pub use Rattle.dslx_core.proofs.OnTyping.OnTyped.OfStructs.{struct_gives}
pub use Rattle.dslx_core.proofs.OnTyping.OnTyped.OfMatches.{match_gives}
pub use Rattle.dslx_core.proofs.OnTyping.OnTyped.OfWritten.{bits_mean, wide_means, name_means, tuple_means, array_means}
pub use Rattle.dslx_core.proofs.OnTyping.OnTyped.OfFunctions.{turn_gives, for_gives, function_gives}
pub use Rattle.dslx_core.proofs.OnTyping.OnTyped.OfParametricArgs.{parametric_args_found, inferred_alike, not_unit_is, parametric_is, own_value, own_more, own_bound}
