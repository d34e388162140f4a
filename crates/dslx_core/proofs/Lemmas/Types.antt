-- For other crates' proofs: what types say of values and of patterns, value by value and shape by shape.
pub use Rattle.dslx_core.proofs.OnTypes.OnOptions.{IsThen, then_is, where_so}
pub use Rattle.dslx_core.proofs.OnTypes.OnTypes.{if_alike_is, alike_itself, type_itself, bits_type, tuple_type, array_type, width_of_bits, parts_of, elements_of_array}
pub use Rattle.dslx_core.proofs.OnTypes.OnWords.{IsWordIn, HasWordIn, typed_word, word_in_value}
pub use Rattle.dslx_core.proofs.OnTypes.OnLists.{typed_tuple, typed_array, part_typed, element_typed}
pub use Rattle.dslx_core.proofs.OnTypes.OnShapes.{MayBind, Binds, IsPattern, is_shape, same_length, arm_fits, arm_keeps, certain_fits}
pub use Rattle.dslx_core.proofs.OnTypes.OnExprs.{SoundBy, value_typed, expressions_sound}
pub use Rattle.dslx_core.proofs.OnTypes.OnFlat.{value_fits}
pub use Rattle.dslx_core.proofs.OnTypes.OnPatterns.{like_is, like_itself, binds_behind, first_behind}
pub use Rattle.dslx_core.proofs.OnTypes.OnOpenings.{arm_of_core, type_literal, type_slot, type_tuple, type_array, type_unary, type_binary, type_cast, type_slice, type_part, type_element, type_index, type_update, type_bind, type_choose, type_select, type_loop, type_call, type_arm, binds_wild, binds_bound, binds_equal, binds_tuple}
