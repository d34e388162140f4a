-- What is known of items where the same is known of those that they mention. This module is for other crates' proofs; nothing else of
-- this folder is.
pub use Rattle.dslx_core.proofs.OnTyping.OnDepends.OfItems.{type_behind, FunctionParts, constant_behind, hidden_behind, inner_behind, Sight, Stage, agreeing, alias_at, inner_at, type_at, den_parts, call_at, constant_at, constant_item_at, enum_at, function_at, function_parts, named_member_at, sound_at, struct_at, mentions_pass, stage_sight, sees_where, reached_in}
pub use Rattle.dslx_core.proofs.OnTyping.OnDepends.Stages.{globals_over_alike, call_unknown, call_unless, constant_unknown, is_proc_item, member_unknown, named_again, own_again, own_mentions, no_enum, no_function, pattern_use, struct_unknown, type_unknown, unused_alike, parametrics_none, unless_proc, uses_over, and_both, not_true}
pub use Rattle.dslx_core.proofs.OnTyping.OnDepends.Levels.{beside_sight, all_below, below_settles, every_item_settles, item_rank, mentions_settle, proc_below, instances_settle, is_reached_so, own_settles, ranks_settle, reached_below, reads_level, settles, settles_closed, settles_longer, settles_next, uses_settle}
pub use Rattle.dslx_core.proofs.OnTyping.OnDepends.Ranks.{ranked}
pub use Rattle.dslx_core.proofs.OnTyping.OnDepends.Declared.{LowPass, Reads, below, below_sight, function_types, own_mentioned}
pub use Rattle.dslx_core.proofs.OnTyping.OnDepends.Same.{all_alike, constant_same, inner_same}
pub use Rattle.dslx_core.proofs.OnTyping.OnDepends.Scopes.{constant_alike, sees_from}
pub use Rattle.dslx_core.proofs.OnTyping.OnDepends.Joined.{expression_alike, written_type_alike}
pub use Rattle.dslx_core.proofs.OnTyping.OnDepends.NoProcs.{NoProcs, no_proc_in_arg, no_proc_in_block, no_proc_in_type, no_procs_join}
pub use Rattle.dslx_core.proofs.OnTyping.OnDepends.Parametrics.{AreBound, Covers, Stands, covers_given, declared_alike, env_behind, default_is, fit_many, of_all, parameter_is, signature_is, stands_all, stands_first, stands_next}
