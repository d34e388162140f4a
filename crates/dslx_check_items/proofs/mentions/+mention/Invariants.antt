use Rattle.std.proofs.Common.{◌≡◌, drop, map}
use Rattle.dslx_meaning.specs.Rules.Mentions.{mentioned, mentioned_in_arg, mentioned_in_type}
use Rattle.dslx_check_items.specs.Inner.Walks.{mentioning_all, running}
use Rattle.dslx_check_items.specs.Inner.Parts.{in_arm, in_field, in_stmt, pattern_mentions}
use Rattle.dslx_check_items.specs.Inner.Plain.{walk_shown}
use Rattle.dslx_check_items.proofs.mentions.+mention.Given as goal

abbrev pub invariant-mention_exprs-exprs : goal.invariant-mention_exprs-exprs
invariant-mention_exprs-exprs l = mentioning_all (map mentioned (drop l.expr-index l.exprs)) (walk_shown l.w) ≡ mentioning_all (map mentioned l.exprs) (walk_shown l.initial.w)

abbrev pub invariant-mention_args-arguments : goal.invariant-mention_args-arguments
invariant-mention_args-arguments l = mentioning_all (map mentioned_in_arg (drop l.arg-index l.args)) (walk_shown l.w) ≡ mentioning_all (map mentioned_in_arg l.args) (walk_shown l.initial.w)

abbrev pub invariant-mention_fields-fields : goal.invariant-mention_fields-fields
invariant-mention_fields-fields l = mentioning_all (map in_field (drop l.field-index l.fields)) (walk_shown l.w) ≡ mentioning_all (map in_field l.fields) (walk_shown l.initial.w)

abbrev pub invariant-mention_types-types : goal.invariant-mention_types-types
invariant-mention_types-types l = mentioning_all (map mentioned_in_type (drop l.ty-index l.types)) (walk_shown l.w) ≡ mentioning_all (map mentioned_in_type l.types) (walk_shown l.initial.w)

abbrev pub invariant-mention_patterns-patterns : goal.invariant-mention_patterns-patterns
invariant-mention_patterns-patterns l = mentioning_all (map pattern_mentions (drop l.pattern-index l.patterns)) (walk_shown l.w) ≡ mentioning_all (map pattern_mentions l.patterns) (walk_shown l.initial.w)

abbrev pub invariant-mention_statements-statements : goal.invariant-mention_statements-statements
invariant-mention_statements-statements l = running (map in_stmt (drop l.statement-index l.statements)) (walk_shown l.w) ≡ running (map in_stmt l.statements) (walk_shown l.initial.w)

abbrev pub invariant-mention_arms-arms : goal.invariant-mention_arms-arms
invariant-mention_arms-arms l = mentioning_all (map in_arm (drop l.arm-index l.arms)) (walk_shown l.w) ≡ mentioning_all (map in_arm l.arms) (walk_shown l.initial.w)
