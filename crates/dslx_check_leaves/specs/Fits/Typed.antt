-- Trees beside their typings. A tree beside what it comes to is the tree itself, so that all that is asked of the tree computes.
use Rattle.std.specs.Prelude.{ℕ, List, ◌++◌, Bool, Option, map}
use Rattle.std.specs.Option.{option_map}
use Rattle.xb_span.specs.declared.span.Span.{Span}
use Rattle.dslx_tree.specs.declared.expr.Arm.{Arm, out-Arm}
use Rattle.dslx_tree.specs.declared.expr.Number.{Number, out-Number}
use Rattle.dslx_tree.specs.declared.pattern.Pattern.{Pattern}
use Rattle.dslx_tree.specs.declared.type_expr.TypeExpr.{TypeExpr}
use Rattle.dslx_meaning.specs.Lists.{all_some, and_then, where_true}
use Rattle.dslx_meaning.specs.declared.ty.DslxType.{DslxType}
use Rattle.dslx_meaning.specs.Rules.AggregateRules.{number_typing}
use Rattle.dslx_meaning.specs.Rules.ControlRules.{ArmTyping, all_known, arm_values, arms_faults, arms_reached, arms_size, first_of_types, match_faults, written_typing}
use Rattle.dslx_meaning.specs.Rules.NodeRules.{expr_pair, type_pair, typing_steps}
use Rattle.dslx_meaning.specs.Rules.Paired.{paired_pattern}
use Rattle.dslx_meaning.specs.Rules.PatternRules.{is_there, one_value}
use Rattle.dslx_meaning.specs.Rules.TypeEnvs.{Judgement, TypeEnv, Typed, one_and, plus_size, settled, types_of}
use Rattle.dslx_meaning.specs.Rules.Typings.{ArmSeen, PatternPair, PatternSeen, TypePair, typing_sorts}

abbrev pub type_typed : TypeExpr → TypePair
type_typed t = (t, (type_pair t).1)

abbrev pub pattern_typed : Pattern → PatternPair
pattern_typed p = (p, (paired_pattern typing_sorts typing_steps p).1)

abbrev pub arm_typed : Arm → ArmSeen
arm_typed a = record { patterns = map pattern_typed (out-Arm a).patterns; value = ((out-Arm a).value, (expr_pair (out-Arm a).value).1) }

-- a number, to which no limit applies
abbrev pub number_at : Span → Number → TypeEnv → Judgement
number_at span n context =
    number_typing span (written_typing context (option_map type_typed (out-Number n).ty)) (record { is_negative = (out-Number n).is_negative; value = (out-Number n).value })

-- what a pattern comes to against a type
abbrev pub PatternFrom : Type 0
PatternFrom = TypeEnv → Option DslxType → List (List ℕ) → List Typed → PatternSeen

abbrev pub number_pattern_at : Span → Bool → Number → PatternFrom
number_pattern_at span may_fail n context t names locals =
    let own = number_at span n context in
    one_value span may_fail t names locals own (is_there own.ty)

-- a match from its value and its arms
abbrev pub match_half : Span → TypeEnv → Judgement × List ArmTyping → Judgement
match_half span context x =
    let value = x.0 in
    let js = x.1 in
    settled span (and_then value.ty (λ t. where_true (all_known js) (first_of_types (all_some (types_of (arm_values js))))))
    (value.faults ++ arms_faults js ++ match_faults span context value.ty js)
    (value.reached ++ arms_reached js) (one_and (plus_size value.size (arms_size js)))
