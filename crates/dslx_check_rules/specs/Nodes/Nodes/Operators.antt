-- Operators, casts and slices.
use Rattle.std.specs.Prelude.{ℕ, ◌++◌, ◌-◌, ◌&&◌, ◌||◌, not, Bool, Option, Some, None, if◌then◌else◌}
use Rattle.xb_span.specs.declared.span.Span.{Span}
use Rattle.dslx_tree.specs.declared.operator.Binary.{Binary}
use Rattle.dslx_meaning.specs.Lists.{and_then, with_both}
use Rattle.dslx_meaning.specs.Types.{unsigned}
use Rattle.dslx_meaning.specs.Operators.{index_number}
use Rattle.dslx_meaning.specs.declared.ty.DslxType.{DslxType}
use Rattle.dslx_meaning.specs.declared.value.DslxValue.{DslxValue}
use Rattle.dslx_meaning.specs.declared.value.UntypedLiteral.{UntypedLiteral}
use Rattle.dslx_meaning.specs.Rules.PatternRules.{is_there}
use Rattle.dslx_meaning.specs.Rules.TypeEnvs.{Judgement, settled, plus_size, one_and}
use Rattle.dslx_meaning.specs.Rules.ConstantRules.{ConstantSeen, is_unsigned}
use Rattle.dslx_meaning.specs.Rules.OperatorRules.{binary_type, binary_faults, bound_number, is_bits, is_past, is_bits_or_enum, slice_faults, unless_type}
use Rattle.dslx_meaning.specs.Rules.RuleNumbers as rule

abbrev pub prefix_of : Span → Judgement → Judgement
prefix_of span a = settled span a.ty (a.faults ++ unless_type is_bits rule.PREFIX_OPERAND_IS_BITS span a.ty) a.reached (one_and a.size)

abbrev pub binary_of : Span → Binary → Span → Span → Judgement → Judgement → Judgement
binary_of span o l r a c =
    settled span (binary_type o a.ty c.ty) (a.faults ++ c.faults ++ binary_faults o span l a.ty r c.ty) (a.reached ++ c.reached) (one_and (plus_size a.size c.size))

abbrev pub cast_of : Span → Judgement → Judgement → Judgement
cast_of span a target =
    settled span (and_then a.ty (λ t. target.ty))
    (a.faults ++ target.faults ++ unless_type is_bits_or_enum rule.CAST_TO_BITS span a.ty ++ unless_type is_bits rule.CAST_TO_BITS span target.ty)
    (a.reached ++ target.reached) (one_and a.size)

abbrev pub slice_of : Span → Judgement → ConstantSeen → ConstantSeen → Judgement
slice_of span whole from to =
    settled span (and_then whole.ty (λ t. with_both (bound_number from) (bound_number to) (λ i j. Some (unsigned (j - i)))))
    (whole.faults ++ from.judgement.faults ++ to.judgement.faults ++ slice_faults span whole.ty from to)
    (whole.reached ++ from.judgement.reached ++ to.judgement.reached)
    (one_and (plus_size whole.size (plus_size from.judgement.size to.judgement.size)))

abbrev pub part_of : Span → Judgement → Judgement → Judgement → Judgement
part_of span whole start target =
    settled span (and_then whole.ty (λ t. and_then start.ty (λ u. target.ty)))
    (whole.faults ++ start.faults ++ target.faults
    ++ unless_type is_bits rule.SLICE_OF_BITS span whole.ty ++ unless_type is_unsigned rule.SLICE_OF_BITS span start.ty ++ unless_type is_unsigned rule.SLICE_OF_BITS span target.ty)
    (whole.reached ++ start.reached ++ target.reached)
    (one_and (plus_size whole.size start.size))

-- ---- bounds of slices

abbrev pub bound_of : Option UntypedLiteral → Option DslxValue → Option ℕ
bound_of None v = and_then v index_number
bound_of (Some number) v = if number.is_negative then None else Some number.value

abbrev pub is_wrong_bound_of : Option DslxType → Option UntypedLiteral → Option DslxValue → Bool
is_wrong_bound_of t u v = ((is_there v || is_there u) && not (is_there (bound_of u v))) || is_past t (bound_of u v)

abbrev pub type_between : Option ℕ → Option ℕ → Option DslxType
type_between from to = with_both from to (λ i j. Some (unsigned (j - i)))
