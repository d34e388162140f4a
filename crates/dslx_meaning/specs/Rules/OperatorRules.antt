-- The rules of operators, casts and slices: each by the types of the operands that have one.
use Rattle.std.specs.Prelude.{ℕ, List, [], ◌++◌, ◌+◌, ◌-◌, ◌&&◌, ◌||◌, nat_lt, nat_le, Bool, false, not, Option, Some, None, if◌then◌else◌}
use Rattle.xb_span.specs.declared.span.Span.{Span}
use Rattle.xb_span.specs.declared.fault.Fault.{Fault}
use Rattle.dslx_tree.specs.declared.operator.Binary.{Binary}
use Rattle.dslx_tree.specs.declared.operator.Binary.TheVariants as b
use Rattle.dslx_meaning.specs.Lists.{and_then, with_both}
use Rattle.dslx_meaning.specs.Types.{same_type, bits_in, bits_or_enum, bool_type, unsigned}
use Rattle.dslx_meaning.specs.Operators.{index_number}
use Rattle.dslx_meaning.specs.declared.ty.DslxType.{DslxType}
use Rattle.dslx_meaning.specs.Rules.TypeEnvs.{TypeEnv, Judgement, ExprPair, breaks_if, settled, span_of, alone, plus_size, one_and}
use Rattle.dslx_meaning.specs.Rules.ConstantRules.{ConstantSeen, constant_or_untyped, is_unsigned}
use Rattle.dslx_meaning.specs.Rules.PatternRules.{is_there}
use Rattle.dslx_meaning.specs.declared.ty.BitKind.{BitKind}
use Rattle.dslx_meaning.specs.declared.value.UntypedLiteral.{UntypedLiteral}
use Rattle.dslx_meaning.specs.Rules.RuleNumbers as rule

-- a part that has a type breaks the rule unless the type passes the test
abbrev pub unless_type : (DslxType → Bool) → ℕ → Span → Option DslxType → List Fault
unless_type test rule span None = []
unless_type test rule span (Some t) = breaks_if (not (test t)) rule span

-- where both have one
abbrev pub unless_types : (DslxType → DslxType → Bool) → ℕ → Span → Option DslxType → Option DslxType → List Fault
unless_types test rule span (Some t) (Some u) = breaks_if (not (test t u)) rule span
unless_types test rule span _ _ = []

abbrev pub is_bits : DslxType → Bool
is_bits t = is_there (bits_in t)

abbrev pub is_bits_or_enum : DslxType → Bool
is_bits_or_enum t = is_there (bits_or_enum t)

abbrev pub is_bool : DslxType → Bool
is_bool t = same_type bool_type t

abbrev pub one_bit_type : DslxType → DslxType → Bool
one_bit_type t u = is_bits t && same_type t u

abbrev pub one_unsigned_type : DslxType → DslxType → Bool
one_unsigned_type t u = is_unsigned t && same_type t u

abbrev pub one_comparable_type : DslxType → DslxType → Bool
one_comparable_type t u = is_bits_or_enum t && same_type t u

-- where both parts have a type
abbrev pub when_both : Option DslxType → Option DslxType → DslxType → Option DslxType
when_both (Some t) (Some u) v = Some v
when_both _ _ v = None

abbrev pub width_of_type : DslxType → ℕ
width_of_type t = width_in (bits_in t)
  where
    width_in : Option BitKind → ℕ
    width_in None = 0
    width_in (Some kind) = kind.width

abbrev pub joined_type : Option DslxType → Option DslxType → Option DslxType
joined_type a b = with_both a b (λ t u. Some (unsigned (width_of_type t + width_of_type u)))

-- the rules of a binary operator: its own span, and those of its operands, with their types
abbrev pub binary_faults : Binary → Span → Span → Option DslxType → Span → Option DslxType → List Fault
binary_faults b.Mul span l t r u = unless_types one_bit_type rule.OPERANDS_OF_ONE_TYPE span t u
binary_faults b.Add span l t r u = unless_types one_bit_type rule.OPERANDS_OF_ONE_TYPE span t u
binary_faults b.Sub span l t r u = unless_types one_bit_type rule.OPERANDS_OF_ONE_TYPE span t u
binary_faults b.And span l t r u = unless_types one_bit_type rule.OPERANDS_OF_ONE_TYPE span t u
binary_faults b.Xor span l t r u = unless_types one_bit_type rule.OPERANDS_OF_ONE_TYPE span t u
binary_faults b.Or span l t r u = unless_types one_bit_type rule.OPERANDS_OF_ONE_TYPE span t u
binary_faults b.Div span l t r u = unless_types one_unsigned_type rule.DIVISION_OF_ONE_UNSIGNED_TYPE span t u
binary_faults b.Rem span l t r u = unless_types one_unsigned_type rule.DIVISION_OF_ONE_UNSIGNED_TYPE span t u
binary_faults b.Lt span l t r u = unless_types one_bit_type rule.COMPARISON_OF_ONE_TYPE span t u
binary_faults b.Le span l t r u = unless_types one_bit_type rule.COMPARISON_OF_ONE_TYPE span t u
binary_faults b.Gt span l t r u = unless_types one_bit_type rule.COMPARISON_OF_ONE_TYPE span t u
binary_faults b.Ge span l t r u = unless_types one_bit_type rule.COMPARISON_OF_ONE_TYPE span t u
binary_faults b.Eq span l t r u = unless_types one_comparable_type rule.COMPARISON_OF_ONE_TYPE span t u
binary_faults b.Ne span l t r u = unless_types one_comparable_type rule.COMPARISON_OF_ONE_TYPE span t u
binary_faults b.Both span l t r u = unless_type is_bool rule.CONDITION_IS_BOOL l t ++ unless_type is_bool rule.CONDITION_IS_BOOL r u
binary_faults b.Either span l t r u = unless_type is_bool rule.CONDITION_IS_BOOL l t ++ unless_type is_bool rule.CONDITION_IS_BOOL r u
binary_faults b.Shl span l t r u = unless_type is_bits rule.SHIFT_BY_UNSIGNED l t ++ unless_type is_unsigned rule.SHIFT_BY_UNSIGNED r u
binary_faults b.Shr span l t r u = unless_type is_bits rule.SHIFT_BY_UNSIGNED l t ++ unless_type is_unsigned rule.SHIFT_BY_UNSIGNED r u
binary_faults b.Concat span l t r u = unless_type is_unsigned rule.CONCAT_OF_UNSIGNED l t ++ unless_type is_unsigned rule.CONCAT_OF_UNSIGNED r u

abbrev pub left_type : Option DslxType → Option DslxType → Option DslxType
left_type (Some t) (Some u) = Some t
left_type _ _ = None

-- its type, where no rule is broken
abbrev pub binary_type : Binary → Option DslxType → Option DslxType → Option DslxType
binary_type b.Mul t u = left_type t u
binary_type b.Div t u = left_type t u
binary_type b.Rem t u = left_type t u
binary_type b.Add t u = left_type t u
binary_type b.Sub t u = left_type t u
binary_type b.Concat t u = joined_type t u
binary_type b.Shl t u = left_type t u
binary_type b.Shr t u = left_type t u
binary_type b.And t u = left_type t u
binary_type b.Xor t u = left_type t u
binary_type b.Or t u = left_type t u
binary_type b.Eq t u = when_both t u bool_type
binary_type b.Ne t u = when_both t u bool_type
binary_type b.Lt t u = when_both t u bool_type
binary_type b.Le t u = when_both t u bool_type
binary_type b.Gt t u = when_both t u bool_type
binary_type b.Ge t u = when_both t u bool_type
binary_type b.Both t u = when_both t u bool_type
binary_type b.Either t u = when_both t u bool_type

abbrev pub binary_typing : Span → TypeEnv → Binary → ExprPair → ExprPair → Judgement
binary_typing span context o l r =
    let a = alone context l in
    let c = alone context r in
    settled span (binary_type o a.ty c.ty) (a.faults ++ c.faults ++ binary_faults o span (span_of l) a.ty (span_of r) c.ty)
    (a.reached ++ c.reached) (one_and (plus_size a.size c.size))

-- rule 11
abbrev pub prefix_typing : Span → TypeEnv → ExprPair → Judgement
prefix_typing span context e =
    let a = alone context e in
    settled span a.ty (a.faults ++ unless_type is_bits rule.PREFIX_OPERAND_IS_BITS span a.ty) a.reached (one_and a.size)

-- rule 20: from bits or an enum to bits
abbrev pub cast_typing : Span → TypeEnv → ExprPair → Judgement → Judgement
cast_typing span context e target =
    let a = alone context e in
    settled span (and_then a.ty (λ t. target.ty))
    (a.faults ++ target.faults ++ unless_type is_bits_or_enum rule.CAST_TO_BITS span a.ty ++ unless_type is_bits rule.CAST_TO_BITS span target.ty)
    (a.reached ++ target.reached) (one_and a.size)

-- ---- rule 18: slices

abbrev pub bound_number : ConstantSeen → Option ℕ
bound_number c = by_untyped c.bare
  where
    by_untyped : Option UntypedLiteral → Option ℕ
    by_untyped None = and_then c.value index_number
    by_untyped (Some number) = if number.is_negative then None else (Some number.value)

-- a bound that is known is not negative
abbrev pub is_negative_bound : ConstantSeen → Bool
is_negative_bound c = (is_there c.value || is_there c.bare) && not (is_there (bound_number c))

-- a bound is past the width, whatever the other one is
abbrev pub is_past : Option DslxType → Option ℕ → Bool
is_past (Some t) (Some n) = nat_lt (width_of_type t) n
is_past _ _ = false

-- both bounds are known, and the first one isn't less
abbrev pub bounds_fall : Option ℕ → Option ℕ → Bool
bounds_fall (Some from) (Some to) = nat_le to from
bounds_fall _ _ = false

abbrev pub is_wrong_bound : Option DslxType → ConstantSeen → Bool
is_wrong_bound t c = is_negative_bound c || is_past t (bound_number c)

abbrev pub slice_faults : Span → Option DslxType → ConstantSeen → ConstantSeen → List Fault
slice_faults span t from to =
    unless_type is_bits rule.SLICE_OF_BITS span t
    ++ unless_type is_bits rule.SLICE_OF_BITS span from.judgement.ty ++ unless_type is_bits rule.SLICE_OF_BITS span to.judgement.ty
    ++ breaks_if (is_wrong_bound t from || is_wrong_bound t to || bounds_fall (bound_number from) (bound_number to)) rule.SLICE_OF_BITS span

abbrev pub slice_typing : Span → TypeEnv → ExprPair → ExprPair → ExprPair → Judgement
slice_typing span context e a c =
    let whole = alone context e in
    let from = constant_or_untyped context a in
    let to = constant_or_untyped context c in
    settled span (and_then whole.ty (λ t. with_both (bound_number from) (bound_number to) (λ i j. Some (unsigned (j - i)))))
    (whole.faults ++ from.judgement.faults ++ to.judgement.faults ++ slice_faults span whole.ty from to)
    (whole.reached ++ from.judgement.reached ++ to.judgement.reached)
    (one_and (plus_size whole.size (plus_size from.judgement.size to.judgement.size)))

-- the start and the type of a part are unsigned
abbrev pub part_typing : Span → TypeEnv → ExprPair → ExprPair → Judgement → Judgement
part_typing span context e i target =
    let whole = alone context e in
    let start = alone context i in
    settled span (and_then whole.ty (λ t. and_then start.ty (λ u. target.ty)))
    (whole.faults ++ start.faults ++ target.faults
    ++ unless_type is_bits rule.SLICE_OF_BITS span whole.ty ++ unless_type is_unsigned rule.SLICE_OF_BITS span start.ty ++ unless_type is_unsigned rule.SLICE_OF_BITS span target.ty)
    (whole.reached ++ start.reached ++ target.reached)
    (one_and (plus_size whole.size start.size))
