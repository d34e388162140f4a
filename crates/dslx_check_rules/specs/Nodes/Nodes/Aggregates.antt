-- Numbers, arrays and tuples, and what takes them apart.
use Rattle.std.specs.Prelude.{ℕ, zero, suc, ◌++◌, List, [], ◌∷◌, Bool, false, Option, Some, None, if◌then◌else◌}
use Rattle.xb_span.specs.declared.span.Span.{Span}
use Rattle.xb_span.specs.declared.fault.Fault.{Fault}
use Rattle.dslx_meaning.specs.Lists.{and_then}
use Rattle.dslx_meaning.specs.Types.{bool_type, holds_token}
use Rattle.dslx_meaning.specs.Operators.{number_in, number_value}
use Rattle.dslx_meaning.specs.declared.ty.BitKind.{BitKind}
use Rattle.dslx_meaning.specs.declared.ty.DslxType.{DslxType, out-DslxType}
use Rattle.dslx_meaning.specs.declared.value.UntypedLiteral.{UntypedLiteral}
use Rattle.dslx_meaning.specs.Rules.TypeEnvs.{Judgement, breaks, no_token, settled, unlimited, plus_size, one_and}
use Rattle.dslx_meaning.specs.Rules.ConstantRules.{is_unsigned}
use Rattle.dslx_meaning.specs.Rules.PatternRules.{is_there}
use Rattle.dslx_meaning.specs.Rules.OperatorRules.{unless_type}
use Rattle.dslx_meaning.specs.Rules.AggregateRules.{array_in, element_type, is_array, is_some_tuple, number_typing, part_type}
use Rattle.dslx_meaning.specs.Rules.RuleNumbers as rule

abbrev pub bool_node : Span → Judgement
bool_node span = settled span (Some bool_type) [] [] (Some 1)

-- a number without a type, and one with a type
abbrev pub untyped_number : Span → Judgement
untyped_number span = unlimited None (breaks rule.NUMBER_HAS_TYPE span ∷ []) [] (Some 1)

abbrev pub number_of : Span → UntypedLiteral → Judgement → Judgement
number_of span number t = number_typing span (Some t) number

abbrev pub index_of : Span → Judgement → Judgement → Judgement
index_of span whole index =
    settled span (and_then index.ty (λ k. element_type (and_then whole.ty array_in)))
    (whole.faults ++ index.faults ++ unless_type is_array rule.PART_IS_THERE span whole.ty ++ unless_type is_unsigned rule.PART_IS_THERE span index.ty)
    (whole.reached ++ index.reached) (one_and (plus_size whole.size index.size))

-- what is taken apart by a number stands at the first span
abbrev pub pair_or_no_token : Span → Judgement → Option DslxType → Judgement
pair_or_no_token at j None = j
pair_or_no_token at j (Some t) = if is_some_tuple (out-DslxType t) then j else no_token at j

abbrev pub taken_apart : ℕ → Span → Judgement → Judgement
taken_apart zero at j = pair_or_no_token at j j.ty
taken_apart (suc zero) at j = pair_or_no_token at j j.ty
taken_apart (suc (suc k)) at j = no_token at j

abbrev pub tuple_element_of : Span → Span → ℕ → Judgement → Judgement
tuple_element_of span at k inner =
    let whole = taken_apart k at inner in
    settled span (and_then whole.ty (λ t. part_type t k)) (whole.faults ++ unless_type (λ t. is_there (part_type t k)) rule.PART_IS_THERE span whole.ty)
    whole.reached (one_and whole.size)

abbrev pub holds_token_if : Option DslxType → Bool
holds_token_if None = false
holds_token_if (Some t) = holds_token t

abbrev pub is_tuple_if : Option DslxType → Bool
is_tuple_if None = false
is_tuple_if (Some t) = is_some_tuple (out-DslxType t)

abbrev pub is_in_range : DslxType → UntypedLiteral → Bool
is_in_range t number = is_there (number_value t number)

abbrev pub is_in_bits : BitKind → UntypedLiteral → Bool
is_in_bits kind number = is_there (number_in (Some kind) number)

-- a value that has a type has no such part
abbrev pub lacks : (DslxType → Option DslxType) → Span → Option DslxType → List Fault
lacks part_of span t = unless_type (λ t. is_there (part_of t)) rule.PART_IS_THERE span t
