-- Widths, sizes and depths, and the types with such.
use Rattle.std.specs.Prelude.{ℕ, [], Bool, Option, Some, None}
use Rattle.xb_span.specs.declared.span.Span.{Span}
use Rattle.dslx_meaning.specs.Lists.{and_then}
use Rattle.dslx_meaning.specs.declared.ty.DslxType as ty
use Rattle.dslx_meaning.specs.Rules.TypeEnvs.{Judgement}
use Rattle.dslx_meaning.specs.Rules.ConstantRules.{ConstantSeen, CountSeen, count_number, count_with, number_of_value, untyped_count}
use Rattle.dslx_meaning.specs.Meaning.{some_count}
use Rattle.dslx_meaning.specs.declared.value.DslxValue.{DslxValue}
use Rattle.dslx_meaning.specs.declared.value.UntypedLiteral.{UntypedLiteral}
use Rattle.dslx_meaning.specs.Rules.TypeRules.{counted_type}

abbrev pub count_from : Span → ConstantSeen → CountSeen
count_from span c = count_with span c (count_number c)

abbrev pub wide_of : Span → Bool → CountSeen → Judgement
wide_of span s n = counted_type span (and_then n.count (λ w. Some (ty.Bits s w))) [] n

abbrev pub number_of : Option UntypedLiteral → Option DslxValue → Option ℕ
number_of None v = number_of_value v
number_of (Some number) v = Some (untyped_count number)

abbrev pub above_zero : Option ℕ → Option ℕ
above_zero n = and_then n some_count
