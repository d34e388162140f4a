-- Expressions that must be constant: those of `const`, widths, sizes, depths, bounds, parametric arguments, defaults and enum
-- members.
use Rattle.std.specs.Prelude.{ℕ, zero, suc, List, [], ◌∷◌, ◌++◌, ◌&&◌, ◌||◌, map, Bool, true, false, not, Option, Some, None, if◌then◌else◌}
use Rattle.std.specs.List.{list_any, list_all}
use Rattle.xb_span.specs.declared.span.Span.{Span}
use Rattle.xb_span.specs.declared.fault.Fault.{Fault}
use Rattle.xb_span.specs.declared.limit.What.TheVariants as what
use Rattle.dslx_meaning.specs.Lists.{is_in, and_then}
use Rattle.dslx_meaning.specs.Types.{bits_in}
use Rattle.dslx_meaning.specs.Values.{unsigned_of}
use Rattle.dslx_meaning.specs.Environment.{given_in}
use Rattle.dslx_meaning.specs.Meaning.{value_of, some_count}
use Rattle.dslx_meaning.specs.declared.ty.DslxType.{DslxType}
use Rattle.dslx_meaning.specs.declared.value.DslxValue.{DslxValue}
use Rattle.dslx_meaning.specs.Rules.Mentions.{free_names}
use Rattle.dslx_meaning.specs.Rules.TypeEnvs.{GlobalEnv, Typed, ChannelEnd, TypeEnv, Judgement, ExprPair, breaks_if, has_broken, passes_count, span_of, untyped_of, alone, size_if_typed, constant_env}
use Rattle.dslx_meaning.specs.declared.ty.BitKind.{BitKind}
use Rattle.dslx_meaning.specs.declared.value.UntypedLiteral.{UntypedLiteral}
use Rattle.dslx_meaning.specs.Rules.PatternRules.{is_there}
use Rattle.dslx_meaning.specs.Rules.RuleNumbers as rule

-- the most nodes that a body or a constant has
abbrev pub most_nodes : ℕ
most_nodes = 65536

-- it reaches nothing that breaks a rule
abbrev pub reaches_no_broken : GlobalEnv → Judgement → Bool
reaches_no_broken known j = not (has_broken j.faults) && list_all known.is_unbroken j.reached

abbrev pub over_size : ℕ → Option ℕ → List Fault
over_size end None = []
over_size end (Some n) = passes_count what.Size most_nodes end n

-- the limit on the size of a body or a constant that ends there: where a broken rule is reached there is no size
abbrev pub size_faults : GlobalEnv → ℕ → Judgement → List Fault
size_faults known end j = if reaches_no_broken known j then over_size end j.size else []

abbrev pub with_size_limit : GlobalEnv → ℕ → Judgement → Judgement
with_size_limit known end j = record j { faults = j.faults ++ size_faults known end j }

abbrev pub is_empty : {A : Type 0} → List A → Bool
is_empty [] = true
is_empty (a ∷ as') = false

-- nothing that it reaches breaks a rule or passes a limit
abbrev pub is_sound_here : GlobalEnv → Judgement → Bool
is_sound_here known j = is_empty j.faults && list_all known.is_sound j.reached

-- some name that is free in it is bound around it
abbrev pub names_a_bound : TypeEnv → ExprPair → Bool
names_a_bound context e = list_any (λ name. is_in name (map (λ (l : Typed). l.name) context.locals)) (free_names e.0)

-- some name that is free in it is a member's, which hides no parametric
abbrev pub is_member : TypeEnv → List ℕ → Bool
is_member context name = is_in name (map (λ (c : ChannelEnd). c.name) context.members) && not (is_there (given_in name context.parametric_args))

abbrev pub names_a_member : TypeEnv → ExprPair → Bool
names_a_member context e = list_any (is_member context) (free_names e.0)

-- members are local bindings, too
abbrev pub names_a_local : TypeEnv → ExprPair → Bool
names_a_local context e = names_a_bound context e || names_a_member context e

-- a constant: its judgement, and its value if it has one, without which it has no type either. An untyped literal has a
-- value only by where it stands
pub record ConstantSeen : Type 0 where
  pub judgement : Judgement
  pub bare : Option UntypedLiteral
  pub value : Option DslxValue

abbrev pub constant_typing : TypeEnv → ExprPair → Judgement
constant_typing context e =
    let inner = alone context e in
    with_size_limit context.known (span_of e).to (record inner { faults = inner.faults ++ breaks_if (names_a_local context e) rule.CONSTANT_HAS_NO_LOCALS (span_of e) })

-- where some part of it has no type, it has no value either: it names something that has none
abbrev pub value_if_whole : Judgement → Option DslxValue → Option DslxValue
value_if_whole j v = and_then j.ty (λ t. and_then j.size (λ n. v))

abbrev pub constant_value_in : TypeEnv → ExprPair → Judgement → Option DslxValue
constant_value_in context e j = if is_sound_here context.known j then value_if_whole j (value_of e.0 (constant_env context)) else None

abbrev pub constant_of : TypeEnv → ExprPair → ConstantSeen
constant_of context e =
    let j = constant_typing context e in
    let v = constant_value_in context e j in
    let ty = and_then v (λ v. j.ty) in
    record { judgement = record j { ty = ty; size = size_if_typed ty j.size }; bare = None; value = v }

abbrev pub untyped_typing : Judgement
untyped_typing = record { ty = None; faults = []; reached = []; size = Some 1 }

-- where a number may stand without a type
abbrev pub constant_or_untyped : TypeEnv → ExprPair → ConstantSeen
constant_or_untyped context e = by_untyped (untyped_of e)
  where
    by_untyped : Option UntypedLiteral → ConstantSeen
    by_untyped None = constant_of context e
    by_untyped (Some number) = record { judgement = untyped_typing; bare = Some number; value = None }

-- ---- widths, sizes and depths

-- a width, a size or a depth: its judgement, and the number that it is
pub record CountSeen : Type 0 where
  pub judgement : Judgement
  pub count : Option ℕ

abbrev pub is_unsigned_kind : Option BitKind → Bool
is_unsigned_kind None = false
is_unsigned_kind (Some kind) = not kind.signed

abbrev pub is_unsigned : DslxType → Bool
is_unsigned t = is_unsigned_kind (bits_in t)

abbrev pub is_zero : ℕ → Bool
is_zero zero = true
is_zero (suc n) = false

-- rule 4: it is not unsigned, or it is 0
abbrev pub count_type_faults : Span → Option DslxType → List Fault
count_type_faults span None = []
count_type_faults span (Some t) = breaks_if (not (is_unsigned t)) rule.COUNT_IS_POSITIVE span

abbrev pub count_faults : Span → Option ℕ → List Fault
count_faults span None = []
count_faults span (Some n) = breaks_if (is_zero n) rule.COUNT_IS_POSITIVE span

abbrev pub number_of_value : Option DslxValue → Option ℕ
number_of_value v = and_then (and_then v unsigned_of) (λ w. Some w.value)

abbrev pub count_with : Span → ConstantSeen → Option ℕ → CountSeen
count_with span c n = record {
  judgement = record c.judgement { faults = c.judgement.faults ++ count_type_faults span c.judgement.ty ++ count_faults span n };
  count = and_then n some_count;
}

-- a negative number is no count, and so it is taken as 0
abbrev pub untyped_count : UntypedLiteral → ℕ
untyped_count number = if number.is_negative then 0 else number.value

abbrev pub count_number : ConstantSeen → Option ℕ
count_number c = by_untyped c.bare
  where
    by_untyped : Option UntypedLiteral → Option ℕ
    by_untyped None = number_of_value c.value
    by_untyped (Some number) = Some (untyped_count number)

abbrev pub count_of : TypeEnv → ExprPair → CountSeen
count_of context e = let c = constant_or_untyped context e in count_with (span_of e) c (count_number c)
