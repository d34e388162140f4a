-- Tuples and arrays by their elements.
use Rattle.std.specs.Prelude.{ℕ, ◌≡◌, ◌++◌, ◌||◌, List, length, map, Bool, Option, Some}
use Rattle.std.specs.Option.{option_map}
use Rattle.xb_span.specs.declared.span.Span.{Span}
use Rattle.xb_span.specs.declared.fault.Fault.{Fault}
use Rattle.dslx_meaning.specs.Lists.{all_some, and_then}
use Rattle.dslx_meaning.specs.declared.ty.DslxType.{DslxType}
use Rattle.dslx_meaning.specs.declared.ty.DslxType as ty
use Rattle.dslx_meaning.specs.declared.value.UntypedLiteral.{UntypedLiteral}
use Rattle.dslx_meaning.specs.Rules.TypeEnvs.{Judgement, breaks_if, settled, faults_of_all, reached_of_all, size_of_all, types_of, one_and}
use Rattle.dslx_meaning.specs.Rules.ConstantRules.{is_empty, untyped_typing}
use Rattle.dslx_meaning.specs.Rules.AggregateRules.{array_faults, array_in, element_type, first_type_of, range_faults, wanted_faults, when_all}
use Rattle.dslx_meaning.specs.Rules.RuleNumbers as rule
use Rattle.dslx_check_rules.specs.declared.table.row.TypeRow.{TypeRow}
use Rattle.dslx_check_rules.specs.Interned.{AreDistinct, ItemNames}
use Rattle.base.specs.Lists.Prefix.{IsPrefix}
use Rattle.dslx_check_rules.specs.declared.typing.Typing.{Typing}
use Rattle.dslx_check_rules.specs.declared.nodes.arrays.Element.{Element}
use Rattle.dslx_check_rules.specs.declared.nodes.arrays.Element.TheVariants as element
use Rattle.dslx_check_rules.specs.Nodes.Parts.{IsPart, IsPlaced, Pairs, Placed}
use Rattle.dslx_check_rules.specs.Nodes.Nodes.Lists.{all_faults, element_of, fitted}

abbrev pub tuple_of : Span → List Placed → Judgement
tuple_of span xs =
    let js = map element_of xs in
    settled span (and_then (all_some (types_of js)) (λ ts. Some (ty.Tuple ts))) (faults_of_all js) (reached_of_all js) (one_and (size_of_all js))

-- ---- without a type

-- parts of another type than this
abbrev pub unlike : Option DslxType → List Placed → List Fault
unlike t xs = all_faults (map (λ (x : Placed). wanted_faults x.span t x.judgement.ty) xs)

abbrev pub untyped_array_of : Span → Bool → List Placed → Judgement
untyped_array_of span dots xs =
    let js = map element_of xs in
    let first = first_type_of (types_of js) in
    settled span (when_all (types_of js) (and_then first (λ t. Some (ty.Array t (length xs)))))
    (faults_of_all js ++ unlike first xs ++ breaks_if (dots || is_empty xs) rule.ARRAY_ELEMENT_COUNT span) (reached_of_all js) (one_and (size_of_all js))

-- ---- of a type that is written

-- an element: a number without a type, or a value
pub data ElementSeen : Type 0 where
  Untyped : Span → UntypedLiteral → ElementSeen
  Value : Placed → ElementSeen

abbrev pub IsElement : ItemNames → List TypeRow → List TypeRow → Element → ElementSeen → Type 0
IsElement names rows later (element.Untyped span number) (Untyped at n) = (span ≡ at) × (number ≡ n)
IsElement names rows later (element.Untyped span number) (Value x) = ⊥
IsElement names rows later (element.Value part) (Untyped at n) = ⊥
IsElement names rows later (element.Value part) (Value x) = IsPlaced names rows later part x

abbrev pub element_seen : Option DslxType → ElementSeen → Judgement
element_seen wanted (Untyped span number) = record untyped_typing { ty = wanted; faults = range_faults span wanted number }
element_seen wanted (Value x) = fitted wanted x

abbrev pub typed_array_of : Span → Bool → Judgement → List ElementSeen → Judgement
typed_array_of span dots t xs =
    let parts = and_then t.ty array_in in
    let js = map (element_seen (element_type parts)) xs in
    settled span (when_all (types_of js) t.ty) (t.faults ++ faults_of_all js ++ array_faults span t.ty parts (length xs) dots)
    (t.reached ++ reached_of_all js) (one_and (size_of_all js))

-- the size of an array's type
abbrev pub size_in : Option DslxType → Option ℕ
size_in t = option_map (λ (p : DslxType × ℕ). p.1) (and_then t array_in)

pub record FromElements (half : Judgement → List ElementSeen → Judgement) (rows : List TypeRow) (written : Typing) (elements : List Element) (result : Typing) : Type 0 where
  pub typed : (names : ItemNames) (later : List TypeRow) → AreDistinct names → IsPrefix rows later → (t : Judgement) (xs : List ElementSeen) → IsPart names rows later written t
      → Pairs (IsElement names rows later) elements xs → IsPart names rows later result (half t xs)

-- the type is no array, or has another size
abbrev pub count_faults : Span → Option DslxType → ℕ → Bool → List Fault
count_faults span t count dots = array_faults span t (and_then t array_in) count dots
