-- Calls of builtins and of functions by their operands.
use Rattle.std.specs.Prelude.{ℕ, ◌≡◌, ◌++◌, ◌∷◌, List, [], Bool, true, false, Option, Some, None, if◌then◌else◌}
use Rattle.base.specs.Lists.Prefix.{IsPrefix}
use Rattle.xb_span.specs.declared.span.Span.{Span}
use Rattle.xb_span.specs.declared.fault.Fault.{Fault}
use Rattle.dslx_meaning.specs.Lists.{and_then}
use Rattle.dslx_meaning.specs.Types.{bool_type}
use Rattle.dslx_meaning.specs.declared.ty.DslxType.{DslxType}
use Rattle.dslx_meaning.specs.Rules.TypeEnvs.{Instance, Judgement, breaks, breaks_if, settled, faults_of_all, reached_of_all, size_of_all, types_of, plus_size, one_and}
use Rattle.dslx_meaning.specs.Rules.ConstantRules.{is_unsigned}
use Rattle.dslx_meaning.specs.Rules.OperatorRules.{is_bits, unless_type}
use Rattle.dslx_meaning.specs.Rules.AggregateRules.{array_in, element_type, is_array, wanted_faults, when_all}
use Rattle.dslx_meaning.specs.Rules.CallRules.{ParametricArgument as GivenSeen, update_faults}
use Rattle.dslx_meaning.specs.Rules.RuleNumbers as rule
use Rattle.dslx_check_rules.specs.declared.table.row.TypeId.{TypeId}
use Rattle.dslx_check_rules.specs.declared.table.row.TypeRow.{TypeRow}
use Rattle.dslx_check_rules.specs.declared.faults.Faults.{Faults}
use Rattle.dslx_check_rules.specs.declared.typing.Typing.{Typing}
use Rattle.dslx_check_rules.specs.Seen.{seen, capped}
use Rattle.dslx_check_rules.specs.Interned.{AreDistinct, HasRowIf, ItemNames, type_if}
use Rattle.dslx_check_rules.specs.declared.control.calls.CalleeParts.{CalleeParts}
use Rattle.dslx_check_rules.specs.declared.control.calls.ParametricArgument.{ParametricArgument}
use Rattle.dslx_check_rules.specs.declared.nodes.parts.Spanned.{Spanned}
use Rattle.dslx_check_rules.specs.Nodes.Nodes.Lists.{all_faults}
use Rattle.dslx_check_rules.specs.Nodes.Parts.{ArePlaced, IsConstant, IsPart, Pairs, Placed, judgements}

-- ---- parametric arguments

pub record IsGiven (names : ItemNames) (rows later : List TypeRow) (given : ParametricArgument) (x : GivenSeen) : Type 0 where
  pub span : given.span ≡ x.span
  pub constant : IsConstant names rows later given.constant x.seen

abbrev pub AreGiven : ItemNames → List TypeRow → List TypeRow → List ParametricArgument → List GivenSeen → Type 0
AreGiven names rows later given xs = Pairs (IsGiven names rows later) given xs

-- ---- calls that aren't right

-- the faults of its parts, and what it breaks otherwise
abbrev pub wrong_call_of : Span → List Fault → List Fault → List Instance → Judgement
wrong_call_of span parts more reached = settled span None (parts ++ breaks rule.ARGUMENTS_FIT span ∷ more) reached None

-- nothing of this name is declared
abbrev pub undeclared_call_of : Span → Span → List Fault → List Instance → Judgement
undeclared_call_of span name parts reached = settled span None (parts ++ breaks rule.NAME_IS_DECLARED name ∷ []) reached None

-- ---- builtins

abbrev pub counted_type : Bool → Option DslxType → Option DslxType
counted_type true t = Some bool_type
counted_type false t = t

-- a builtin of another number of operands than it has
abbrev pub wrong_operands_of : Span → List Placed → Judgement
wrong_operands_of span xs = wrong_call_of span (faults_of_all (judgements xs)) [] (reached_of_all (judgements xs))

-- a builtin of one operand, which gives `bool` or what it is given; the operand stands at the second span
abbrev pub counted_of : Span → Span → Bool → Judgement → Judgement
counted_of span at gives_bool j =
    settled span (and_then j.ty (λ t. counted_type gives_bool j.ty)) (j.faults ++ unless_type is_bits rule.BUILTIN_OPERANDS at j.ty) j.reached (one_and j.size)

abbrev pub counting_of : Span → Bool → List Placed → Judgement
counting_of span gives_bool [] = wrong_operands_of span []
counting_of span gives_bool (x ∷ []) = counted_of span x.span gives_bool x.judgement
counting_of span gives_bool (x ∷ y ∷ xs) = wrong_operands_of span (x ∷ y ∷ xs)

-- the operands stand at the other spans
abbrev pub updated_of : Span → Span → Span → Span → Judgement → Judgement → Judgement → Judgement
updated_of span at_array at_place at_value a k w =
    settled span (and_then k.ty (λ t. and_then w.ty (λ u. a.ty)))
    (a.faults ++ k.faults ++ w.faults ++ unless_type is_array rule.BUILTIN_OPERANDS at_array a.ty ++ unless_type is_unsigned rule.BUILTIN_OPERANDS at_place k.ty
    ++ update_faults at_value (element_type (and_then a.ty array_in)) w.ty)
    (a.reached ++ k.reached ++ w.reached) (one_and (plus_size a.size (plus_size k.size w.size)))

abbrev pub updating_of : Span → List Placed → Judgement
updating_of span [] = wrong_operands_of span []
updating_of span (e ∷ []) = wrong_operands_of span (e ∷ [])
updating_of span (e ∷ i ∷ []) = wrong_operands_of span (e ∷ i ∷ [])
updating_of span (e ∷ i ∷ v ∷ []) = updated_of span e.span i.span v.span e.judgement i.judgement v.judgement
updating_of span (e ∷ i ∷ v ∷ x ∷ xs) = wrong_operands_of span (e ∷ i ∷ v ∷ x ∷ xs)

-- ---- calls of functions

-- what is known of the callee: rule 3 at the call, whether rule 10 is broken, what its parametrics break, what is found in the other
-- declaration, its signature, and its body's size
pub record CalleeSeen : Type 0 where
  pub is_cyclic : Bool
  pub is_wrong : Bool
  pub parametrics : List Fault
  pub declared : List Fault
  pub arguments : List (Option DslxType)
  pub result : Option DslxType
  pub size : Option ℕ

pub record IsTypeIf (names : ItemNames) (rows later : List TypeRow) (ty : Option TypeId) (t : Option DslxType) : Type 0 where
  pub row : HasRowIf rows ty
  pub same : type_if names later ty ≡ t

pub record IsCallee (names : ItemNames) (rows later : List TypeRow) (callee : CalleeParts) (x : CalleeSeen) : Type 0 where
  pub cyclic : callee.is_cyclic ≡ x.is_cyclic
  pub wrong : callee.is_wrong ≡ x.is_wrong
  pub parametrics : callee.parametrics ≡ seen x.parametrics
  pub declared : callee.declared ≡ seen x.declared
  pub arguments : Pairs (IsTypeIf names rows later) callee.arguments.now x.arguments
  pub row : HasRowIf rows callee.result
  pub result : type_if names later callee.result ≡ x.result
  pub size : callee.size ≡ capped x.size

-- operands of other types than are declared: what each of them breaks, and all
abbrev pub each_misfit : List (Option DslxType) → List Placed → List (List Fault)
each_misfit [] xs = []
each_misfit (t ∷ ts) [] = []
each_misfit (t ∷ ts) (x ∷ xs) = wanted_faults x.span t x.judgement.ty ∷ each_misfit ts xs

abbrev pub misfits : List (Option DslxType) → List Placed → List Fault
misfits ts xs = all_faults (each_misfit ts xs)

-- the faults of the parametric arguments that are written come first
abbrev pub right_call_of : Span → List Fault → List Instance → CalleeSeen → List Placed → Judgement
right_call_of span given reached c xs =
    let js = judgements xs in
    settled span (when_all (types_of js) c.result)
    (given ++ faults_of_all js ++ breaks_if c.is_cyclic rule.NO_ITEM_REACHES_ITSELF span ++ c.parametrics ++ (if c.is_cyclic then [] else if c.is_wrong then [] else c.declared)
    ++ breaks_if c.is_wrong rule.ARGUMENTS_FIT span ++ (if c.is_wrong then [] else misfits c.arguments xs))
    reached (one_and (plus_size (size_of_all js) c.size))

pub record FromCall (span : Span) (rows : List TypeRow) (given : Faults) (callee : CalleeParts) (operands : List Spanned) (result : Typing) : Type 0 where
  pub typed : (names : ItemNames) (later : List TypeRow) → AreDistinct names → IsPrefix rows later → (fs : List Fault) (reached : List Instance) (c : CalleeSeen) (xs : List Placed)
      → given ≡ seen fs → IsCallee names rows later callee c → ArePlaced names rows later operands xs → IsPart names rows later result (right_call_of span fs reached c xs)
