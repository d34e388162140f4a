-- A call of a function by its parametrics: what it reaches, the callee's signature, and what it comes to.
use Rattle.std.specs.Prelude.{ℕ, List, [], ◌∷◌, ◌++◌, ◌≡◌, ◌≤◌, Bool, true, false, Option, Some, None, drop, length, if◌then◌else◌}
use Rattle.xb_span.specs.declared.span.Span.{Span}
use Rattle.dslx_tree.specs.declared.item.Function.{Function}
use Rattle.dslx_meaning.specs.Rules.CallRules.{ParametricArgument as GivenSeen, ParametricArgsSeen, callee_size, call_parts_reached, inferred_by, known_before, maybe_inferred, parametric_args_seen, reached_by}
use Rattle.dslx_meaning.specs.Rules.RuleNumbers as rule
use Rattle.dslx_meaning.specs.Rules.TypeEnvs.{GlobalEnv, Instance, breaks_if, types_of}
use Rattle.dslx_check_rules.specs.declared.table.row.TypeId.{TypeId}
use Rattle.dslx_check_rules.specs.declared.typing.Typing.{Typing}
use Rattle.dslx_check_rules.specs.Seen.{capped, seen}
use Rattle.dslx_check_facts.specs.declared.facts.Facts.{Facts}
use Rattle.dslx_check_facts.specs.declared.facts.SignatureThere.{SignatureThere}
use Rattle.dslx_check_facts.specs.Known.{FactsHold, HasKnownRows, item_names}
use Rattle.dslx_check_facts.specs.Walks.{WalkShown, WalkGrows, HasTables, instances_at}
use Rattle.dslx_check_rules.specs.declared.nodes.parts.Spanned.{Spanned}
use Rattle.dslx_check_rules.specs.Nodes.Parts.{ArePlaced, IsPart, Pairs, Placed, judgements}
use Rattle.dslx_check_rules.specs.declared.control.calls.CalleeParts.{CalleeParts}
use Rattle.dslx_check_rules.specs.declared.control.calls.ParametricArgument.{ParametricArgument}
use Rattle.dslx_check_rules.specs.Control.Calls.{AreGiven, IsTypeIf}
use Rattle.dslx_check_uses.specs.declared.parametrics.CalledItem.{CalledItem}
use Rattle.dslx_check_uses.specs.declared.parametrics.ParametricArgs.{ParametricArgs}
use Rattle.dslx_check_uses.specs.Called.{right_call_by}
use Rattle.dslx_check_uses.specs.Arguments.{Sees, Finds, AreArgs}

-- the parametrics of a call by what is given and by the operands
abbrev pub args_of_call : GlobalEnv → List ℕ → Function → List GivenSeen → List Placed → ParametricArgsSeen
args_of_call known owner f gs xs =
    parametric_args_seen known owner (inferred_by f.arguments (types_of (judgements xs))) (maybe_inferred f.arguments (types_of (judgements xs))) (known_before []) f.parametrics gs

abbrev pub CallArgs : Facts → CalledItem → WalkShown → WalkShown → Function → List ParametricArgument → List Spanned → ParametricArgs → Type 0
CallArgs f callee w0 w1 function given operands args = Finds f callee w0 w1 (λ names seen_as later. (gs : List GivenSeen) (xs : List Placed) → AreGiven names w0.rows later.rows given gs
    → ArePlaced names w0.rows later.rows operands xs → length given ≤ length function.parametrics → AreArgs names later callee.is_cyclic args (args_of_call seen_as (names.item callee.item) function gs xs))

-- an instance that is met and reached, and how many nodes its body has
pub record ReachesOne (f : Facts) (w0 w1 : WalkShown) (instance : Instance) (size : Option ℕ) : Type 0 where
  pub grows : WalkGrows w0 w1
  pub says : (known : GlobalEnv) (later : WalkShown) → HasTables w1 later → FactsHold f later known → w1.missing ≡ []
      → (instances_at (item_names f) later.met (drop (length w0.reached) w1.reached) ≡ instance ∷ []) × (size ≡ capped (known.body_size instance))

-- what a call reaches itself, and how many nodes the callee's body has
abbrev pub reached_there : Bool → List ℕ → ParametricArgsSeen → List Instance
reached_there true name x = []
reached_there false name x = if x.is_wrong then [] else x.declared.reached ++ reached_by false name x.values

abbrev pub size_there : Bool → GlobalEnv → List ℕ → ParametricArgsSeen → Option ℕ
size_there true known name x = None
size_there false known name x = if x.is_wrong then None else callee_size known name x.values

pub record ReachesCallee (f : Facts) (callee : CalledItem) (w0 w1 : WalkShown) (args : ParametricArgs) (size : Option ℕ) : Type 0 where
  pub grows : WalkGrows w0 w1
  pub says : (known seen_as : GlobalEnv) (later : WalkShown) → HasTables w1 later → FactsHold f later known → Sees f callee known seen_as → w1.missing ≡ []
      → (x : ParametricArgsSeen) → AreArgs (item_names f) later callee.is_cyclic args x
      → (instances_at (item_names f) later.met (drop (length w0.reached) w1.reached) ≡ reached_there callee.is_cyclic ((item_names f).item callee.item) x)
      × (size ≡ capped (size_there callee.is_cyclic seen_as ((item_names f).item callee.item) x))

-- the types of a signature, and none where there is none
abbrev pub arguments_of : Option SignatureThere → List (Option TypeId)
arguments_of None = []
arguments_of (Some s) = s.arguments.items

abbrev pub result_of : Option SignatureThere → Option TypeId
result_of None = None
result_of (Some s) = s.result

-- the callee's signature, unless rule 10 is broken
pub record SignatureFrom (f : Facts) (callee : CalledItem) (w0 w1 : WalkShown) (args : ParametricArgs) (signature : Option SignatureThere) : Type 0 where
  pub grows : WalkGrows w0 w1
  pub reached : w1.reached ≡ w0.reached
  pub refused : args.is_wrong ≡ true → signature ≡ None
  pub says : (known seen_as : GlobalEnv) (later : WalkShown) → HasTables w1 later → FactsHold f later known → Sees f callee known seen_as → HasKnownRows w0.rows f → w1.missing ≡ []
      → (x : ParametricArgsSeen) → AreArgs (item_names f) later callee.is_cyclic args x → x.is_wrong ≡ false
      → Pairs (IsTypeIf (item_names f) w1.rows later.rows) (arguments_of signature) (seen_as.signature_in ((item_names f).item callee.item) x.bound.values).arguments
      × IsTypeIf (item_names f) w1.rows later.rows (result_of signature) (seen_as.signature_in ((item_names f).item callee.item) x.bound.values).result

-- what is known of the callee
pub record ArePartsOf (callee : CalledItem) (args : ParametricArgs) (signature : Option SignatureThere) (size : Option ℕ) (parts : CalleeParts) : Type 0 where
  pub cyclic : parts.is_cyclic ≡ callee.is_cyclic
  pub wrong : parts.is_wrong ≡ args.is_wrong
  pub parametrics : parts.parametrics ≡ args.faults
  pub declared : parts.declared ≡ (if callee.is_cyclic then seen [] else args.declared)
  pub arguments : parts.arguments.now ≡ arguments_of signature
  pub result : parts.result ≡ (if args.are_known then result_of signature else None)
  pub body_size : parts.size ≡ size

-- a call with as many operands as arguments, and not more parametric arguments than parametrics
pub record RightFrom (f : Facts) (callee : CalledItem) (w0 w1 : WalkShown) (span : Span) (function : Function) (given : List ParametricArgument) (operands : List Spanned) (j : Typing) : Type 0 where
  pub grows : WalkGrows w0 w1
  pub says : (known seen_as : GlobalEnv) (later : WalkShown) → HasTables w1 later → FactsHold f later known → Sees f callee known seen_as → HasKnownRows w0.rows f → w1.missing ≡ []
      → (item_names f).item callee.item ≡ function.name.name → length given ≤ length function.parametrics
      → (gs : List GivenSeen) (xs : List Placed) → AreGiven (item_names f) w0.rows later.rows given gs → ArePlaced (item_names f) w0.rows later.rows operands xs
      → IsPart (item_names f) w1.rows later.rows j
      (right_call_by span seen_as function gs xs (breaks_if callee.is_cyclic rule.NO_ITEM_REACHES_ITSELF span) (args_of_call seen_as function.name.name function gs xs))
      × (call_parts_reached gs (judgements xs) ++ instances_at (item_names f) later.met (drop (length w0.reached) w1.reached)
      ≡ (right_call_by span seen_as function gs xs (breaks_if callee.is_cyclic rule.NO_ITEM_REACHES_ITSELF span) (args_of_call seen_as function.name.name function gs xs)).reached)
