-- The parametrics of a call one after another: their types, what is given for them, their defaults.
use Rattle.std.specs.Prelude.{ℕ, List, [], ◌∷◌, ◌++◌, ◌≡◌, ◌||◌, ◌&&◌, Bool, true, false, Option, Some, None, slice_get, if◌then◌else◌}
use Rattle.base.specs.Lists.Prefix.{IsPrefix}
use Rattle.xb_span.specs.declared.fault.Fault.{Fault}
use Rattle.xb_span.specs.declared.span.Span.{Span}
use Rattle.dslx_tree.specs.declared.item.Parametric.{Parametric}
use Rattle.dslx_meaning.specs.Inference.{Inferred as InferredNumber}
use Rattle.dslx_meaning.specs.Lists.{is_in}
use Rattle.dslx_meaning.specs.Types.{same_type}
use Rattle.dslx_meaning.specs.Values.{type_of_value}
use Rattle.dslx_meaning.specs.declared.ty.DslxType.{DslxType}
use Rattle.dslx_meaning.specs.declared.value.DslxValue.{DslxValue}
use Rattle.dslx_meaning.specs.Rules.AggregateRules.{wanted_faults}
use Rattle.dslx_meaning.specs.Rules.CallRules.{Before, JudgedThere, NotGiven, ParametricArgument as GivenSeen, Resolved as ResolvedSeen, Number, Unknown, Wrong, and_there, not_given, nothing_there, of_type, parametric_args_for, parametric_type, resolved_value, type_there, without_default}
use Rattle.dslx_meaning.specs.Rules.TypeEnvs.{GlobalEnv}
use Rattle.dslx_check_rules.specs.declared.faults.Faults.{Faults}
use Rattle.dslx_check_rules.specs.declared.table.row.TypeId.{TypeId}
use Rattle.dslx_check_rules.specs.declared.table.row.TypeRow.{TypeRow}
use Rattle.dslx_check_rules.specs.Seen.{seen}
use Rattle.dslx_check_rules.specs.Interned.{AreDistinct, HasRowIf, ItemNames, type_if}
use Rattle.dslx_check_facts.specs.declared.facts.Facts.{Facts}
use Rattle.dslx_check_facts.specs.declared.facts.DefaultThere.{DefaultThere}
use Rattle.dslx_check_facts.specs.declared.facts.TypingThere.{TypingThere}
use Rattle.dslx_check_facts.specs.Walks.{WalkShown, WalkGrows, instances_at}
use Rattle.dslx_check_rules.specs.declared.control.calls.ParametricArgument.{ParametricArgument}
use Rattle.dslx_check_rules.specs.Control.Calls.{IsGiven}
use Rattle.dslx_check_uses.specs.declared.parametrics.CalledItem.{CalledItem}
use Rattle.dslx_check_uses.specs.declared.parametrics.ParametricArgs.{ParametricArgs}
use Rattle.dslx_check_uses.specs.declared.parametrics.Resolved.{Resolved}
use Rattle.dslx_check_uses.specs.declared.parametrics.Resolved.TheVariants as code
use Rattle.dslx_check_uses.specs.Arguments.{Finds}

-- ---- values

abbrev pub IsResolved : Resolved → ResolvedSeen → Type 0
IsResolved (code.Number v) (Number u) = v ≡ u
IsResolved code.Unknown Unknown = Unit {0}
IsResolved code.Wrong Wrong = Unit {0}
IsResolved _ _ = ⊥

abbrev pub value_if : Resolved → Option DslxValue
value_if (code.Number v) = Some v
value_if _ = None

abbrev pub is_number : Resolved → Bool
is_number (code.Number v) = true
is_number _ = false

abbrev pub is_wrong_value : Resolved → Bool
is_wrong_value code.Wrong = true
is_wrong_value _ = false

-- the two are one type
abbrev pub is_same : Option DslxType → Option DslxType → Bool
is_same (Some t) (Some u) = same_type t u
is_same _ _ = false

-- ---- parametrics up to one of them

-- those before one, by the number of their values in a walk's table
pub record HasBefore (prefixes : List (List (Option DslxValue))) (args : ParametricArgs) (before : Before) : Type 0 where
  pub at : slice_get prefixes args.prefix ≡ Some before.values
  pub known : args.are_known ≡ before.are_known

pub record IsNoArgs (prefixes : List (List (Option DslxValue))) (args : ParametricArgs) : Type 0 where
  pub values : args.values.items ≡ []
  pub at : slice_get prefixes args.prefix ≡ Some []
  pub known : args.are_known ≡ true
  pub whole : args.is_whole ≡ true
  pub wrong : args.is_wrong ≡ false
  pub faults : args.faults ≡ seen []
  pub declared : args.declared ≡ seen []
  pub reached : args.reached.items ≡ []

-- what is found in the other declaration is added, unless rule 3 refuses the call
pub record AddsThere (names : ItemNames) (later : WalkShown) (is_cyclic : Bool) (old new : ParametricArgs) (there : JudgedThere) : Type 0 where
  pub declared : is_cyclic ≡ false → (fs : List Fault) → old.declared ≡ seen fs → new.declared ≡ seen (fs ++ there.faults)
  pub reaches : is_cyclic ≡ false → instances_at names later.met new.reached.items ≡ instances_at names later.met old.reached.items ++ there.reached

-- and nothing else
abbrev pub OnlyThere : ParametricArgs → ParametricArgs → Type 0
OnlyThere old new = new ≡ record old { declared = new.declared; reached = new.reached }

-- these faults and instances are added
pub record NotesThere (old new : ParametricArgs) (faults : Faults) (reached : List ℕ) : Type 0 where
  pub declared : (a b : List Fault) → old.declared ≡ seen a → faults ≡ seen b → new.declared ≡ seen (a ++ b)
  pub reaches : new.reached.items ≡ old.reached.items ++ reached
  pub rest : OnlyThere old new

-- what is found at a parametric's type counts where all before it have values
pub record NotesType (old new : ParametricArgs) (there : TypingThere) : Type 0 where
  pub declared : (a b : List Fault) → old.declared ≡ seen a → (old.are_known ≡ true → there.faults ≡ seen b) → new.declared ≡ seen (if old.are_known then a ++ b else a)
  pub reaches : new.reached.items ≡ (if old.are_known then old.reached.items ++ there.reached.items else old.reached.items)
  pub rest : OnlyThere old new

-- the type that is declared for the next parametric
pub record DeclaredType (prefixes : List (List (Option DslxValue))) (rows : List TypeRow) (callee : CalledItem) (old new : ParametricArgs) (ty : Option TypeId) (names : ItemNames) (seen_as : GlobalEnv) (later : WalkShown) : Type 0 where
  pub row : HasRowIf rows ty
  pub is : (before : Before) → HasBefore prefixes old before → type_if names later.rows ty ≡ parametric_type seen_as (names.item callee.item) before
  pub adds : (before : Before) → HasBefore prefixes old before → AddsThere names later callee.is_cyclic old new (type_there seen_as (names.item callee.item) before)
  pub rest : OnlyThere old new

-- the value of one that isn't given
pub record Resolves (names : ItemNames) (later : WalkShown) (callee : CalledItem) (old new : ParametricArgs) (r : Resolved) (x : NotGiven) : Type 0 where
  pub value : IsResolved r x.value
  pub adds : AddsThere names later callee.is_cyclic old new x.typing
  pub rest : OnlyThere old new

abbrev pub DefaultBy : Type 0
DefaultBy = GlobalEnv → List ℕ → Before → Option DslxType → NotGiven

abbrev pub ResolvedFrom : Facts → CalledItem → WalkShown → WalkShown → ParametricArgs → ParametricArgs → Option TypeId → DefaultBy → Resolved → Type 0
ResolvedFrom f callee w0 w1 old new ty default r = Finds f callee w0 w1 (λ names seen_as later. (before : Before) → HasBefore w0.prefixes old before → HasRowIf w0.rows ty
    → Resolves names later callee old new r (default seen_as (names.item callee.item) before (type_if names later.rows ty)))

-- a default at this span, whatever it is
abbrev pub default_at : Span → DefaultBy
default_at at known owner before t =
    let default = known.default_in owner before.values in
    record {
      value = resolved_value (of_type t default.value);
      typing = record { faults = default.judgement.faults ++ wanted_faults at t default.judgement.ty; reached = default.judgement.reached };
    }

-- the same behind parametrics that are known
abbrev pub default_known : Span → DefaultBy
default_known at known owner before t = if before.are_known then default_at at known owner before t else without_default Unknown

abbrev pub not_given_by : Parametric → List InferredNumber → List (List ℕ) → DefaultBy
not_given_by p numbers maybe known owner before t = not_given known owner before p t (is_in p.name.name maybe) (parametric_args_for p.name.name numbers)

-- a default that is there
pub record NotesDefault (names : ItemNames) (rows : List TypeRow) (ty : Option TypeId) (at : Span) (default : DefaultThere) (old new : ParametricArgs) (r : Resolved) : Type 0 where
  pub value : (later : List TypeRow) → AreDistinct names → IsPrefix rows later → HasRowIf rows ty → HasRowIf rows default.typing.ty → IsResolved r (resolved_value (of_type (type_if names later ty) default.value))
  pub declared : (later : List TypeRow) (a b : List Fault) → AreDistinct names → IsPrefix rows later → HasRowIf rows ty → HasRowIf rows default.typing.ty → old.declared ≡ seen a
      → default.typing.faults ≡ seen b → new.declared ≡ seen (a ++ (b ++ wanted_faults at (type_if names later ty) (type_if names later default.typing.ty)))
  pub reaches : new.reached.items ≡ old.reached.items ++ default.typing.reached.items
  pub rest : OnlyThere old new

-- what is given for a parametric
pub record GivenFrom (names : ItemNames) (rows : List TypeRow) (ty : Option TypeId) (given : ParametricArgument) (old new : ParametricArgs) (r : Resolved) : Type 0 where
  pub value : (later : List TypeRow) → AreDistinct names → IsPrefix rows later → HasRowIf rows ty → HasRowIf rows given.constant.typing.ty
      → IsResolved r (resolved_value (of_type (type_if names later ty) given.constant.value))
  pub faults : (later : List TypeRow) (fs : List Fault) → AreDistinct names → IsPrefix rows later → HasRowIf rows ty → HasRowIf rows given.constant.typing.ty → old.faults ≡ seen fs
      → new.faults ≡ seen (fs ++ wanted_faults given.span (type_if names later ty) (type_if names later given.constant.typing.ty))
  pub rest : new ≡ record old { faults = new.faults }

-- what is given for a parametric, or what it is where it isn't given
pub record Argument : Type 0 where
  pub value : ResolvedSeen
  pub faults : List Fault
  pub there : JudgedThere

abbrev pub argument_by : GlobalEnv → List ℕ → Before → Parametric → Option DslxType → List InferredNumber → List (List ℕ) → Option GivenSeen → Argument
argument_by known owner before p t numbers maybe None =
    let r = not_given known owner before p t (is_in p.name.name maybe) (parametric_args_for p.name.name numbers) in
    record { value = r.value; faults = []; there = r.typing }
argument_by known owner before p t numbers maybe (Some g) =
    record { value = resolved_value (of_type t g.seen.value); faults = wanted_faults g.span t g.seen.judgement.ty; there = nothing_there }

abbrev pub IsGivenIf : ItemNames → List TypeRow → List TypeRow → Option ParametricArgument → Option GivenSeen → Type 0
IsGivenIf names rows later None None = Unit {0}
IsGivenIf names rows later (Some g) (Some x) = IsGiven names rows later g x
IsGivenIf names rows later _ _ = ⊥

-- the next parametric's argument
pub record Argues (names : ItemNames) (later : WalkShown) (callee : CalledItem) (old new : ParametricArgs) (r : Resolved) (x : Argument) : Type 0 where
  pub value : IsResolved r x.value
  pub faults : (fs : List Fault) → old.faults ≡ seen fs → new.faults ≡ seen (fs ++ x.faults)
  pub adds : AddsThere names later callee.is_cyclic old new x.there
  pub rest : new ≡ record old { faults = new.faults; declared = new.declared; reached = new.reached }

abbrev pub ArgumentFrom : Facts → CalledItem → WalkShown → WalkShown → ParametricArgs → ParametricArgs → Option TypeId → Parametric → Option ParametricArgument → List InferredNumber → List (List ℕ) → Resolved → Type 0
ArgumentFrom f callee w0 w1 old new ty p given numbers maybe r = Finds f callee w0 w1 (λ names seen_as later. (before : Before) (g : Option GivenSeen) → HasBefore w0.prefixes old before → HasRowIf w0.rows ty
    → IsGivenIf names w0.rows later.rows given g → Argues names later callee old new r (argument_by seen_as (names.item callee.item) before p (type_if names later.rows ty) numbers maybe g))

-- the same with what is found at its type
abbrev pub next_argument : GlobalEnv → List ℕ → Before → Parametric → List InferredNumber → List (List ℕ) → Option GivenSeen → Argument
next_argument known owner before p numbers maybe g =
    let a = argument_by known owner before p (parametric_type known owner before) numbers maybe g in
    record { value = a.value; faults = a.faults; there = and_there (type_there known owner before) a.there }

abbrev pub NextFrom : Facts → CalledItem → WalkShown → WalkShown → ParametricArgs → ParametricArgs → Parametric → Option ParametricArgument → List InferredNumber → List (List ℕ) → Resolved → Type 0
NextFrom f callee w0 w1 old new p given numbers maybe r = Finds f callee w0 w1 (λ names seen_as later. (before : Before) (g : Option GivenSeen) → HasBefore w0.prefixes old before
    → IsGivenIf names w0.rows later.rows given g → Argues names later callee old new r (next_argument seen_as (names.item callee.item) before p numbers maybe g))

-- the next parametric has this value
pub record PutsValue (w0 w1 : WalkShown) (old new : ParametricArgs) (r : Resolved) : Type 0 where
  pub grows : WalkGrows w0 w1
  pub reached : w1.reached ≡ w0.reached
  pub values : new.values.items ≡ old.values.items ++ value_if r ∷ []
  pub prefix : (before : List (Option DslxValue)) → slice_get w0.prefixes old.prefix ≡ Some before → slice_get w1.prefixes new.prefix ≡ Some (value_if r ∷ before)
  pub known : new.are_known ≡ (old.are_known && is_number r)
  pub wrong : new.is_wrong ≡ (old.is_wrong || is_wrong_value r)
  pub rest : new ≡ record old { values = new.values; prefix = new.prefix; are_known = new.are_known; is_wrong = new.is_wrong }
