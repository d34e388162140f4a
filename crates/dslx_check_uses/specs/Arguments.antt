-- What is found of the parametrics of a call, a spawn or the top.
use Rattle.std.specs.Prelude.{ℕ, List, [], ◌≡◌, ◌≤◌, Bool, true, false, Option, Some, None, is_some, length, slice_get, if◌then◌else◌}
use Rattle.dslx_tree.specs.declared.item.Parametric.{Parametric}
use Rattle.dslx_meaning.specs.Inference.{Inferred as InferredNumber}
use Rattle.dslx_meaning.specs.Lists.{all_some}
use Rattle.dslx_meaning.specs.declared.value.DslxValue.{DslxValue}
use Rattle.dslx_meaning.specs.Rules.CallRules.{ParametricArgument as GivenSeen, ParametricArgsSeen, known_before, parametric_args_seen}
use Rattle.dslx_meaning.specs.Rules.ConstantRules.{untyped_typing}
use Rattle.dslx_meaning.specs.Rules.ModuleRules.{no_signature}
use Rattle.dslx_meaning.specs.Rules.TypeEnvs.{GlobalEnv, Instance}
use Rattle.dslx_check_rules.specs.Seen.{seen}
use Rattle.dslx_check_rules.specs.Interned.{ItemNames}
use Rattle.dslx_check_facts.specs.declared.facts.Facts.{Facts}
use Rattle.dslx_check_facts.specs.Known.{FactsHold, HasKnownRows, item_names}
use Rattle.dslx_check_facts.specs.Walks.{WalkShown, WalkGrows, HasTables, instances_at}
use Rattle.dslx_check_rules.specs.declared.control.calls.ParametricArgument.{ParametricArgument}
use Rattle.dslx_check_rules.specs.Control.Calls.{AreGiven}
use Rattle.dslx_check_uses.specs.declared.parametrics.CalledItem.{CalledItem}
use Rattle.dslx_check_uses.specs.declared.parametrics.ParametricArgs.{ParametricArgs}

-- ---- what is known of a callee

-- the global environment in which a callee's declaration is seen from a call: nothing of it is where it is hidden
pub record Sees (f : Facts) (callee : CalledItem) (known seen_as : GlobalEnv) : Type 0 where
  pub parameter : (before : List (Option DslxValue)) → seen_as.parameter_in ((item_names f).item callee.item) before
      ≡ (if callee.is_hidden then untyped_typing else known.parameter_in ((item_names f).item callee.item) before)
  pub default : (before : List (Option DslxValue)) → seen_as.default_in ((item_names f).item callee.item) before
      ≡ (if callee.is_hidden then record { judgement = untyped_typing; value = None } else known.default_in ((item_names f).item callee.item) before)
  pub signature : (before : List (Option DslxValue)) → seen_as.signature_in ((item_names f).item callee.item) before
      ≡ (if callee.is_hidden then no_signature else known.signature_in ((item_names f).item callee.item) before)
  pub size : (i : Instance) → seen_as.body_size i ≡ known.body_size i

-- what is said of a callee: by the items' names, at a global environment, of a later walk
abbrev pub Saying : Type 1
Saying = ItemNames → GlobalEnv → WalkShown → Type 0

-- what a walk says of a callee, if it asked for nothing that isn't known; it reaches nothing
pub record Finds (f : Facts) (callee : CalledItem) (old new : WalkShown) (saying : Saying) : Type 0 where
  pub grows : WalkGrows old new
  pub reached : new.reached ≡ old.reached
  pub says : (known seen_as : GlobalEnv) (later : WalkShown) → HasTables new later → FactsHold f later known → Sees f callee known seen_as → HasKnownRows old.rows f → new.missing ≡ []
      → saying (item_names f) seen_as later

-- ---- all parametrics

pub record AreArgs (names : ItemNames) (later : WalkShown) (is_cyclic : Bool) (args : ParametricArgs) (x : ParametricArgsSeen) : Type 0 where
  pub values : (if args.are_known then all_some args.values.items else None) ≡ x.values
  pub at : slice_get later.prefixes args.prefix ≡ Some x.bound.values
  pub known : args.are_known ≡ x.bound.are_known
  pub all_known : args.are_known ≡ is_some x.values
  pub whole : args.is_whole ≡ true
  pub wrong : args.is_wrong ≡ x.is_wrong
  pub faults : args.faults ≡ seen x.faults
  pub declared : is_cyclic ≡ false → args.declared ≡ seen x.declared.faults
  pub reaches : is_cyclic ≡ false → instances_at names later.met args.reached.items ≡ x.declared.reached

-- where not more are given than there are
abbrev pub ArgsFrom : Facts → CalledItem → WalkShown → WalkShown → List Parametric → List ParametricArgument → List InferredNumber → List (List ℕ) → ParametricArgs → Type 0
ArgsFrom f callee w0 w1 ps given numbers maybe args = Finds f callee w0 w1 (λ names seen_as later. (gs : List GivenSeen) → AreGiven names w0.rows later.rows given gs → length given ≤ length ps
    → AreArgs names later callee.is_cyclic args (parametric_args_seen seen_as (names.item callee.item) numbers maybe (known_before []) ps gs))
