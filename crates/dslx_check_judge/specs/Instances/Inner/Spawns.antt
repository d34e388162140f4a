-- Procs that are spawned: what they reach, and what they break, by what is found of their parametrics.
use Rattle.std.specs.Prelude.{List, [], ◌∷◌, ◌≡◌, ◌≤◌, false, drop, length, if◌then◌else◌}
use Rattle.dslx_tree.specs.declared.ident.Ident.{Ident}
use Rattle.dslx_tree.specs.declared.process.End.{End}
use Rattle.dslx_tree.specs.declared.process.Proc.{Proc}
use Rattle.dslx_tree.specs.declared.process.Spawn.{Spawn}
use Rattle.dslx_meaning.specs.Items.{item_named}
use Rattle.dslx_meaning.specs.Network.{as_proc}
use Rattle.dslx_meaning.specs.Rules.CallRules.{ParametricArgument as GivenSeen, ParametricArgsSeen, signature_seen}
use Rattle.dslx_meaning.specs.Rules.ProcRules as the
use Rattle.dslx_meaning.specs.Rules.RuleNumbers as rule
use Rattle.dslx_meaning.specs.Rules.TypeEnvs.{GlobalEnv, TypeEnv, breaks_if}
use Rattle.dslx_check_rules.specs.declared.faults.Faults.{Faults}
use Rattle.dslx_check_rules.specs.Interned.{ItemNames}
use Rattle.dslx_check_rules.specs.Seen.{seen}
use Rattle.dslx_check_facts.specs.declared.facts.Facts.{Facts}
use Rattle.dslx_check_facts.specs.declared.instances.InstanceKey.{InstanceKey}
use Rattle.dslx_check_facts.specs.declared.type_env.TypeEnv.{TypeEnv as CodeEnv}
use Rattle.dslx_check_facts.specs.Judged.{Comes, environment}
use Rattle.dslx_check_facts.specs.Known.{FactsHold, HasKnownRows, item_names}
use Rattle.dslx_check_facts.specs.Walks.{HasTables, WalkGrows, WalkShown, instance_of, instances_at}
use Rattle.dslx_check_rules.specs.declared.control.calls.ParametricArgument.{ParametricArgument}
use Rattle.dslx_check_rules.specs.Control.Calls.{AreGiven}
use Rattle.dslx_check_uses.specs.declared.parametrics.CalledItem.{CalledItem}
use Rattle.dslx_check_uses.specs.declared.parametrics.ParametricArgs.{ParametricArgs}
use Rattle.dslx_check_uses.specs.Arguments.{AreArgs, Sees}
use Rattle.dslx_check_declarations.specs.declared.config.Made.{Made}
use Rattle.dslx_check_declarations.specs.Config.{MeansEnds}

-- ---- what is reached

-- one instance of an item
pub record ReachesInstance (old new : WalkShown) (key : InstanceKey) : Type 0 where
  pub grows : WalkGrows old new
  pub says : (names : ItemNames) (later : WalkShown) → HasTables new later → instances_at names later.met (drop (length old.reached) new.reached) ≡ instance_of names key ∷ []

-- ---- a spawn of a proc

-- rule 9 at the ends that are handed over, unless rule 10 is broken
pub record HandsOver (f : Facts) (callee : CalledItem) (old new : WalkShown) (made : Made) (ends : List End) (idents : List Ident) (args : ParametricArgs) (faults : Faults) : Type 0 where
  pub grows : WalkGrows old new
  pub reached : new.reached ≡ old.reached
  pub says : callee.is_hidden ≡ false → (known seen_as : GlobalEnv) (later : WalkShown) → HasTables new later → FactsHold f later known → Sees f callee known seen_as → HasKnownRows old.rows f → new.missing ≡ []
      → (x : ParametricArgsSeen) (m : the.Made) → AreArgs (item_names f) later callee.is_cyclic args x → MeansEnds (item_names f) old.rows later.rows made m
      → faults ≡ seen (if x.is_wrong then [] else the.handed_faults m (signature_seen seen_as ((item_names f).item callee.item) x).arguments ends idents)

-- a spawn with as many ends, and not more parametric arguments, than are declared
pub record RightSpawn (f : Facts) (callee : CalledItem) (old new : WalkShown) (made : Made) (s : Spawn) (target : Proc) (given : List ParametricArgument) (faults : Faults) : Type 0 where
  pub grows : WalkGrows old new
  pub says : callee.is_hidden ≡ false → (known : GlobalEnv) (context : TypeEnv) (later : WalkShown) → HasTables new later → FactsHold f later known → Sees f callee known context.known → HasKnownRows old.rows f → new.missing ≡ []
      → (item_names f).item callee.item ≡ target.name.name → length given ≤ length target.parametrics
      → (gs : List GivenSeen) (m : the.Made) → AreGiven (item_names f) old.rows later.rows given gs → MeansEnds (item_names f) old.rows later.rows made m
      → (faults ≡ seen (the.right_spawn context m s target (breaks_if callee.is_cyclic rule.NO_ITEM_REACHES_ITSELF s.span) (the.proc_parametric_args context.known target gs)).faults)
      × (instances_at (item_names f) later.met (drop (length old.reached) new.reached)
      ≡ (the.right_spawn context m s target (breaks_if callee.is_cyclic rule.NO_ITEM_REACHES_ITSELF s.span) (the.proc_parametric_args context.known target gs)).reached)

-- a spawn of what its name means, by what is given
pub record SpawnsNamed (f : Facts) (before : CodeEnv) (old new : WalkShown) (made : Made) (s : Spawn) (given : List ParametricArgument) (faults : Faults) : Type 0 where
  pub grows : WalkGrows old new
  pub holds : before.is_declaring ≡ false → Comes f before old new (λ known later. (context : TypeEnv) (m : the.Made) (gs : List GivenSeen) → environment f before known later ≡ the.behind_ends context m
      → MeansEnds (item_names f) old.rows later.rows made m → AreGiven (item_names f) old.rows later.rows given gs
      → (faults ≡ seen (the.spawn_of context m s gs (as_proc (item_named s.target.name context.known.whole.items))).faults)
      × (instances_at (item_names f) later.met (drop (length old.reached) new.reached) ≡ (the.spawn_of context m s gs (as_proc (item_named s.target.name context.known.whole.items))).reached))
