-- What a spawn, or the top, of a proc reaches, by what is found of its parametrics.
use Rattle.std.specs.Prelude.{ℕ, List, [], ◌++◌, ◌≡◌, ◌||◌, Bool, false, drop, length, if◌then◌else◌}
use Rattle.dslx_meaning.specs.Rules.CallRules.{ParametricArgsSeen, reached_by}
use Rattle.dslx_meaning.specs.Rules.TypeEnvs.{Instance}
use Rattle.dslx_check_facts.specs.declared.facts.Facts.{Facts}
use Rattle.dslx_check_facts.specs.Known.{item_names}
use Rattle.dslx_check_facts.specs.Walks.{HasTables, WalkGrows, WalkShown, instances_at}
use Rattle.dslx_check_uses.specs.declared.parametrics.CalledItem.{CalledItem}
use Rattle.dslx_check_uses.specs.declared.parametrics.ParametricArgs.{ParametricArgs}
use Rattle.dslx_check_uses.specs.Arguments.{AreArgs}

-- what a spawn, or the top, of the proc of a name reaches: nothing where rule 3 or rule 10 is broken
abbrev pub proc_reached : Bool → List ℕ → ParametricArgsSeen → List Instance
proc_reached is_cyclic name x = if is_cyclic || x.is_wrong then [] else x.declared.reached ++ reached_by false name x.values

pub record ReachesProc (f : Facts) (callee : CalledItem) (old new : WalkShown) (args : ParametricArgs) : Type 0 where
  pub grows : WalkGrows old new
  pub says : (later : WalkShown) → HasTables new later → (x : ParametricArgsSeen) → AreArgs (item_names f) later callee.is_cyclic args x
      → instances_at (item_names f) later.met (drop (length old.reached) new.reached) ≡ proc_reached callee.is_cyclic ((item_names f).item callee.item) x
