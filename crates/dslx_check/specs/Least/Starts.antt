-- What the instances of a text start from, and those that are found from there.
use Rattle.std.specs.Prelude.{◌≡◌, ◌++◌, ℕ, List, [], ◌∷◌, Bool, true, false, Option}
use Rattle.xb_span.specs.declared.fault.Fault.{Fault}
use Rattle.xb_span.specs.declared.fault.Fault.TheVariants.{Whole}
use Rattle.xb_span.specs.declared.limit.What.TheVariants as what
use Rattle.dslx_tree.specs.declared.item.Module.{Module}
use Rattle.dslx_meaning.specs.Rules.ModuleRules.{found_of_instance, globals_of, instances_faults, is_reached, item_names, outside_instances, own_instances}
use Rattle.dslx_meaning.specs.Rules.Namesakes.{told_apart}
use Rattle.dslx_meaning.specs.Rules.TypeEnvs.{GlobalEnv, Instance}
use Rattle.dslx_core.specs.Typing.TypingRelations.Closed.{IsOneOf}

-- functions and procs without parametrics, and what is reached outside all instances
abbrev pub starts_of : Module → Option (List ℕ) → List Instance
starts_of m top = own_instances m.items ++ (outside_instances m top).reached

-- no two of these are one
abbrev pub AreInstancesApart : List Instance → Type 0
AreInstancesApart [] = Unit {0}
AreInstancesApart (i ∷ is) = (is_reached i is ≡ false) × AreInstancesApart is

-- each of these is one of those that are started from, or is reached from there: a test that those pass, and what is reached by one that
-- passes it, is passed by each
abbrev pub AreStarted : GlobalEnv → List Instance → List Instance → Type 0
AreStarted known start is = (P : Instance → Bool) → ((i : Instance) → IsOneOf i start → P i ≡ true)
    → ((i j : Instance) → P i ≡ true → IsOneOf j (found_of_instance known i).reached → P j ≡ true) → (i : Instance) → IsOneOf i is → P i ≡ true

-- all that a text and these of its instances break and pass
abbrev pub found_faults : Module → Option (List ℕ) → List Instance → List Fault
found_faults text top all = item_names [] text.items ++ (outside_instances (told_apart text) top).faults ++ instances_faults (globals_of (told_apart text)) all

-- more instances than a text may have
abbrev pub too_many : Fault
too_many = Whole (record { what = what.Instances; found = 4097; most = 4096 })
