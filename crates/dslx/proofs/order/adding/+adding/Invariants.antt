use Rattle.std.proofs.Common.{◌≡◌, ◌+◌, ◌*◌, ℕ, List, [], Option, take}
use Rattle.dslx_meaning.specs.Rules.ModuleRules.{faults_of}
use Rattle.dslx.specs.Order.Adding.{AddsSpawned, CanAllBeAdded}
use Rattle.dslx.proofs.order.adding.+adding.Given as goal

abbrev pub decreases-add_all : goal.decreases-add_all
decreases-add_all l = 2 * l.depth + 1

abbrev pub decreases-add_instance : goal.decreases-add_instance
decreases-add_instance l = 2 * l.depth

-- those that were looked at are added
abbrev pub invariant-add_all-spawned : goal.invariant-add_all-spawned
invariant-add_all-spawned l =
    (top : Option (List ℕ)) → faults_of l.text top ≡ [] → CanAllBeAdded l.text top l.depth l.spawned → AddsSpawned l.text top (take l.instance-index l.spawned) l.initial.order.items l.order.items
