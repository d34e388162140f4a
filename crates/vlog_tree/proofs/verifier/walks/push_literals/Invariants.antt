-- what is found and the literals of the assignments that are left are all literals
use Rattle.std.proofs.Common.{◌≡◌, ◌++◌, drop}
use Rattle.std.specs.Prelude.{flat_map}
use Rattle.vlog_tree.specs.declared.module.Assignment.{Assignment}
use Rattle.vlog_tree.specs.Forms.{literals}
use Rattle.vlog_tree.proofs.verifier.walks.push_literals.Given as goal

abbrev pub invariant-loop-assignment : goal.invariant-loop-assignment
invariant-loop-assignment l =
    l.found ++ flat_map (λ (a : Assignment). literals a.value) (drop l.assignment-index l.assignments) ≡ l.initial.found ++ flat_map (λ (a : Assignment). literals a.value) l.assignments
