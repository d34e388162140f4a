-- what is found and the literals of the sets that are left are all literals
use Rattle.std.proofs.Common.{◌≡◌, ◌++◌, drop}
use Rattle.vlog_tree.specs.Verifier.Verified.{set_literals}
use Rattle.vlog_tree.proofs.verifier.walks.push_set_literals.Given as goal

abbrev pub invariant-loop-set : goal.invariant-loop-set
invariant-loop-set l = l.found ++ set_literals (drop l.set-index l.sets) ≡ l.initial.found ++ set_literals l.sets
