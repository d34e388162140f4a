use Rattle.vlog_tree.specs.Verifier.Inner.Firsts.{AreNeedsBefore}
use Rattle.vlog_tree.proofs.verifier.loops.needs_of.Given as goal

abbrev pub invariant-assignments : goal.invariant-assignments
invariant-assignments l = AreNeedsBefore l.design l.i l.needs.items
