use Rattle.vlog_tree.specs.Verifier.Inner.Firsts.{AreFreeBefore}
use Rattle.vlog_tree.proofs.verifier.loops.first_among.Given as goal

abbrev pub invariant-assignments : goal.invariant-assignments
invariant-assignments l = AreFreeBefore l.design l.i
