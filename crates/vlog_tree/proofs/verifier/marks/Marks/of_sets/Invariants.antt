use Rattle.std.proofs.Common.{take}
use Rattle.vlog_tree.specs.Verifier.Verified.{set_targets}
use Rattle.vlog_tree.specs.Verifier.Inner.Seen.{ShowsMarks}
use Rattle.vlog_tree.proofs.verifier.marks.Marks.of_sets.Given as goal

abbrev pub invariant-loop-set : goal.invariant-loop-set
invariant-loop-set l = ShowsMarks l.count l.marks (set_targets (take l.set-index l.sets))
