use Rattle.std.proofs.Common.{take}
use Rattle.vlog_tree.specs.Verifier.Verified.{targets}
use Rattle.vlog_tree.specs.Verifier.Inner.Seen.{ShowsMarks}
use Rattle.vlog_tree.proofs.verifier.marks.Marks.of_assignments.Given as goal

abbrev pub invariant-loop-assignment : goal.invariant-loop-assignment
invariant-loop-assignment l = ShowsMarks l.count l.marks (targets (take l.assignment-index l.assignments))
