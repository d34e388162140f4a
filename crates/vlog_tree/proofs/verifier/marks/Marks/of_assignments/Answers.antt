use Rattle.std.proofs.Common.{take, subst, sym, arith, ◌<◌, length}
use Rattle.vlog_tree.specs.Verifier.Verified.{targets}
use Rattle.vlog_tree.specs.Verifier.Inner.Seen.{ShowsMarks}
use Rattle.vlog_tree.proofs.OnVerifier.Steps.{targets-more}
use Rattle.vlog_tree.proofs.verifier.marks.Marks.of_assignments.Goals as goal

pub loop-assignment-preserved : goal.loop-assignment-preserved
loop-assignment-preserved c =
    let xs = c.args.assignments.now in
    let i = c.loop-assignment.assignment-index in
    let inside : i < length xs = omega arith in
    subst (ShowsMarks c.args.count c.mark.new.self) (sym (targets-more xs i c.assignment-item.result inside c.assignment-item.is))
    (c.mark.ensures c.args.count (targets (take i xs)) c.loop-assignment.invariant)
