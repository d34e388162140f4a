use Rattle.std.proofs.Common.{take, subst, sym, arith, ◌<◌, length}
use Rattle.vlog_tree.specs.Verifier.Verified.{set_targets}
use Rattle.vlog_tree.specs.Verifier.Inner.Seen.{ShowsMarks}
use Rattle.vlog_tree.proofs.OnVerifier.Steps.{set_targets-more}
use Rattle.vlog_tree.proofs.verifier.marks.Marks.of_sets.Goals as goal

pub loop-set-preserved : goal.loop-set-preserved
loop-set-preserved c =
    let xs = c.args.sets.now in
    let i = c.loop-set.set-index in
    let inside : i < length xs = omega arith in
    subst (ShowsMarks c.args.count c.mark.new.self) (sym (set_targets-more xs i c.set-item.result inside c.set-item.is))
    (c.mark.ensures c.args.count (set_targets (take i xs)) c.loop-set.invariant)
