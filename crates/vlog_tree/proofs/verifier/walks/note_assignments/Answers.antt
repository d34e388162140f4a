use Rattle.std.proofs.Common.{◌≡◌, ◌<◌, ℕ, [], length, get_or, ap, ◌∙◌, arith}
use Rattle.xb_span.specs.Spans.{nowhere}
use Rattle.vlog_tree.specs.Verifier.Checks.{noted, walk}
use Rattle.vlog_tree.specs.Verifier.Parts.{count_of, assignment_checks, see_target}
use Rattle.vlog_tree.proofs.OnVerifier.Steps.{walk_step}
use Rattle.vlog_tree.proofs.verifier.walks.note_assignments.Goals as goal

pub assignments-preserved : goal.assignments-preserved
assignments-preserved c =
    let m = c.args.design.now in
    let xs = c.as_slice-assignments.result.now in
    let ss = c.as_slice-spans.result.now in
    let i = c.assignments.i in
    let x = c.index-assignments-i.result in
    let inv = c.assignments.invariant in
    let inside : i < length xs = omega arith in
    record {
      targets = see_target inv.targets x;
      shows = c.mark.ensures (count_of m) inv.targets inv.shows;
      faults = walk_step (λ earlier i a. assignment_checks m (get_or ss i nowhere) earlier a) see_target inv.targets xs i x c.assignments.held c.note_assignment-held.result
          (noted c.args.held (walk (λ earlier i a. assignment_checks m (get_or ss i nowhere) earlier a) see_target [] 0 xs)) inside c.index-assignments-i.is
          (c.note_assignment-held.ensures inv.targets (c.has-is_second.ensures ∙ inv.shows.each x.target.0)
          ∙ ap (λ s. noted c.assignments.held (assignment_checks m s inv.targets x)) c.span_at-span.ensures)
          inv.faults;
    }
