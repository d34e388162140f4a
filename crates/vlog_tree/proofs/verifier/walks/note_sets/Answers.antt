use Rattle.std.proofs.Common.{◌≡◌, ◌<◌, ℕ, [], length, get_or, ap, ◌∙◌, arith}
use Rattle.xb_span.specs.Spans.{nowhere}
use Rattle.vlog_tree.specs.Verifier.Checks.{noted, walk}
use Rattle.vlog_tree.specs.Verifier.Parts.{count_of, set_checks, see_set}
use Rattle.vlog_tree.proofs.OnVerifier.Steps.{walk_step, walk_end}
use Rattle.vlog_tree.proofs.verifier.walks.note_sets.Goals as goal

pub sets-preserved : goal.sets-preserved
sets-preserved c =
    let m = c.args.design.now in
    let xs = c.args.sets.now in
    let ss = c.args.spans.now in
    let r = c.args.is_reset in
    let i = c.sets.i in
    let x = c.index-sets-i.result in
    let inv = c.sets.invariant in
    let inside : i < length xs = omega arith in
    record {
      targets = see_set inv.targets x;
      shows = c.mark.ensures (count_of m) inv.targets inv.shows;
      faults = λ others h. walk_step (λ earlier i set. set_checks m r others (get_or ss i nowhere) earlier set) see_set inv.targets xs i x c.sets.held c.note_set-held.result
          (noted c.args.held (walk (λ earlier i set. set_checks m r others (get_or ss i nowhere) earlier set) see_set [] 0 xs)) inside c.index-sets-i.is
          (c.note_set-held.ensures others inv.targets (c.has-is_second.ensures ∙ inv.shows.each x.target.0) (c.has-is_in_other.ensures ∙ h.each x.target.0)
          ∙ ap (λ s. noted c.sets.held (set_checks m r others s inv.targets x)) c.span_at-span.ensures)
          (inv.faults others h);
    }

pub returns : goal.returns
returns c = λ targets h.
    let m = c.args.design.now in
    let xs = c.args.sets.now in
    let ss = c.args.spans.now in
    let r = c.args.is_reset in
    walk_end (λ earlier i set. set_checks m r targets (get_or ss i nowhere) earlier set) see_set c.sets.invariant.targets xs c.sets.i c.sets.held
    (noted c.args.held (walk (λ earlier i set. set_checks m r targets (get_or ss i nowhere) earlier set) see_set [] 0 xs)) (omega arith) (c.sets.invariant.faults targets h)
