use Rattle.std.proofs.Common.{◌≡◌, ◌++◌, ℕ, [], length, get_or, sym, ap, ◌∙◌, subst, true, false}
use Rattle.xb_span.specs.Spans.{nowhere}
use Rattle.vlog_tree.specs.Verifier.Checks.{noted, walk}
use Rattle.vlog_tree.specs.Verifier.Parts.{count_of, set_checks, see_set}
use Rattle.vlog_tree.specs.Verifier.Verified.{set_targets, resets_checks, clocks_checks}
use Rattle.vlog_tree.specs.Verifier.Inner.Seen.{ShowsMarks}
use Rattle.vlog_tree.proofs.OnVerifier.Steps.{noted-append}
use Rattle.vlog_tree.proofs.verifier.walks.note_branches.Goals as goal

pub returns : goal.returns
returns c =
    let m = c.args.design.now in
    let pl = c.args.part_spans.now in
    let resets : ShowsMarks (count_of m) c.in_ok-at_reset.at_reset (set_targets m.at_reset) =
    subst (λ n. ShowsMarks n c.in_ok-at_reset.at_reset (set_targets m.at_reset)) c.signal_count-count.ensures
    (subst (λ xs. ShowsMarks c.signal_count-count.result c.in_ok-at_reset.at_reset (set_targets xs)) c.as_slice-resets.ensures c.in_ok-at_reset.ensures) in
    let clocks : ShowsMarks (count_of m) c.in_ok-at_clock.at_clock (set_targets m.at_clock) =
    subst (λ n. ShowsMarks n c.in_ok-at_clock.at_clock (set_targets m.at_clock)) c.signal_count-count.ensures
    (subst (λ xs. ShowsMarks c.signal_count-count.result c.in_ok-at_clock.at_clock (set_targets xs)) c.as_slice-clocks.ensures c.in_ok-at_clock.ensures) in
    c.in_ok-held-2.ensures (set_targets m.at_reset) resets
    ∙ ap (λ ss. noted c.in_ok-held.held (walk (λ earlier i set. set_checks m false (set_targets m.at_reset) (get_or ss i nowhere) earlier set) see_set [] 0 c.as_slice-clocks.result.now)) c.as_slice-spans-2.ensures
    ∙ ap (λ xs. noted c.in_ok-held.held (walk (λ earlier i set. set_checks m false (set_targets m.at_reset) (get_or pl.at_clock i nowhere) earlier set) see_set [] 0 xs)) c.as_slice-clocks.ensures
    ∙ ap (λ h. noted h (clocks_checks m pl))
    (c.in_ok-held.ensures (set_targets m.at_clock) clocks
    ∙ ap (λ ss. noted c.args.held (walk (λ earlier i set. set_checks m true (set_targets m.at_clock) (get_or ss i nowhere) earlier set) see_set [] 0 c.as_slice-resets.result.now)) c.as_slice-spans.ensures
    ∙ ap (λ xs. noted c.args.held (walk (λ earlier i set. set_checks m true (set_targets m.at_clock) (get_or pl.at_reset i nowhere) earlier set) see_set [] 0 xs)) c.as_slice-resets.ensures)
    ∙ sym (noted-append (resets_checks m pl) (clocks_checks m pl) c.args.held)
