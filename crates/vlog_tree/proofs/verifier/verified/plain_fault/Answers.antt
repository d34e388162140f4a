use Rattle.std.proofs.Common.{None, subst, ap}
use Rattle.vlog_tree.specs.Verifier.Parts.{count_of}
use Rattle.vlog_tree.specs.Verifier.Verified.{targets, signals_checks, ports_checks, end_check, assignments_checks, resets_checks, clocks_checks, literals_checks, module_checks}
use Rattle.vlog_tree.specs.Verifier.Inner.Seen.{ShowsMarks}
use Rattle.vlog_tree.proofs.OnVerifier.Judging.{all_noted}
use Rattle.vlog_tree.proofs.verifier.verified.plain_fault.Goals as goal

pub note_signals-requires : goal.note_signals-requires
note_signals-requires c =
    subst (λ n. ShowsMarks n c.in_ok-driven.driven (targets c.args.design.now.assignments)) c.signal_count.ensures
    (subst (λ xs. ShowsMarks c.signal_count.result c.in_ok-driven.driven (targets xs)) c.as_slice-assignments.ensures c.in_ok-driven.ensures)

pub returns : goal.returns
unfolding module_checks
returns c =
    let m = c.args.design.now in
    let pl = c.args.part_spans.now in
    all_noted (signals_checks m pl) (ports_checks m pl) (assignments_checks m pl) (resets_checks m pl) (clocks_checks m pl) (literals_checks m pl) (end_check m pl)
    None c.in_ok-held.held c.note_ports-held.result c.in_ok-held-2.held c.in_ok-held-3.held c.in_ok-held-4.held
    c.in_ok-held.ensures c.note_ports-held.ensures c.in_ok-held-2.ensures c.in_ok-held-3.ensures c.in_ok-held-4.ensures
