use Rattle.std.proofs.Common.{◌≡◌, ◌-◌, ◌∷◌, [], length, get_or, sym, ap, ◌∙◌, arith}
use Rattle.std.specs.Prelude.{not}
use Rattle.xb_span.specs.Spans.{nowhere}
use Rattle.vlog_tree.specs.Verifier.Checks.{noted, walk, seen_after, rule_at}
use Rattle.vlog_tree.specs.Verifier.Ports.{Clock, due_behind, may_end}
use Rattle.vlog_tree.specs.Verifier.Parts.{port_checks}
use Rattle.vlog_tree.specs.Verifier.Verified.{ports_checks, end_check}
use Rattle.vlog_tree.specs.Verifier.Inner.Seen.{due_of}
use Rattle.vlog_tree.proofs.OnVerifier.Steps.{walk_end, see_end, noted-append}
use Rattle.vlog_tree.proofs.verifier.walks.note_ports.Goals as goal
use Rattle.vlog_tree.specs.Verifier.RuleNumbers as rule

pub returns : goal.returns
returns c =
    let m = c.args.design.now in
    let pl = c.args.part_spans.now in
    let xs = c.as_slice-ports.result.now in
    let ss = c.as_slice-spans.result.now in
    let walked : c.ports.held ≡ noted c.args.held (ports_checks m pl) =
    walk_end (λ due i p. port_checks (get_or ss i nowhere) due p) due_behind (due_of c.ports.due) xs c.ports.i c.ports.held
    (noted c.args.held (walk (λ due i p. port_checks (get_or ss i nowhere) due p) due_behind Clock 0 xs)) (omega arith) c.ports.invariant.faults
    ∙ ap (λ ys. noted c.args.held (walk (λ due i p. port_checks (get_or ss i nowhere) due p) due_behind Clock 0 ys)) c.as_slice-ports.ensures
    ∙ ap (λ zs. noted c.args.held (walk (λ due i p. port_checks (get_or zs i nowhere) due p) due_behind Clock 0 m.ports)) c.as_slice-spans.ensures in
    let due : due_of c.ports.due ≡ seen_after due_behind Clock m.ports =
    see_end due_behind (due_of c.ports.due) xs c.ports.i (seen_after due_behind Clock xs) (omega arith) c.ports.invariant.after ∙ ap (seen_after due_behind Clock) c.as_slice-ports.ensures in
    let k : c.saturating_sub.result ≡ length xs - 1 = omega arith in
    let span : c.span_at-last.result ≡ get_or pl.ports (length m.ports - 1) nowhere =
    c.span_at-last.ensures
    ∙ ap (λ k. get_or ss k nowhere) k
    ∙ ap (λ ys. get_or ss (length ys - 1) nowhere) c.as_slice-ports.ensures
    ∙ ap (λ zs. get_or zs (length m.ports - 1) nowhere) c.as_slice-spans.ensures in
    c.note_rule.ensures
    ∙ ap (λ s. noted c.ports.held (rule_at s rule.PORTS_ARE_CHANNELS (not c.may_end.result) ∷ [])) span
    ∙ ap (λ b. noted c.ports.held (rule_at (get_or pl.ports (length m.ports - 1) nowhere) rule.PORTS_ARE_CHANNELS (not b) ∷ [])) (c.may_end.ensures ∙ ap may_end due)
    ∙ ap (λ h. noted h (end_check m pl ∷ [])) walked
    ∙ sym (noted-append (ports_checks m pl) (end_check m pl ∷ []) c.args.held)
