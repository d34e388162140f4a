use Rattle.std.proofs.Common.{subst, ap, ◌∙◌, get_or}
use Rattle.xb_span.specs.Spans.{nowhere}
use Rattle.vlog_tree.specs.Verifier.Inner.Firsts.{IsFirstLoop}
use Rattle.vlog_tree.proofs.OnVerifier.Judging.{verdict_free, verdict_looped}
use Rattle.vlog_tree.proofs.verifier.verified.first_fault.Goals as goal

pub returns-in-None-clause-judged : goal.returns-in-None-clause-judged
returns-in-None-clause-judged c =
    verdict_free c.args.design.now c.args.part_spans.now c.in_ok-held.held c.in_ok-held.ensures (subst (IsFirstLoop c.args.design.now) c.in-None.is c.in_ok-first_loop.ensures.first)

pub returns-in-Some-clause-judged : goal.returns-in-Some-clause-judged
returns-in-Some-clause-judged c =
    verdict_looped c.args.design.now c.args.part_spans.now c.in_ok-held.held c.note_rule.result c.in-Some.place c.span_at-span.result c.in_ok-held.ensures
    (subst (IsFirstLoop c.args.design.now) c.in-Some.is c.in_ok-first_loop.ensures.first)
    (c.span_at-span.ensures ∙ ap (λ xs. get_or xs c.in-Some.place nowhere) c.as_slice.ensures) c.note_rule.ensures
