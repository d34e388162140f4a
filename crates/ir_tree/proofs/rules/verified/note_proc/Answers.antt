use Rattle.std.proofs.Common.{◌++◌, [], ◌∷◌, length, ap, sym, ◌∙◌}
use Rattle.std.specs.Prelude.{nat_lt}
use Rattle.xb_span.specs.declared.fault.Fault.TheVariants.{Passed}
use Rattle.xb_span.specs.declared.limit.What.TheVariants as what
use Rattle.ir_tree.specs.Activations.{sites_of}
use Rattle.ir_tree.specs.Rules.Checks.{note, noted}
use Rattle.ir_tree.specs.Rules.Lines.{head_checks, next_checks}
use Rattle.ir_tree.specs.Rules.Verified.{nodes_checks, at_start, count_check}
use Rattle.ir_tree.specs.Rules.Inner.Scopes.{seen_by}
use Rattle.ir_tree.proofs.OnRules.Noted.{noted-append}
use Rattle.ir_tree.proofs.rules.verified.note_proc.Goals as goal

pub returns-clause-fault : goal.returns-clause-fault
returns-clause-fault c = λ names e.
    let p = c.args.proc.now in
    let line_spans = c.args.line_spans.now in
    let channels = c.args.channels.now in
    let start = at_start (seen_by c.args.seen.now) in
    let head = head_checks line_spans.head names p in
    let nodes = nodes_checks channels p.state line_spans.nodes [] 0 start p.nodes in
    let next = next_checks line_spans.next p in
    let count = count_check (Passed line_spans.end (record { what = what.Sites; found = 33; most = 32 })) 32 (length (sites_of p.nodes)) ∷ [] in
    c.note.ensures
    ∙ ap (λ n. note (nat_lt 32 n) c.passed.result c.note_next-held.result) (c.count_sites.ensures ∙ ap (λ ns. length (sites_of ns)) c.as_slice-nodes.ensures)
    ∙ ap (λ f. note (nat_lt 32 (length (sites_of p.nodes))) f c.note_next-held.result) c.passed.ensures
    ∙ ap (λ h. noted h count)
    (c.note_next-held.ensures
    ∙ ap (λ h. noted h next)
    (c.note_nodes-held.ensures.fault
    ∙ ap (λ z. noted c.note_head-held.result (nodes_checks channels p.state c.as_slice.result.now [] 0 z c.as_slice-nodes.result.now)) c.start.ensures
    ∙ ap (λ ss. noted c.note_head-held.result (nodes_checks channels p.state ss [] 0 start c.as_slice-nodes.result.now)) c.as_slice.ensures
    ∙ ap (λ ns. noted c.note_head-held.result (nodes_checks channels p.state line_spans.nodes [] 0 start ns)) c.as_slice-nodes.ensures
    ∙ ap (λ h. noted h nodes) (c.note_head-held.ensures names e)))
    ∙ sym
    (noted-append head (nodes ++ (next ++ count)) c.args.held
    ∙ noted-append nodes (next ++ count) (noted c.args.held head)
    ∙ noted-append next count (noted (noted c.args.held head) nodes))
