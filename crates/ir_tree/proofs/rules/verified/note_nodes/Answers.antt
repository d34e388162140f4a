use Rattle.std.proofs.Common.{◌<◌, [], length, get_or, ap, ◌∙◌, arith}
use Rattle.xb_span.specs.Spans.{nowhere}
use Rattle.ir_tree.specs.Rules.Checks.{noted}
use Rattle.ir_tree.specs.Rules.Lines.{node_checks}
use Rattle.ir_tree.specs.Rules.Verified.{nodes_checks, seen_after}
use Rattle.ir_tree.specs.Rules.Inner.Scopes.{seen_by}
use Rattle.ir_tree.proofs.OnRules.Walks.{nodes_step, seen_step}
use Rattle.ir_tree.proofs.rules.verified.note_nodes.Goals as goal

pub nodes-preserved : goal.nodes-preserved
nodes-preserved c =
    let channels = c.args.channels.now in
    let state = c.args.state.now in
    let spans = c.args.spans.now in
    let ns = c.args.nodes.now in
    let i = c.nodes.i in
    let here = c.index-nodes-i.result in
    let seen = seen_by c.nodes.seen in
    let below : i < length ns = omega arith in
    record {
      faults = nodes_step channels state spans ns i here seen (seen_by c.see.new.self) c.nodes.held c.note_node-held.result (noted c.args.held (nodes_checks channels state spans [] 0 (seen_by c.args.seen.now) ns)) below c.index-nodes-i.is c.see.ensures
          (c.note_node-held.ensures
          ∙ ap (λ k. noted c.nodes.held (node_checks channels state c.nodes_before.result.now c.span_at.result k seen here)) c.nodes_before.ensures.count
          ∙ ap (λ s. noted c.nodes.held (node_checks channels state c.nodes_before.result.now s i seen here)) c.span_at.ensures
          ∙ ap (λ bs. noted c.nodes.held (node_checks channels state bs (get_or spans i nowhere) i seen here)) c.nodes_before.ensures.nodes)
          c.nodes.invariant.faults;
      after = seen_step ns i here seen (seen_by c.see.new.self) (seen_after 0 (seen_by c.args.seen.now) ns) below c.index-nodes-i.is c.see.ensures c.nodes.invariant.after;
    }
