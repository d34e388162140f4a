use Rattle.std.proofs.Common.{◌≡◌, ◌-◌, length, refl, ap, ◌∙◌}
use Rattle.pass_dead.proofs.MarkSteps.{none_visited, node_there, one_visited}
use Rattle.pass_dead.proofs.Reached.{counted, first_needed, visited_needed}
use Rattle.pass_dead.proofs.marks.live.Goals as goal

pub nodes-init : goal.nodes-init
nodes-init c =
    let count : length c.in_ok-kept.kept.items ≡ length c.args.proc.now.nodes = counted c.in_ok-kept.kept.items (length c.as_slice-nodes.result.now) c.in_ok-kept.ensures ∙ ap length c.as_slice-nodes.ensures in (
      none_visited c.args.proc.now c.in_ok-kept.kept.items c.mark.new.kept.items c.requires count c.mark.ensures,
      first_needed c.args.proc.now (length c.as_slice-nodes.result.now) c.in_ok-kept.kept.items c.mark.new.kept.items c.in_ok-kept.ensures c.mark.ensures,
    )

pub nodes-preserved : goal.nodes-preserved
nodes-preserved c =
    let proc = c.args.proc.now in
    let nodes = c.as_slice-nodes.result.now in
    let place = length nodes - 1 - c.nodes.k in
    let n = c.index-nodes-place.result in (
      one_visited proc nodes c.nodes.k place n c.nodes.kept.items c.visit.new.kept.items c.requires c.as_slice-nodes.ensures c.nodes-test.true refl c.index-nodes-place.is c.nodes.invariant.0 c.visit.ensures,
      visited_needed proc c.nodes.kept.items c.visit.new.kept.items place n c.nodes.invariant.1 (node_there proc nodes c.nodes.k place n c.as_slice-nodes.ensures c.nodes-test.true refl c.index-nodes-place.is) c.visit.ensures,
    )
