use Rattle.std.proofs.Common.{ap, ◌∙◌, subst, ◌≡◌}
use Rattle.std.specs.List.{list_any}
use Rattle.ir_tree.specs.Activations.{sites_of}
use Rattle.block_verilog.specs.Sides.{stands_at, has_site}
use Rattle.block_verilog.proofs.OnEnds.{none_so_far, one_found, none_found}
use Rattle.block_verilog.proofs.sides.stands.Goals as goal

pub nodes-init : goal.nodes-init
nodes-init c = ap (λ ns. list_any (stands_at c.args.sends c.args.channel) (sites_of ns)) c.as_slice-nodes.ensures

pub nodes-preserved : goal.nodes-preserved
nodes-preserved c =
    none_so_far (stands_at c.args.sends c.args.channel) c.as_slice-nodes.result.now c.nodes.i c.index-nodes-i.result c.node_stands_at.result (has_site c.args.sends c.args.channel c.args.proc.now) c.nodes-test.true c.index-nodes-i.is
    c.node_stands_at.ensures c.if-node_stands_at.false c.nodes.invariant

pub returns-then-node_stands_at : goal.returns-then-node_stands_at
returns-then-node_stands_at c =
    one_found (stands_at c.args.sends c.args.channel) c.as_slice-nodes.result.now c.nodes.i c.index-nodes-i.result c.node_stands_at.result (has_site c.args.sends c.args.channel c.args.proc.now) c.nodes-test.true c.index-nodes-i.is
    c.node_stands_at.ensures c.if-node_stands_at.true c.nodes.invariant

pub returns : goal.returns
returns c = none_found (stands_at c.args.sends c.args.channel) c.as_slice-nodes.result.now c.nodes.i (has_site c.args.sends c.args.channel c.args.proc.now) c.nodes-test.false c.nodes.invariant
