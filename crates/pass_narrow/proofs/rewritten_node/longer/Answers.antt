use Rattle.std.proofs.Common.{sym, ap, ◌∙◌}
use Rattle.pass_narrow.specs.Views.{width_in}
use Rattle.pass_narrow.proofs.Standing.{longer_made}
use Rattle.pass_narrow.proofs.NormalSides.{longer_normal}
use Rattle.pass_narrow.proofs.Determined.{as_long, longer}
use Rattle.pass_narrow.proofs.rewritten_node.longer.Goals as goal

pub returns-clause-gives : goal.returns-clause-gives
returns-clause-gives c = longer_made c.append.result c.args.state.now c.args.nodes.now.items c.append.new.nodes.items c.args.operand c.args.width c.in_ok-node.node c.in_ok-node.ensures c.append.ensures.nodes c.append.ensures.operand

pub returns-clause-normal : goal.returns-clause-normal
returns-clause-normal c =
    longer_normal c.append.result c.args.state.now c.args.nodes.now.items c.append.new.nodes.items c.args.operand c.args.width c.in_ok-node.node
    (λ e. c.if-width_of-width.false (c.width_of.ensures ∙ (ap (λ ns. width_in c.args.state.now ns c.args.operand) c.as_slice.ensures.value ∙ e)))
    c.in_ok-node.ensures c.append.ensures.nodes c.append.ensures.operand

pub returns-then-width_of-width-clause-made : goal.returns-then-width_of-width-clause-made
returns-then-width_of-width-clause-made c =
    as_long c.args.state.now c.args.nodes.now.items c.args.operand c.args.width
    (ap (λ ns. width_in c.args.state.now ns c.args.operand) (sym c.as_slice.ensures.value) ∙ sym c.width_of.ensures ∙ c.if-width_of-width.true)

pub returns-clause-made : goal.returns-clause-made
returns-clause-made c =
    longer c.append.result c.args.state.now c.args.nodes.now.items c.append.new.nodes.items c.args.operand c.args.width c.in_ok-node.node
    (λ e. c.if-width_of-width.false (c.width_of.ensures ∙ (ap (λ ns. width_in c.args.state.now ns c.args.operand) c.as_slice.ensures.value ∙ e)))
    c.in_ok-node.ensures c.append.ensures.nodes c.append.ensures.operand
