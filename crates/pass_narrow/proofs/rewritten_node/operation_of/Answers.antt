use Rattle.pass_narrow.proofs.Standing.{operation_stands}
use Rattle.pass_narrow.proofs.NormalSides.{operation_keeps}
use Rattle.pass_narrow.proofs.Determined.{operation_made}
use Rattle.pass_narrow.proofs.rewritten_node.operation_of.Goals as goal

pub returns-clause-narrows : goal.returns-clause-narrows
returns-clause-narrows c = λ n. operation_stands c.args.state.now c.args.nodes.now.items c.longer.new.nodes.items c.longer-2.new.nodes.items n c.in_ok-operation.field-0 c.args.op c.args.a c.args.b c.in_ok-a.a c.in_ok-b.b c.args.least c.args.total c.requires c.in_ok-a.ensures.gives c.in_ok-b.ensures.gives c.in_ok-operation.ensures

pub returns-clause-normal : goal.returns-clause-normal
returns-clause-normal c = λ n. operation_keeps c.args.state.now c.args.nodes.now.items c.longer.new.nodes.items c.longer-2.new.nodes.items n c.in_ok-operation.field-0 c.args.op c.args.a c.args.b c.in_ok-a.a c.in_ok-b.b c.args.least c.args.total c.requires c.in_ok-a.ensures.gives c.in_ok-a.ensures.normal c.in_ok-b.ensures.gives c.in_ok-b.ensures.normal c.in_ok-operation.ensures

pub returns-clause-made : goal.returns-clause-made
returns-clause-made c = operation_made c.args.state.now c.args.nodes.now.items c.longer.new.nodes.items c.longer-2.new.nodes.items c.in_ok-operation.field-0 c.args.op c.args.a c.args.b c.in_ok-a.a c.in_ok-b.b c.args.least c.args.total c.in_ok-a.ensures.made c.in_ok-b.ensures.made c.in_ok-operation.ensures
