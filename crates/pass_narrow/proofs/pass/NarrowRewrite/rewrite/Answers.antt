use Rattle.pass_narrow.proofs.Lemmas.{node_rewrites, extended_rewrites}
use Rattle.pass_narrow.proofs.Put.{operand_put, node_put, extended_put}
use Rattle.pass_narrow.proofs.pass.NarrowRewrite.rewrite.Goals as goal

pub returns-in-Node-clause-rewrites : goal.returns-in-Node-clause-rewrites
returns-in-Node-clause-rewrites c =
    node_rewrites c.append.result c.args.state.now c.args.nodes.now.items c.narrowed.new.nodes.items c.append.new.nodes.items c.args.node c.in-Node.node c.in_ok-operand.field-0 c.in_ok-operand.ensures.narrows c.in-Node.is c.append.ensures.nodes c.append.ensures.operand

pub returns-in_ok-longer-in-Extended-clause-rewrites : goal.returns-in_ok-longer-in-Extended-clause-rewrites
returns-in_ok-longer-in-Extended-clause-rewrites c =
    extended_rewrites c.append-in-Extended-2.result c.args.state.now c.args.nodes.now.items c.narrowed.new.nodes.items c.append-in-Extended.new.nodes.items c.append-in-Extended-2.new.nodes.items c.args.node c.in-Extended.node c.in_ok-longer-in-Extended.longer c.in-Extended.width c.in_ok-operand-in-Extended.operand c.in_ok-operand.field-0 c.in_ok-operand.ensures.narrows c.in-Extended.is c.in_ok-operand-in-Extended.ensures.nodes c.in_ok-operand-in-Extended.ensures.operand c.in_ok-longer-in-Extended.ensures c.append-in-Extended-2.ensures.nodes c.append-in-Extended-2.ensures.operand

pub returns-in-Operand-clause-gives : goal.returns-in-Operand-clause-gives
returns-in-Operand-clause-gives c =
    operand_put c.args.state.now c.args.nodes.now.items c.narrowed.new.nodes.items c.args.node c.in-Operand.operand c.in_ok-operand.field-0 c.in_ok-operand.ensures.narrows c.in_ok-operand.ensures.normal c.in_ok-operand.ensures.is c.in-Operand.is

pub returns-in-Node-clause-gives : goal.returns-in-Node-clause-gives
returns-in-Node-clause-gives c =
    node_put c.append.result c.args.state.now c.args.nodes.now.items c.narrowed.new.nodes.items c.append.new.nodes.items c.args.node c.in-Node.node c.in_ok-operand.field-0 c.in_ok-operand.ensures.narrows c.in_ok-operand.ensures.normal c.in_ok-operand.ensures.is c.in-Node.is c.append.ensures.nodes c.append.ensures.operand

pub returns-in_ok-longer-in-Extended-clause-gives : goal.returns-in_ok-longer-in-Extended-clause-gives
returns-in_ok-longer-in-Extended-clause-gives c =
    extended_put c.append-in-Extended-2.result c.args.state.now c.args.nodes.now.items c.narrowed.new.nodes.items c.append-in-Extended.new.nodes.items c.append-in-Extended-2.new.nodes.items c.args.node c.in-Extended.node c.in_ok-longer-in-Extended.longer c.in-Extended.width c.in_ok-operand-in-Extended.operand c.in_ok-operand.field-0 c.in_ok-operand.ensures.narrows c.in_ok-operand.ensures.normal c.in_ok-operand.ensures.is c.in-Extended.is c.in_ok-operand-in-Extended.ensures.nodes c.in_ok-operand-in-Extended.ensures.operand c.in_ok-longer-in-Extended.ensures c.append-in-Extended-2.ensures.nodes c.append-in-Extended-2.ensures.operand
