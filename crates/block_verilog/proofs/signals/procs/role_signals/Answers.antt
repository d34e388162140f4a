use Rattle.ir_tree.specs.declared.node.Role.TheVariants as role
use Rattle.block_verilog.proofs.OnSignals.OnProcs.{by_role, send_role}
use Rattle.block_verilog.proofs.signals.procs.role_signals.Goals as goal

pub returns-in-Pure : goal.returns-in-Pure
returns-in-Pure c = by_role c.pure_signals.result c.args.wires.now c.pure_signals.new.wires c.args.scope c.args.registers c.args.views.now c.args.node.now c.role.result role.Pure c.role.ensures c.in-Pure.is c.pure_signals.ensures

pub returns-in-Receive : goal.returns-in-Receive
returns-in-Receive c =
    by_role c.receive_signals.result c.args.wires.now c.receive_signals.new.wires c.args.scope c.args.registers c.args.views.now c.args.node.now c.role.result (role.Receive c.in-Receive.predicate c.in-Receive.channel) c.role.ensures c.in-Receive.is
    c.receive_signals.ensures

pub returns-in-Send : goal.returns-in-Send
returns-in-Send c =
    send_role c.send_signals.result c.args.wires.now c.send_signals.new.wires c.args.scope c.args.registers c.args.views.now c.args.node.now c.role.result c.in-Send.predicate c.in-Send.channel c.as_slice-operands.result.now
    c.role.ensures c.in-Send.is c.as_slice-operands.ensures c.send_signals.ensures
