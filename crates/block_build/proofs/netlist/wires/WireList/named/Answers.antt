use Rattle.std.proofs.Common.{sym, ap}
use Rattle.vlog_tree.specs.Value.{atom_value}
use Rattle.block_build.proofs.OnNetlist.OnAdded.{wires_named}
use Rattle.block_build.proofs.netlist.wires.WireList.named.Goals as goal

pub returns-in-Signal : goal.returns-in-Signal
returns-in-Signal c = λ v h. (h, ap (atom_value v) (sym c.in-Signal.is))

pub returns-in-Literal : goal.returns-in-Literal
returns-in-Literal c = wires_named c.wire.result c.args.self.now c.wire.new.self c.args.width c.args.a c.wire.ensures.number c.wire.ensures.puts
