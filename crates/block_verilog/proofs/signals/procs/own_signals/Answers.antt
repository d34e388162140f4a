use Rattle.std.proofs.Common.{arith}
use Rattle.ir_tree.specs.Types.{ty_of}
use Rattle.block_build.specs.Netlist.Leaves.{leaf_widths}
use Rattle.block_verilog.proofs.OnSignals.OnProcs.{counted_put, counted_long}
use Rattle.block_verilog.proofs.signals.procs.own_signals.Goals as goal

pub returns-clause-put : goal.returns-clause-put
returns-clause-put c =
    counted_put c.counted.result c.args.wires.now c.role_signals.new.wires c.args.scope c.args.registers c.args.views.now c.args.node.now c.in_ok-own.own c.counted.ensures.same c.in_ok-own.ensures

pub returns-clause-count : goal.returns-clause-count
returns-clause-count c =
    counted_long c.counted.result c.len-count.result c.in_ok-widths_of.field-0.items (leaf_widths (ty_of c.args.node.now.ty)) (omega (arith, c.len-count.ensures, c.in_ok-widths_of.field-0.ok.0)) c.in_ok-widths_of.ensures c.counted.ensures.count
