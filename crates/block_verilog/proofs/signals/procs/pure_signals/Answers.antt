use Rattle.block_verilog.proofs.OnSignals.OnProcs.{pure_made}
use Rattle.block_verilog.proofs.signals.procs.pure_signals.Goals as goal

pub returns : goal.returns
returns c = pure_made c.args.wires.now c.pure.new.wires c.args.scope c.args.node.now c.in_ok-signals.signals c.in_ok-signals.ensures
