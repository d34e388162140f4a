use Rattle.std.proofs.Common.{arith}
use Rattle.block_verilog.proofs.OnSignals.OnProcs.{place_is}
use Rattle.block_verilog.proofs.signals.procs.state_place.Goals as goal

pub returns : goal.returns
returns c =
    place_is c.args.state.now c.args.registers.now c.from_vec.result c.push_signals.new.atoms.items c.new-own.result.items c.len.result c.in_ok-widths.widths.items
    c.from_vec.ensures c.in_ok-push_signals.ensures c.new-own.ensures.items (omega (arith, c.len.ensures, c.in_ok-widths.widths.ok.0)) c.in_ok-widths.ensures
