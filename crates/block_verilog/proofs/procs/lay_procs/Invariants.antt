use Rattle.block_verilog.proofs.OnProcs.{ProcsLeft}
use Rattle.block_verilog.proofs.procs.lay_procs.Given as goal

abbrev pub invariant-procs : goal.invariant-procs
invariant-procs l = ProcsLeft l.fn.registers l.registers l.channels l.procs l.schedules l.i l.layouts.items
