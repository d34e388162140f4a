use Rattle.block_verilog.proofs.OnProcs.{MadeSoFar}
use Rattle.block_verilog.proofs.procs.wire_procs.Given as goal

abbrev pub invariant-procs : goal.invariant-procs
invariant-procs l = MadeSoFar l.initial.wires l.wires l.run l.channels l.procs l.schedules l.layouts l.views l.i l.made.items
