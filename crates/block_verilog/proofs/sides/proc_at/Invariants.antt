use Rattle.std.proofs.Common.{◌≡◌, ◌+◌, drop}
use Rattle.net_core.specs.Cuts.{index_of}
use Rattle.block_verilog.specs.Sides.{has_site, proc_at}
use Rattle.block_verilog.proofs.sides.proc_at.Given as goal

abbrev pub invariant-procs : goal.invariant-procs
invariant-procs l = l.i + index_of (has_site l.sends l.channel) (drop l.i l.procs) ≡ proc_at l.procs l.sends l.channel
