use Rattle.std.proofs.Common.{◌≡◌, ◌++◌}
use Rattle.block_build.specs.Netlist.Leaves.{nets}
use Rattle.block_build.proofs.netlist.leaves.push_signals.Given as goal

abbrev pub invariant-signals : goal.invariant-signals
invariant-signals l = l.atoms.items ≡ l.initial.atoms.items ++ nets l.first l.i
