use Rattle.std.proofs.Common.{◌≡◌, [], replicate}
use Rattle.cycle_sim.proofs.cycles.bench.none_moved.Given as goal

abbrev pub invariant-channels : goal.invariant-channels
invariant-channels l = l.moved.items ≡ replicate l._made []
