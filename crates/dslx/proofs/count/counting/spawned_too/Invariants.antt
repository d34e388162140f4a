use Rattle.std.proofs.Common.{◌≡◌, drop}
use Rattle.dslx.specs.Count.Counting.{with_sizes}
use Rattle.dslx.proofs.count.counting.spawned_too.Given as goal

abbrev pub invariant-spawned : goal.invariant-spawned
invariant-spawned l = with_sizes l.order l.sizes l.size (drop l.instance-index l.spawned) ≡ with_sizes l.order l.sizes l.fn.own l.spawned
