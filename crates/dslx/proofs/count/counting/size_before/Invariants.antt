use Rattle.std.proofs.Common.{◌≡◌, drop}
use Rattle.dslx.specs.Count.Counting.{size_among}
use Rattle.dslx.proofs.count.counting.size_before.Given as goal

abbrev pub invariant-sizes : goal.invariant-sizes
invariant-sizes l = size_among (drop l.i l.order) (drop l.i l.sizes) l.instance ≡ size_among l.order l.sizes l.instance
