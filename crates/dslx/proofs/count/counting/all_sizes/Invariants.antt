use Rattle.std.proofs.Common.{◌≡◌, [], drop}
use Rattle.dslx.specs.Count.Counting.{sizes_behind}
use Rattle.dslx.proofs.count.counting.all_sizes.Given as goal

abbrev pub invariant-order : goal.invariant-order
invariant-order l = sizes_behind l.text l.order l.sizes.items (drop l.instance-index l.order) ≡ sizes_behind l.text l.order [] l.order
