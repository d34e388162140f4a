use Rattle.std.proofs.Common.{◌≡◌, drop}
use Rattle.dslx_interp.specs.Network.Inner.Counts.{and_children}
use Rattle.dslx_interp.proofs.network.count.and_children.Given as goal

abbrev pub invariant-children : goal.invariant-children
invariant-children l = and_children l.counts l.count (drop l.child-index l.children) ≡ and_children l.counts l.fn.own l.children
