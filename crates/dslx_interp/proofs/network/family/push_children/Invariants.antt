use Rattle.std.proofs.Common.{◌≡◌, ◌++◌, ◌-◌, drop, length}
use Rattle.dslx_interp.specs.Network.Inner.Pending.{children_pending}
use Rattle.dslx_interp.proofs.network.family.push_children.Given as goal

abbrev pub invariant-children : goal.invariant-children
invariant-children l =
    l.pending ≡ children_pending l.parent.path l.parent.instance l.parent.given l.number (length l.children - l.left) (drop (length l.children - l.left) l.children) ++ l.initial.pending
