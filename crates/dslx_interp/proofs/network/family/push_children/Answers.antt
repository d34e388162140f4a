use Rattle.std.proofs.Common.{◌-◌, ◌+◌, length, sym, subst, arith}
use Rattle.dslx_interp.specs.Network.Linked.{AllBelow}
use Rattle.dslx_interp.proofs.OnNetwork.OnFamily.Bounds.{child_below}
use Rattle.dslx_interp.proofs.network.family.push_children.Goals as goal

pub child_pending-requires : goal.child_pending-requires
child_pending-requires c =
    let made = c.requires.0 in
    let n = length c.args.children.now - 1 - c.children.left in
    let known = length c.args.parent.now.given + made in
    let below = child_below c.requires.1 known c.args.children.now n c.index-children-n.result c.requires.3 (omega (arith, c.children-test.true)) c.index-children-n.is in
    (made, c.requires.2, subst (λ given. AllBelow (length given + made) c.index-children-n.result.ends) (sym c.as_slice-given.ensures) below)
