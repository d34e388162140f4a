use Rattle.std.proofs.Common.{ℕ, List, subst}
use Rattle.base.specs.TopoOrder.Needs.{Reaches}
use Rattle.dslx_check_leaves.proofs.fits.ways.find_way.Goals as goal
use Rattle.dslx_check_leaves.proofs.OnFits.OnWays.{way_known}

pub returns-then-branch : goal.returns-then-branch
returns-then-branch c = way_known c.args.f.now c.args.from c.args.to (subst (λ (needs : List (List ℕ)). Reaches needs c.args.from c.args.to) c.as_slice.ensures.value (c.in_ok-has_way.ensures c.if-branch.true))
