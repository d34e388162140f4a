use Rattle.dslx_check_facts.specs.Walks.{shown}
use Rattle.dslx_check_leaves.proofs.fits.fits.members_match.Given as goal
use Rattle.dslx_check_leaves.proofs.OnFits.OnFits.Members.{MembersLeft}

abbrev pub invariant-members : goal.invariant-members
invariant-members l = MembersLeft l.f (shown l.fn.w) (shown l.w) l.ty l.item l.choice l.members l.arms l.member-index
