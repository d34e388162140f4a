use Rattle.std.proofs.lemmas.Result.{IfOk-weaker}
use Rattle.dslx_check_leaves.proofs.fits.fits.enum_matches.Goals as goal
use Rattle.dslx_check_leaves.proofs.OnFits.OnFits.Members.{reached_members}

pub returns-clause-is : goal.returns-clause-is
returns-clause-is c = IfOk-weaker c.members_match.result _ _ (λ b h. reached_members c.args.owner c.args.item c.in_ok-choice.choice.now c.in_ok-find_way.ensures c.in_ok-choice.ensures h) c.members_match.ensures.is
