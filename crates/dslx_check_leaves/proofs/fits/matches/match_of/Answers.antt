use Rattle.dslx_check_leaves.proofs.fits.matches.match_of.Goals as goal
use Rattle.dslx_check_leaves.proofs.OnFits.OnMatches.{match_from}

pub returns : goal.returns
returns c = match_from c.args.span c.in_ok-is_exhaustive.ensures.misses c.in_ok-is_exhaustive.ensures.is c.match_typing.ensures
