use Rattle.std.proofs.lemmas.Result.{IfOk-weaker}
use Rattle.dslx_check_leaves.proofs.fits.fits.is_exhaustive.Goals as goal
use Rattle.dslx_check_leaves.proofs.OnFits.OnMatches.{exhausts_enum, exhausts_values}

pub returns-in-Some-clause-is : goal.returns-in-Some-clause-is
returns-in-Some-clause-is c = IfOk-weaker c.enum_matches.result _ _ (λ b h. exhausts_enum c.in-Some.item c.in-Some.ensures h) c.enum_matches.ensures.is

pub returns-in-None-clause-is : goal.returns-in-None-clause-is
returns-in-None-clause-is c = IfOk-weaker c.values_match.result _ _ (λ b h. exhausts_values c.in-None.ensures h) c.values_match.ensures.is
