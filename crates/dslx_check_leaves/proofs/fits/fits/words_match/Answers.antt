use Rattle.dslx_check_facts.proofs.Lemmas.Walks.{misses_refl}
use Rattle.dslx_check_facts.specs.Walks.{shown}
use Rattle.dslx_check_leaves.proofs.fits.fits.words_match.Goals as goal
use Rattle.dslx_check_leaves.proofs.OnFits.OnFits.EachValue.{words_caught}

pub returns-then-catches_all-clause-misses : goal.returns-then-catches_all-clause-misses
returns-then-catches_all-clause-misses c = misses_refl (shown c.args.w.now)

pub returns-then-catches_all-clause-is : goal.returns-then-catches_all-clause-is
returns-then-catches_all-clause-is c = words_caught c.args.count (c.catches_all.ensures c.if-catches_all.true)
