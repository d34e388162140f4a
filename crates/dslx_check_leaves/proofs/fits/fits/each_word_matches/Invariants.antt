use Rattle.dslx_check_facts.specs.Walks.{shown}
use Rattle.dslx_check_leaves.proofs.fits.fits.each_word_matches.Given as goal
use Rattle.dslx_check_leaves.proofs.OnFits.OnFits.EachValue.{WordsSoFar}

abbrev pub invariant-words : goal.invariant-words
invariant-words l = WordsSoFar l.f (shown l.fn.w) (shown l.w) l.ty l.arms l.word
