use Rattle.std.proofs.Common.{arith}
use Rattle.dslx_check_facts.proofs.Lemmas.Walks.{misses_refl, misses_trans}
use Rattle.dslx_check_facts.specs.Walks.{shown}
use Rattle.dslx_check_leaves.proofs.fits.fits.each_word_matches.Goals as goal
use Rattle.dslx_check_leaves.proofs.OnFits.OnFits.EachValue.{word_matches, words_all, words_begin, words_more, words_not}

pub words-init : goal.words-init
words-init c = words_begin (misses_refl (shown c.args.w.now))

pub words-preserved : goal.words-preserved
words-preserved c = words_more c.words.word c.words.invariant c.in_ok-is_matched.ensures.misses
    (word_matches c.words.word c.in_ok-low.low.value c.words.invariant.misses c.in_ok-low.ensures.value c.in_ok-is_matched.ensures.is) c.if-not-is_matched.false

pub returns-then-not-is_matched-clause-misses : goal.returns-then-not-is_matched-clause-misses
returns-then-not-is_matched-clause-misses c = misses_trans _ _ _ c.words.invariant.misses c.in_ok-is_matched.ensures.misses

pub returns-then-not-is_matched-clause-is : goal.returns-then-not-is_matched-clause-is
returns-then-not-is_matched-clause-is c = words_not c.words.word c.args.count (omega arith)
    (word_matches c.words.word c.in_ok-low.low.value c.words.invariant.misses c.in_ok-low.ensures.value c.in_ok-is_matched.ensures.is) c.if-not-is_matched.true

pub returns-clause-misses : goal.returns-clause-misses
returns-clause-misses c = c.words.invariant.misses

pub returns-clause-is : goal.returns-clause-is
returns-clause-is c = words_all c.words.word c.args.count (omega arith) c.words.invariant
