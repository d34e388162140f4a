use Rattle.std.proofs.Common.{◌≡◌, [], arith, subst, sym}
use Rattle.dslx_check_facts.specs.Walks.{OnlyMisses, shown}
use Rattle.dslx_check_facts.proofs.Lemmas.Walks.{misses_grows, misses_refl, misses_trans, nothing_missing}
use Rattle.dslx_check_facts.proofs.OnMarks.{all_seen, one_more}
use Rattle.dslx_check_facts.proofs.OnSettled.{MentionSettles}
use Rattle.dslx_check_facts.proofs.settled.ask_all.Goals as goal

pub mentions-init : goal.mentions-init
mentions-init c = (misses_refl (shown c.args.w.now), λ none rest. rest)

pub mentions-preserved : goal.mentions-preserved
mentions-preserved c = (
  misses_trans (shown c.args.w.now) (shown c.mentions.w) (shown c.ask_one.new.w) c.mentions.invariant.0 c.in_ok-ask_one.ensures.misses,
  λ none rest. one_more (MentionSettles c.args.f.now) c.args.mentions.now c.mentions.i c.index-mentions-i.result c.mentions-test.true c.index-mentions-i.is
      (c.in_ok-ask_one.ensures.settled none)
      (c.mentions.invariant.1 (nothing_missing (shown c.mentions.w) (shown c.ask_one.new.w) (misses_grows (shown c.mentions.w) (shown c.ask_one.new.w) c.in_ok-ask_one.ensures.misses) none)) rest,
)

pub returns-clause-misses : goal.returns-clause-misses
returns-clause-misses c = c.mentions.invariant.0

pub returns-clause-settled : goal.returns-clause-settled
returns-clause-settled c = λ none. all_seen (MentionSettles c.args.f.now) c.args.mentions.now c.mentions.i c.mentions-test.false (c.mentions.invariant.1 none)
