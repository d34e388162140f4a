use Rattle.dslx_check_facts.specs.Walks.{shown}
use Rattle.dslx_check_facts.proofs.Lemmas.Walks.{misses_noted, misses_refl}
use Rattle.dslx_check_facts.proofs.lookups.is_known.Goals as goal

pub returns-then-is_judged_now-clause-misses : goal.returns-then-is_judged_now-clause-misses
returns-then-is_judged_now-clause-misses c = misses_refl (shown c.args.w.now)

pub returns-in_ok-need-clause-misses : goal.returns-in_ok-need-clause-misses
returns-in_ok-need-clause-misses c = misses_noted (shown c.args.w.now) (shown c.need.new.self) _ c.in_ok-need.ensures

pub returns-else-not-is_looping-clause-misses : goal.returns-else-not-is_looping-clause-misses
returns-else-not-is_looping-clause-misses c = misses_refl (shown c.args.w.now)
