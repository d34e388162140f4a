use Rattle.std.proofs.Common.{◌≡◌, ◌∙◌, sym}
use Rattle.dslx_check_facts.specs.Walks.{shown}
use Rattle.dslx_check_facts.proofs.Lemmas.Walks.{misses_noted, misses_refl}
use Rattle.dslx_check_facts.proofs.lookups.done.Goals as goal

pub returns-in-Some-clause-misses : goal.returns-in-Some-clause-misses
returns-in-Some-clause-misses c = misses_refl (shown c.args.w.now)

pub returns-in-Some-clause-sums : goal.returns-in-Some-clause-sums
returns-in-Some-clause-sums c = λ known later agrees missing. agrees.done c.args.instance c.in-Some.sums (sym c.done_now.ensures ∙ c.in-Some.is)

pub returns-in_ok-need-in-None-clause-misses : goal.returns-in_ok-need-in-None-clause-misses
returns-in_ok-need-in-None-clause-misses c = misses_noted (shown c.args.w.now) (shown c.need.new.self) _ c.in_ok-need-in-None.ensures
