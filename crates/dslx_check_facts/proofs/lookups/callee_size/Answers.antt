use Rattle.std.proofs.Common.{◌≡◌, ◌∙◌, sym}
use Rattle.dslx_check_facts.specs.Walks.{shown}
use Rattle.dslx_check_facts.proofs.Lemmas.Walks.{misses_noted, misses_refl, noted_is_missing}
use Rattle.dslx_check_facts.proofs.lookups.callee_size.Goals as goal

pub returns-in-Some-clause-misses : goal.returns-in-Some-clause-misses
returns-in-Some-clause-misses c = misses_refl (shown c.args.w.now)

pub returns-in-Some-clause-size : goal.returns-in-Some-clause-size
returns-in-Some-clause-size c = λ known later agrees missing. (agrees.done c.args.instance c.in-Some.sums (sym c.done_now.ensures ∙ c.in-Some.is)).size

pub returns-in_ok-need-in-None-clause-misses : goal.returns-in_ok-need-in-None-clause-misses
returns-in_ok-need-in-None-clause-misses c = misses_noted (shown c.args.w.now) (shown c.need.new.self) _ c.in_ok-need-in-None.ensures

pub returns-in_ok-need-in-None-clause-size : goal.returns-in_ok-need-in-None-clause-size
returns-in_ok-need-in-None-clause-size c = λ known later agrees missing.
    noted_is_missing (shown c.args.w.now) (shown c.need.new.self) _ c.in_ok-need-in-None.ensures missing
