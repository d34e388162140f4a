use Rattle.std.proofs.Common.{◌≡◌, ◌∙◌, sym, ap}
use Rattle.std.specs.Option.{option_copied}
use Rattle.dslx_check_facts.specs.Walks.{shown}
use Rattle.dslx_check_facts.proofs.Lemmas.Walks.{misses_noted, misses_refl}
use Rattle.dslx_check_facts.proofs.foreign.seen_at.Goals as goal

pub returns-in-Some-clause-misses : goal.returns-in-Some-clause-misses
returns-in-Some-clause-misses c = misses_refl (shown c.args.w.now)

pub returns-in-Some-clause-there : goal.returns-in-Some-clause-there
returns-in-Some-clause-there c = λ missing. sym c.foreign_there.ensures ∙ ap option_copied c.in-Some.is

pub returns-in_ok-need-in-None-clause-misses : goal.returns-in_ok-need-in-None-clause-misses
returns-in_ok-need-in-None-clause-misses c = misses_noted (shown c.args.w.now) (shown c.need.new.self) _ c.in_ok-need-in-None.ensures
