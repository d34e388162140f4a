use Rattle.dslx_check_facts.specs.Walks.{shown}
use Rattle.dslx_check_facts.proofs.Lemmas.Walks.{misses_refl}
use Rattle.dslx_check_facts.proofs.settled.ask_one.Goals as goal

pub returns-then-is_one_settled-clause-misses : goal.returns-then-is_one_settled-clause-misses
returns-then-is_one_settled-clause-misses c = misses_refl (shown c.args.w.now)
