use Rattle.std.proofs.lemmas.Result.{on_ok_weaker}
use Rattle.dslx_check_facts.specs.Walks.{shown}
use Rattle.dslx_check_facts.proofs.Lemmas.Walks.{misses_noted}
use Rattle.dslx_check_facts.proofs.settled.ask_item.Goals as goal

pub returns-clause-misses : goal.returns-clause-misses
returns-clause-misses c = on_ok_weaker c.need.result (λ h. misses_noted (shown c.args.w.now) (shown c.need.new.self) _ h) c.need.ensures
