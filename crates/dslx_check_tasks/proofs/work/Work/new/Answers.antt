use Rattle.std.proofs.Common.{ap}
use Rattle.dslx_check_facts.specs.Walks.{WalkShown, shown}
use Rattle.dslx_check_tasks.proofs.Lemmas.Standing.{nothing_done}
use Rattle.dslx_check_tasks.proofs.work.Work.new.Goals as goal

pub returns-clause-right : goal.returns-clause-right
returns-clause-right c = λ text settled. nothing_done c.what_is_known.ensures.nothing c.in_ok-facts.facts (shown c.new-walk.result) c.new-items.result.items c.new-instances.result.items c.in_ok-facts.ensures.nothing
    (ap (λ (v : WalkShown). v.rows) c.new-walk.ensures) c.new-items.ensures.items c.new-instances.ensures.items text settled
