-- only more is missing
use Rattle.dslx_check_facts.specs.Walks.{OnlyMisses, shown}
use Rattle.dslx_check_tasks.proofs.items.miss_all.Given as goal

abbrev pub invariant-items : goal.invariant-items
invariant-items l = OnlyMisses (shown l.fn.w) (shown l.w)
