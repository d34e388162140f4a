use Rattle.dslx_check_facts.specs.Walks.{shown}
use Rattle.dslx_check_tasks.proofs.Lemmas.Standing.{more_missed, no_more}
use Rattle.dslx_check_tasks.proofs.items.miss_all.Goals as goal

pub items-init : goal.items-init
items-init c = no_more (shown c.args.w.now)

pub items-preserved : goal.items-preserved
items-preserved c = more_missed (shown c.args.w.now) (shown c.items.w) (shown c.is_known.new.w) c.items.invariant c.in_ok-is_known.ensures.misses
