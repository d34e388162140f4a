use Rattle.dslx_check_facts.specs.Walks.{shown}
use Rattle.dslx_check_tasks.proofs.Lemmas.Standing.{no_more}
use Rattle.dslx_check_tasks.proofs.instances.sums_if.Goals as goal

pub returns-in_default : goal.returns-in_default
returns-in_default c = record { misses = no_more (shown c.args.w.now); sums = tt }
