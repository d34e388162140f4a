use Rattle.dslx_check_facts.specs.Walks.{shown}
use Rattle.dslx_check_tasks.proofs.Lemmas.Standing.{no_more}
use Rattle.dslx_check_tasks.proofs.items.miss_mentioned.Goals as goal

pub returns-in-None : goal.returns-in-None
returns-in-None c = no_more (shown c.args.w.now)
