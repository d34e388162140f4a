use Rattle.dslx_check_facts.specs.Walks.{shown}
use Rattle.dslx_check_facts.proofs.Lemmas.Walks.{misses_refl}
use Rattle.dslx_check_leaves.proofs.named.constants.value_if.Goals as goal

pub returns-else-evaluates-clause-misses : goal.returns-else-evaluates-clause-misses
returns-else-evaluates-clause-misses c = misses_refl (shown c.args.w.now)
