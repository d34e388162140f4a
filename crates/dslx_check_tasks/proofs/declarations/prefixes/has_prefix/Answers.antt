use Rattle.dslx_check_tasks.proofs.OnDeclarations.OnForeign.{first_prefix}
use Rattle.dslx_check_facts.specs.Walks.{shown}
use Rattle.dslx_check_tasks.proofs.declarations.prefixes.has_prefix.Goals as goal

pub returns-then-prefix-none : goal.returns-then-prefix-none
returns-then-prefix-none c = λ is. first_prefix (shown c.args.w.now).prefixes c.args.prefix c.none-none.result c.if-prefix-none.true c.none-none.ensures
