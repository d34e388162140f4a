use Rattle.std.proofs.Common.{sym}
use mathlib.Core.Bool.{true≢false}
use Rattle.dslx_check_facts.specs.Walks.{shown}
use Rattle.dslx_check_tasks.proofs.OnDeclarations.OnForeign.{list_there}
use Rattle.dslx_check_tasks.proofs.declarations.prefixes.is_longer.Goals as goal

pub returns-in-None : goal.returns-in-None
returns-in-None c = λ is. absurd (true≢false (sym is))

pub returns-in-Some : goal.returns-in-Some
returns-in-Some c = λ is. list_there (shown c.args.w.now).prefixes c.args.prefix c.in-Some.ensures.1
