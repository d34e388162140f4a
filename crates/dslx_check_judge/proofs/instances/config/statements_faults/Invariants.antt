use Rattle.std.proofs.Common.{take}
use Rattle.dslx_check_facts.specs.Walks.{shown}
use Rattle.dslx_check_judge.specs.Instances.Inner.Config.{StepsStatements}
use Rattle.dslx_check_judge.proofs.instances.config.statements_faults.Given as goal

abbrev pub invariant-statements : goal.invariant-statements
invariant-statements l = StepsStatements l.f l.fn.s l.s (shown l.fn.w) (shown l.w) l.fn.made l.made l.faults (take l.statement-index l.statements)
