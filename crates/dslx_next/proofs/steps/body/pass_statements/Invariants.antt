use Rattle.std.proofs.Common.{drop}
use Rattle.dslx_next.proofs.OnSteps.Passed.{IsPassedTo}
use Rattle.dslx_next.proofs.steps.body.pass_statements.Given as goal

-- those that are left complete the whole
abbrev pub invariant-statements : goal.invariant-statements
invariant-statements l = IsPassedTo l.known l.fn.work l.statements l.initial.steps.items (drop l.statement-index l.statements) l.steps.items l.work
