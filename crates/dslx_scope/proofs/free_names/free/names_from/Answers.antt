use Rattle.std.proofs.Common.{sym, ◌∙◌}
use Rattle.dslx_scope.proofs.OnFreeNames.Taken.{taken, ended}
use Rattle.dslx_scope.proofs.free_names.free.names_from.Goals as goal

pub returns-in-None : goal.returns-in-None
returns-in-None c = sym (ended c.steps.machine c.in-None.ensures.0) ∙ c.steps.invariant

pub steps-preserved : goal.steps-preserved
steps-preserved c = taken c.steps.machine c.step.new.machine c.in-Some.task c.take_off.new.self c.in-Some.ensures c.in_ok-step-in-Some.ensures ∙ c.steps.invariant
