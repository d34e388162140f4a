use Rattle.dslx_core.proofs.Lemmas.Machines.Machine.Steady.{shaped_anywhere, type_anywhere}
use Rattle.dslx_core.proofs.machines.machine.types_and_patterns_know_no_calls.Goals as goal

pub returns-clause-ty : goal.returns-clause-ty
returns-clause-ty c = type_anywhere

pub returns-clause-pattern : goal.returns-clause-pattern
returns-clause-pattern c = shaped_anywhere
