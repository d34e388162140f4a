use Rattle.dslx_core.proofs.OnTyping.OnCycles.OfItems.{instance_broken}
use Rattle.dslx_core.proofs.OnTyping.OnCycles.OfProcs.{proc_broken}
use Rattle.dslx_core.proofs.typing.typing.cycles.looping_instances_break_rules.Goals as goal

pub returns-clause-of_proc : goal.returns-clause-of_proc
returns-clause-of_proc c = proc_broken

pub returns-clause-of_function : goal.returns-clause-of_function
returns-clause-of_function c = instance_broken
