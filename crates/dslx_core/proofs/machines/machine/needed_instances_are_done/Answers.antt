use Rattle.dslx_core.specs.Machines.Machine.Machines.{needing}
use Rattle.dslx_core.proofs.Lemmas.Machines.Machine.{reached_by_steps, reached_instance}
use Rattle.dslx_core.proofs.machines.machine.needed_instances_are_done.Goals as goal

pub returns : goal.returns
returns c = λ context is limit n i m e ended. reached_instance context i m (reached_by_steps context (needing i) limit n m is e) ended
