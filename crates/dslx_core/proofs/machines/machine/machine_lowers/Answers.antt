use Rattle.dslx_core.specs.Machines.Machine.Reached.{lowering_alone}
use Rattle.dslx_core.proofs.Lemmas.Machines.Machine.{reached_by_steps, reached_expression}
use Rattle.dslx_core.proofs.machines.machine.machine_lowers.Goals as goal

pub returns : goal.returns
returns c = λ context is limit n e body m h ended. reached_expression context e body m (reached_by_steps context (lowering_alone e body) limit n m is h) ended
