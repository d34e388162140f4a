use Rattle.dslx_core.proofs.Lemmas.Machines.Machine.{reached_by_steps, reached_longer, reached_table}
use Rattle.dslx_core.proofs.machines.machine.tables_are_of_instances.Goals as goal

pub returns : goal.returns
returns c = λ context is limit n root m e.
    let reached = reached_by_steps context root limit n m is e in
    (reached_table context root m reached, reached_longer context root m reached)
