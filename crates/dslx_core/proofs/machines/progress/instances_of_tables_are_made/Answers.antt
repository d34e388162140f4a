use Rattle.dslx_core.specs.Machines.Machine.Machines.{needing}
use Rattle.dslx_core.specs.Machines.Machine.Reached.{lowering_alone}
use Rattle.dslx_core.proofs.OnMachines.OnProgress.Machines.{goes_on}
use Rattle.dslx_core.proofs.OnMachines.OnProgress.Roots.{expression_runs, needed_runs}
use Rattle.dslx_core.proofs.machines.progress.instances_of_tables_are_made.Goals as goal

pub returns-clause-instance : goal.returns-clause-instance
returns-clause-instance c = λ context is table is' limit enough i p e n. goes_on context (needing i) table limit n is (needed_runs context table is' i p e) enough

pub returns-clause-expression : goal.returns-clause-expression
returns-clause-expression c = λ context is table is' limit enough e body r h n. goes_on context (lowering_alone e body) table limit n is (expression_runs context table is' e body r h) enough
