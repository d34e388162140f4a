-- Tables to which an instance is added.
use Rattle.std.proofs.Common.{◌≡◌, ℕ, Bool, true, false, List, [], map, Some, None, refl, subst}
use Rattle.dslx_tree.specs.declared.item.Module.{Module}
use Rattle.dslx_meaning.specs.Items.{meanings_of}
use Rattle.dslx_core.specs.Lowering.Functions.{CoreInstance, Instantiated, instance_in}
use Rattle.dslx_core.specs.Machines.Machine.Machines.{after_steps, machine_at, needing}
use Rattle.dslx_core.specs.Machines.Machine.Reached.{IsTable}
use Rattle.dslx_core.specs.Machines.Machine.Tasks.{InstanceEnv, InstanceMachine, OpenBody}
use Rattle.dslx_core.specs.Machines.Once.Once.{OccursOnce}
use Rattle.dslx_core.proofs.Lemmas.Machines.Machine.{reached_by_steps, reached_instance, reached_longer, reached_table}
use Rattle.dslx_core.proofs.Lemmas.Machines.Progress.Stops.{in_no_table}
use Rattle.dslx_param.specs.Run.Runs.{MachineRuns, Ends, Lacks}
use Rattle.dslx_instance.specs.Tasks.Shown.{instance_shown, instance_env_of}
use Rattle.dslx_instance.specs.declared.tasks.machine.OpenInstance as code
use Rattle.dslx_param.specs.Made.{Adds, IsMade, IsNone}
use Rattle.dslx_param.proofs.OnNeeded.Called.{adds_by}
use Rattle.dslx_param.proofs.OnNeeded.Machines.{machine_calls}
use Rattle.dslx_param.proofs.OnNeeded.More.{InstancesAreMono}
use Rattle.dslx_param.proofs.OnNeeded.Roots.{wanted_comes}

-- each instance stands once in each table of the machine, if each did where it began
abbrev pub MachineOnce : Type 0
MachineOnce = (context : InstanceEnv) → OccursOnce context.table → (limit n : ℕ) (root : OpenBody) (m : InstanceMachine) → after_steps n (machine_at context limit root) ≡ Some m → OccursOnce m.context.table

-- the machine ended: its table has the instance
ended : (m : Module) (before : List CoreInstance) (limit : ℕ) (i : Instantiated) (end : InstanceMachine) → MachineRuns (machine_at (instance_env_of m before) limit (needing i)) end true
    → IsTable m (meanings_of m) before → MachineOnce → InstancesAreMono → Adds m before limit i (Some end.context.table)
ended m before limit i end (Ends n steps done) is once mono =
    let reached = reached_by_steps (instance_env_of m before) (needing i) limit n end is steps in
    let place = reached_instance (instance_env_of m before) i end reached done in
    IsMade end.context.table (record {
      is_table = reached_table (instance_env_of m before) (needing i) end reached;
      begins = reached_longer (instance_env_of m before) (needing i) end reached;
      place = place.0;
      has = place.1;
      adds = adds_by m limit before end.context.table (λ t. instance_in i.name i.parametric_args 0 t) (λ each. once (instance_env_of m before) each limit n (needing i) end steps)
          (machine_calls m before limit (needing i) (λ t. instance_in i.name i.parametric_args 0 t) (wanted_comes m i) mono n end is steps);
    })

-- it lacks a step: no table has it
lacks : (m : Module) (before : List CoreInstance) (limit : ℕ) (i : Instantiated) (end : InstanceMachine) → MachineRuns (machine_at (instance_env_of m before) limit (needing i)) end false
    → IsTable m (meanings_of m) before → Adds m before limit i None
lacks m before limit i end (Lacks n machine steps last) is = IsNone (in_no_table (instance_env_of m before) is limit n i machine steps last)

-- the same of a machine whose root needs the instance
pub adds_made : (m : Module) (before : List CoreInstance) (limit : ℕ) (i : Instantiated) (root : OpenBody) (end : InstanceMachine) → root ≡ needing i
    → MachineRuns (machine_at (instance_env_of m before) limit root) end true → IsTable m (meanings_of m) before → MachineOnce → InstancesAreMono → Adds m before limit i (Some end.context.table)
adds_made m before limit i root end is runs table once mono =
    ended m before limit i end (subst (λ (r : OpenBody). MachineRuns (machine_at (instance_env_of m before) limit r) end true) is runs) table once mono

pub adds_none : (m : Module) (before : List CoreInstance) (limit : ℕ) (i : Instantiated) (root : OpenBody) (end : InstanceMachine) → root ≡ needing i
    → MachineRuns (machine_at (instance_env_of m before) limit root) end false → IsTable m (meanings_of m) before → Adds m before limit i None
adds_none m before limit i root end is runs table =
    lacks m before limit i end (subst (λ (r : OpenBody). MachineRuns (machine_at (instance_env_of m before) limit r) end false) is runs) table

-- nothing is open in the machine where it begins
pub runs_from : (m : Module) (before : List CoreInstance) (limit : ℕ) (root : OpenBody) (opened : List code.OpenInstance) (end : InstanceMachine) (b ended : Bool) → opened ≡ [] → b ≡ ended
    → MachineRuns (record { context = instance_env_of m before; limit = limit; root = root; opened = map instance_shown opened }) end b → MachineRuns (machine_at (instance_env_of m before) limit root) end ended
runs_from m before limit root opened end b ended none is runs =
    subst (λ (l : List code.OpenInstance). MachineRuns (record { context = instance_env_of m before; limit = limit; root = root; opened = map instance_shown l }) end ended) none
    (subst (MachineRuns (record { context = instance_env_of m before; limit = limit; root = root; opened = map instance_shown opened }) end) is runs)

-- no instances are a table
pub empty_is_table : (m : Module) → IsTable m (meanings_of m) []
empty_is_table m = ([], refl)
