-- What comes of all steps of the machine.
use Rattle.std.specs.Prelude.{◌≡◌, ℕ, Bool, true, false, None, Some}
use Rattle.dslx_core.specs.Machines.Machine.Machines.{after_steps, machine_stepped}
use Rattle.dslx_core.specs.Machines.Machine.Reached.{HasEnded}
use Rattle.dslx_core.specs.Machines.Machine.Tasks.{InstanceMachine}

-- nothing is left to do, or there is no step
pub data MachineRuns (start end : InstanceMachine) : Bool → Type 0 where
  Ends : (n : ℕ) → after_steps n start ≡ Some end → HasEnded end → MachineRuns start end true
  Lacks : (n : ℕ) (m : InstanceMachine) → after_steps n start ≡ Some m → machine_stepped m ≡ None → MachineRuns start end false
