-- A step of the machine in the code, and its end.
use Rattle.std.proofs.Common.{◌≡◌, List, [], ◌∷◌, map, sym, ap, ◌∙◌}
use Rattle.dslx_meaning.specs.Names.ConstMachine.Steps.{stepped, behind}
use Rattle.dslx_meaning.proofs.Lemmas.Names.ConstMachine.{comes_to, comes_to_stepped}
use Rattle.dslx_const_tasks.specs.Plain.{shown, plain_task, plain_found}
use Rattle.dslx_const_tasks.specs.declared.machine.Machine.{Machine}
use Rattle.dslx_const_tasks.specs.declared.task.Task.{Task}

-- a task is taken off and done
pub taken : (m new : Machine) (task : Task) (rest : List Task) → m.tasks ≡ task ∷ rest → shown new ≡ stepped (plain_task task) (shown (record m { tasks = rest }))
    → comes_to (shown new) ≡ comes_to (shown m)
taken m new task rest first does =
    ap comes_to does
    ∙ (sym (comes_to_stepped (plain_task task) (map plain_task rest) (shown m))
    ∙ sym (ap (λ (ts : List Task). comes_to (behind (map plain_task ts) (shown m))) first))

-- nothing is left to be done
pub ended : (m : Machine) → m.tasks ≡ [] → comes_to (shown m) ≡ plain_found m.found
ended m none = ap (λ (ts : List Task). comes_to (behind (map plain_task ts) (shown m))) none
