-- A step of the machine in the code, and its end.
use denote.Ref.{Bor}
use Rattle.std.proofs.Common.{◌≡◌, ℕ, List, [], ◌∷◌, map, sym, ap, ◌∙◌}
use Rattle.std.proofs.lemmas.List.{append-nil}
use Rattle.dslx_scope.specs.FreeNames.Found.{all_found}
use Rattle.dslx_scope.specs.FreeNames.Plain.{plain_task, shown}
use Rattle.dslx_scope.specs.FreeNames.Steps.{visited, with_todo}
use Rattle.dslx_scope.specs.declared.free_names.machine.Machine.{Machine}
use Rattle.dslx_scope.specs.declared.free_names.task.Task.{Task}
use Rattle.dslx_scope.proofs.OnFreeNames.Keeps.{keeps}

abbrev plain : List (Bor (List ℕ)) → List (List ℕ)
plain names = map (λ (name : Bor (List ℕ)). name.now) names

-- a task is taken off and done
pub taken : (m new : Machine) (task : Task) (rest : List Task) → m.tasks ≡ task ∷ rest → shown new ≡ visited (plain_task task) (shown (record m { tasks = rest })) → all_found (shown new) ≡ all_found (shown m)
taken m new task rest first does =
    ap all_found does
    ∙ (sym (keeps (plain_task task) (shown (record m { tasks = rest })))
    ∙ sym (ap (λ (ts : List Task). all_found (with_todo (map plain_task ts) (shown m))) first))

-- nothing is left to be done
pub ended : (m : Machine) → m.tasks ≡ [] → all_found (shown m) ≡ plain m.found.items
ended m none = ap (λ (ts : List Task). all_found (with_todo (map plain_task ts) (shown m))) none ∙ append-nil (plain m.found.items)
