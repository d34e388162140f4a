-- A step of the machine in the code, and its ends.
use Rattle.std.proofs.Common.{◌≡◌, Bool, true, false, MatchBool, List, [], ◌∷◌, Option, Some, None, drop, length, map, refl, sym, ap, ◌∙◌}
use Rattle.std.specs.Prelude.{slice_get}
use Rattle.dslx_meaning.specs.Lists.{and_then}
use Rattle.dslx_core.specs.CoreValues.{Bindings, core_value}
use Rattle.dslx_core.specs.Designs.{functions_from, no_function}
use Rattle.dslx_core.specs.declared.design.Function.{Function}
use Rattle.dslx_core.specs.declared.expr.CoreExpr.{CoreExpr}
use Rattle.dslx_interp.specs.declared.eval.machine.Machine.{Machine}
use Rattle.dslx_interp.specs.declared.eval.task.Task.{Task}
use Rattle.dslx_interp.specs.Eval.Inner.Machine.{MachineState, shown, stepped}
use Rattle.dslx_interp.specs.Eval.Inner.Tasks.{ValueDen, plain_task}
use Rattle.dslx_interp.proofs.OnEval.Calls.{all_calls}
use Rattle.dslx_interp.proofs.OnEval.Keeps.{answer, answer_of, keeps}

popped : {A : Type 0} (xs : List A) (x : A) → slice_get xs 0 ≡ Some x → xs ≡ x ∷ drop 1 xs
popped [] x h = absurd (cc)
popped (y ∷ ys) x h =
    let e : y ≡ x = cc in
    ap (λ z. z ∷ ys) e

emptied : {A : Type 0} (xs : List A) → slice_get xs 0 ≡ None → xs ≡ []
emptied [] h = refl
emptied (y ∷ ys) h = absurd (cc)

-- an expression to be found, where nothing else is to be done
pub begins : (fs : List Function) (e : CoreExpr) (bound : Bindings) → answer fs (ValueDen e ∷ []) [] bound (length fs) ≡ and_then (core_value e (functions_from 0 fs no_function) bound) (λ v. Some (v, bound))
begins fs e bound = ap (λ calls. and_then (core_value e calls bound) (λ v. Some (v, bound))) (all_calls fs)

-- a task is taken and done, or can't be
pub taken : (m mid : Machine) (task : Task) (o : Option MachineState) → slice_get m.tasks 0 ≡ Some task → mid ≡ record m { tasks = drop 1 m.tasks } → stepped (plain_task task) (shown mid) ≡ o
    → answer_of (shown m) ≡ and_then o answer_of
taken m mid task o top rest does =
    ap (λ (ts : List Task). answer m.functions.now (map plain_task ts) m.values m.bound.items m.before) (popped m.tasks task top)
    ∙ (keeps (plain_task task) (shown (record m { tasks = drop 1 m.tasks }))
    ∙ ap (λ r. and_then r answer_of) (ap (λ n. stepped (plain_task task) (shown n)) (sym rest) ∙ does))

-- nothing is left to be done
pub ended : (m : Machine) → slice_get m.tasks 0 ≡ None → answer_of (shown m) ≡ and_then (slice_get m.values 0) (λ v. Some (v, m.bound.items))
ended m none = ap (λ (ts : List Task). answer m.functions.now (map plain_task ts) m.values m.bound.items m.before) (emptied m.tasks none)

-- a task that can't be done
pub stuck : (m mid new : Machine) (task : Task) (b : Bool) → slice_get m.tasks 0 ≡ Some task → mid ≡ record m { tasks = drop 1 m.tasks }
    → MatchBool b (stepped (plain_task task) (shown mid) ≡ Some (shown new)) (stepped (plain_task task) (shown mid) ≡ None) → b ≡ false → answer_of (shown m) ≡ None
stuck m mid new task true top rest does e = absurd (cc)
stuck m mid new task false top rest does e = taken m mid task None top rest does

-- a task that is done
pub done : (m mid new : Machine) (task : Task) (b : Bool) → slice_get m.tasks 0 ≡ Some task → mid ≡ record m { tasks = drop 1 m.tasks }
    → MatchBool b (stepped (plain_task task) (shown mid) ≡ Some (shown new)) (stepped (plain_task task) (shown mid) ≡ None) → b ≡ true → answer_of (shown m) ≡ answer_of (shown new)
done m mid new task true top rest does e = taken m mid task (Some (shown new)) top rest does
done m mid new task false top rest does e = absurd (cc)
