-- The tasks of a run.
use Rattle.std.proofs.Common.{◌≡◌, ℕ, zero, suc, ◌+◌, ◌<◌, ◌^◌, List, [], ◌∷◌, ◌++◌, length, refl, sym, ap, ◌∙◌, subst, arith, Some, inl, inr}
use Rattle.std.specs.Prelude.{Option, slice_get, sum_by, ◌⊎◌}
use Rattle.std.proofs.lemmas.List.Sums.{sum_by-cons, sum_by_push}
use Rattle.chan_queue.specs.declared.queue.ChanQueue.{ChanQueue}
use Rattle.net_core.specs.Cuts.{Run}
use Rattle.chan_queue.specs.Streams.Moves.{IsTyped}
use Rattle.task_queue.specs.Tasks.{sum_below}
use Rattle.task_queue.specs.Passes.{sum_numbers}
use Rattle.proc_task.specs.declared.task.Task.{Task}
use Rattle.proc_task.specs.Moving.{IsTask}
use Rattle.proc_task.specs.Outcome.Tasks.{AreTasksOf}
use Rattle.proc_runner.specs.Inner.Started.{AreRunTasks}

ones_below : (n : ℕ) → sum_below (λ _. 1) n ≡ n
ones_below zero = refl
ones_below (suc n) = omega (arith, ones_below n)

count_ones : {A : Type 0} (xs : List A) → sum_by (λ _. 1) xs ≡ length xs
count_ones [] = refl
count_ones (x ∷ xs) = omega (arith, sum_by-cons (λ _. 1) x xs, count_ones xs)

at_end : {A : Type 0} (xs : List A) (x : A) (k : ℕ) (y : A) → slice_get (xs ++ x ∷ []) k ≡ Some y → (slice_get xs k ≡ Some y) ⊎ (x ≡ y)
at_end [] x zero y e = let h : x ≡ y = cc in inr h
at_end [] x (suc k) y e = cc
at_end (z ∷ zs) x zero y e = inl e
at_end (z ∷ zs) x (suc k) y e = at_end zs x k y e

module _ {S H : Type 0} (run : H → Run) (lines : H → List (Option (ChanQueue S))) (runtime : H) where
  -- no task of no proc
  pub no_tasks : (tasks : List (Task S H)) → tasks ≡ [] → AreRunTasks run lines runtime 0 tasks
  no_tasks tasks empty = record {
    each = λ k task e. absurd (nothing k task (ap (λ (xs : List (Task S H)). slice_get xs k) (sym empty) ∙ e));
    all = λ h. ap (λ (xs : List (Task S H)). sum_numbers (λ (task : Task S H). task.number) h xs) empty;
  }
    where
      nothing : (k : ℕ) (task : Task S H) → slice_get [] k ≡ Some task → ⊥
      nothing k task e = cc

  -- and one more
  pub more_tasks : (p : ℕ) (tasks more : List (Task S H)) (task : Task S H) → AreRunTasks run lines runtime p tasks → more ≡ tasks ++ task ∷ [] → task.number ≡ p → task.runtime ≡ runtime
      → IsTask (run runtime) (lines runtime) task → AreRunTasks run lines runtime (p + 1) more
  more_tasks p tasks more task are more_is number runtime_is is = record {
    each = λ k x e. one k x (at_end tasks task k x (ap (λ (xs : List (Task S H)). slice_get xs k) (sym more_is) ∙ e));
    all = λ h.
        let next : p + 1 ≡ suc p = omega arith in
        omega (arith, are.all h, ap (λ (xs : List (Task S H)). sum_numbers (λ (x : Task S H). x.number) h xs) more_is, sum_by_push (λ (x : Task S H). h x.number) tasks task, ap h number, ap (sum_below h) next);
  }
    where
      one : (k : ℕ) (x : Task S H) → (slice_get tasks k ≡ Some x) ⊎ (task ≡ x) → (◌≡◌ {A = Option H} (Some runtime) (Some x.runtime)) × IsTask (run x.runtime) (lines x.runtime) x
      one k x (inl e) = are.each k x e
      one k x (inr e) =
          subst (λ (y : Task S H). (◌≡◌ {A = Option H} (Some runtime) (Some y.runtime)) × IsTask (run y.runtime) (lines y.runtime) y) e
          (ap Some (sym runtime_is), subst (λ r. IsTask (run r) (lines r) task) (sym runtime_is) is)

  pub tasks_few : (count : ℕ) (tasks : List (Task S H)) → AreRunTasks run lines runtime count tasks → count < 2 ^ 32 → length tasks < 2 ^ 32
  tasks_few count tasks are few = omega (arith, few, are.all (λ _. 1), ones_below count, count_ones tasks)

  pub are_tasks : (over : List (Task S H)) → IsTyped (run runtime) → AreRunTasks run lines runtime (length (run runtime).procs) over → (tasks : List (Task S H)) → tasks ≡ over → AreTasksOf run lines runtime tasks
  are_tasks over typed is tasks are =
      subst (λ (xs : List (Task S H)). AreTasksOf run lines runtime xs) (sym are) (record {
        typed = typed;
        each = λ k task e. own task (is.each k task e);
        all = is.all;
      })
    where
      own : (task : Task S H) → (◌≡◌ {A = Option H} (Some runtime) (Some task.runtime)) × IsTask (run task.runtime) (lines task.runtime) task → (task.runtime ≡ runtime) × IsTask (run task.runtime) (lines task.runtime) task
      own task has =
          let both = has.0 in
          let same : task.runtime ≡ runtime = cc in (same, has.1)

  pub as_many : (tasks : List (Task S H)) (n m : ℕ) → n ≡ m → AreRunTasks run lines runtime n tasks → AreRunTasks run lines runtime m tasks
  as_many tasks n m e is = subst (λ (k : ℕ). AreRunTasks run lines runtime k tasks) e is
