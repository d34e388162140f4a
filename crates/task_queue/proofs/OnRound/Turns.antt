-- What a worker has, behind each step.
use Rattle.std.proofs.Common.{◌≡◌, ℕ, ◌+◌, ◌<◌, List, [], ◌∷◌, ◌++◌, length, Option, Some, refl, sym, ap, ◌∙◌, subst, arith, false, inl, inr}
use Rattle.std.specs.Prelude.{slice_get, ◌⊎◌}
use Rattle.std.proofs.lemmas.List.Sums.{sum_by_push}
use Rattle.task_queue.specs.declared.queue.TaskQueue.{TaskQueue}
use Rattle.task_queue.specs.declared.queue.TaskPass.{TaskPass}
use Rattle.task_queue.specs.declared.round.share.Share.{Share}
use Rattle.task_queue.specs.Passes.{IsTaskPass, IsSamePass, KnowsRun, AreTasks, put_by, taken_by, sum_numbers}
use Rattle.task_queue.specs.Round.Tasks.{AllWait}
use Rattle.task_queue.specs.Round.Inner.Shares.{IsStill, IsShare, IsBalanced, IsShareOf}
use Rattle.task_queue.proofs.Lists.{snoc_cases, last_there, in_prefix}

module _ {N T : Type 0} where
  pub same_pass : (pass : TaskPass N T) → IsSamePass pass pass
  same_pass pass = record { number = refl; owned_are = refl; places_are = refl; run = λ run h. h; dealt = λ h. h; room = λ d n other h. h }

  pub same_then : (a b c : TaskPass N T) → IsSamePass a b → IsSamePass b c → IsSamePass a c
  same_then a b c p q = record {
    number = q.number ∙ p.number;
    owned_are = q.owned_are ∙ p.owned_are;
    places_are = q.places_are ∙ p.places_are;
    run = λ run h. q.run run (p.run run h);
    dealt = λ h. q.dealt (p.dealt h);
    room = λ d n other h. q.room d n (λ e. other (e ∙ p.number)) (p.room d n other h);
  }

-- what holds of the parked tasks, unless one has moved
module _ {T : Type 0} (waits : T → Type 0) where
  pub still_none : (moved : Type 0) (tasks : List T) → tasks ≡ [] → moved → AllWait waits tasks
  still_none moved tasks empty none k task e = absurd (nothing k task (ap (λ (xs : List T). slice_get xs k) (sym empty) ∙ e))
    where
      nothing : (k : ℕ) (x : T) → slice_get [] k ≡ Some x → ⊥
      nothing k x e = cc

  -- one more waits
  pub still_more : (tasks more : List T) (task : T) → AllWait waits tasks → more ≡ tasks ++ task ∷ [] → waits task → AllWait waits more
  still_more tasks more task all parked w k x e = one (snoc_cases tasks task k x (ap (λ (xs : List T). slice_get xs k) (sym parked) ∙ e))
    where
      one : ((k < length tasks) × (slice_get tasks k ≡ Some x)) ⊎ ((k ≡ length tasks) × (task ≡ x)) → waits x
      one (inl p) = all k x p.1
      one (inr p) = subst waits p.1 w

module _ {N T : Type 0} (number : T → ℕ) (run : T → N) (fact : T → Type 0) where
  pub tasks_none : (runtime : Option N) (tasks : List T) → tasks ≡ [] → AreTasks run fact runtime tasks
  tasks_none runtime tasks empty k task e = absurd (nothing k task (ap (λ (xs : List T). slice_get xs k) (sym empty) ∙ e))
    where
      nothing : (k : ℕ) (x : T) → slice_get [] k ≡ Some x → ⊥
      nothing k x e = cc

  pub tasks_more : (runtime : Option N) (tasks more : List T) (task : T) → AreTasks run fact runtime tasks → more ≡ tasks ++ task ∷ [] → runtime ≡ Some (run task) → fact task → AreTasks run fact runtime more
  tasks_more runtime tasks more task all parked is holds k x e = one (snoc_cases tasks task k x (ap (λ (xs : List T). slice_get xs k) (sym parked) ∙ e))
    where
      one : ((k < length tasks) × (slice_get tasks k ≡ Some x)) ⊎ ((k ≡ length tasks) × (task ≡ x)) → (runtime ≡ Some (run x)) × fact x
      one (inl p) = all k x p.1
      one (inr p) = subst (λ (y : T). (runtime ≡ Some (run y)) × fact y) p.1 (is, holds)

  -- the last of them, and those before it
  pub task_last : (runtime : Option N) (tasks rest : List T) (task : T) → AreTasks run fact runtime tasks → tasks ≡ rest ++ task ∷ [] → (runtime ≡ Some (run task)) × fact task
  task_last runtime tasks rest task all split = all (length rest) task (ap (λ (xs : List T). slice_get xs (length rest)) split ∙ last_there rest task)

  pub tasks_less : (runtime : Option N) (tasks rest : List T) (task : T) → AreTasks run fact runtime tasks → tasks ≡ rest ++ task ∷ [] → AreTasks run fact runtime rest
  tasks_less runtime tasks rest task all split k x e = all k x (ap (λ (xs : List T). slice_get xs k) split ∙ in_prefix rest (task ∷ []) k x e)

  pub numbers_more : (h : ℕ → ℕ) (tasks rest : List T) (task : T) → tasks ≡ rest ++ task ∷ [] → sum_numbers number h tasks ≡ sum_numbers number h rest + h (number task)
  numbers_more h tasks rest task split = ap (λ (xs : List T). sum_numbers number h xs) split ∙ sum_by_push (λ (x : T). h (number x)) rest task

  -- no step
  pub goes_none : (share : Share N T) → IsBalanced number share share
  goes_none share = record { same = same_pass share.pass; held = λ h. omega arith }

  module _ (queue : TaskQueue N T) where
    pub goes_then : (a b c : Share N T) → IsBalanced number a b → IsBalanced number b c → IsBalanced number a c
    goes_then a b c p q = record { same = same_then a.pass b.pass c.pass p.same q.same; held = λ h. omega (arith, p.held h, q.held h) }

    pub share_goes : (waits : T → Type 0) (pass : TaskPass N T) (a b : Share N T) → IsShareOf number run fact waits queue pass a → IsShare number run fact queue b → IsBalanced number a b → (IsStill waits a → IsStill waits b)
        → IsShareOf number run fact waits queue pass b
    share_goes waits pass a b of is goes still = record {
      is = is;
      same = same_then pass a.pass b.pass of.same goes.same;
      held = λ h. omega (arith, of.held h, goes.held h);
      still = still of.still;
    }

    module _ (share : Share N T) (is : IsShare number run fact queue share) where
      -- only the pass took a step, in which nothing was put or taken
      pub rests : (u : Share N T) → IsTaskPass queue u.pass → IsSamePass share.pass u.pass → u.parked.items ≡ share.parked.items
          → ((h : ℕ → ℕ) → put_by h u.pass ≡ put_by h share.pass) → ((h : ℕ → ℕ) → taken_by h u.pass ≡ taken_by h share.pass) → IsShare number run fact queue u × IsBalanced number share u
      rests u pass same parked put taken = (
        record { pass_is = pass; runtime = is.runtime; knows = same.run is.runtime is.knows; each = λ k x e. is.each k x (ap (λ (xs : List T). slice_get xs k) (sym parked) ∙ e) },
        record { same = same; held = λ h. omega (arith, put h, taken h, ap (λ (xs : List T). sum_numbers number h xs) parked) },
      )

      -- a task was taken, has made events, and was put
      module _ (mid : TaskPass N T) (n : ℕ) (took : IsSamePass share.pass mid) (put_took : (h : ℕ → ℕ) → put_by h mid ≡ put_by h share.pass) (taken_took : (h : ℕ → ℕ) → taken_by h mid ≡ taken_by h share.pass + h n) where
        pub puts_again : (m : ℕ) (u : Share N T) → m ≡ n → IsTaskPass queue u.pass → IsSamePass mid u.pass → u.parked.items ≡ share.parked.items
            → ((h : ℕ → ℕ) → (put_by h u.pass ≡ put_by h mid + h m) × (taken_by h u.pass ≡ taken_by h mid)) → IsShare number run fact queue u × IsBalanced number share u
        puts_again m u same_number pass same parked put =
            let all = same_then share.pass mid u.pass took same in (
              record { pass_is = pass; runtime = is.runtime; knows = all.run is.runtime is.knows; each = λ k x e. is.each k x (ap (λ (xs : List T). slice_get xs k) (sym parked) ∙ e) },
              record { same = all; held = λ h. omega (arith, put_took h, taken_took h, (put h).0, (put h).1, ap h same_number, ap (λ (xs : List T). sum_numbers number h xs) parked) },
            )

        -- or it was parked
        pub parks : (task : T) (u : Share N T) → number task ≡ n → is.runtime ≡ Some (run task) → fact task → IsTaskPass queue u.pass → u.pass ≡ mid → u.parked.items ≡ share.parked.items ++ task ∷ []
            → IsShare number run fact queue u × IsBalanced number share u
        parks task u same_number runtime holds pass pass_is parked =
            let same = subst (IsSamePass share.pass) (sym pass_is) took in (
              record { pass_is = pass; runtime = is.runtime; knows = same.run is.runtime is.knows; each = tasks_more is.runtime share.parked.items u.parked.items task is.each parked runtime holds },
              record {
                same = same;
                held = λ h.
                    omega (arith, put_took h, taken_took h, ap (put_by h) pass_is, ap (taken_by h) pass_is, numbers_more h u.parked.items share.parked.items task parked, ap h same_number);
              },
            )

      -- a parked task was put
      pub unparks : (rest : List T) (task : T) (u : Share N T) → share.parked.items ≡ rest ++ task ∷ [] → IsTaskPass queue u.pass → IsSamePass share.pass u.pass → u.parked.items ≡ rest
          → ((h : ℕ → ℕ) → (put_by h u.pass ≡ put_by h share.pass + h (number task)) × (taken_by h u.pass ≡ taken_by h share.pass)) → IsShare number run fact queue u × IsBalanced number share u
      unparks rest task u split pass same parked put = (
        record {
          pass_is = pass;
          runtime = is.runtime;
          knows = same.run is.runtime is.knows;
          each = λ k x e. tasks_less is.runtime share.parked.items rest task is.each split k x (ap (λ (xs : List T). slice_get xs k) (sym parked) ∙ e);
        },
        record {
          same = same;
          held = λ h.
              omega (arith, (put h).0, (put h).1, numbers_more h share.parked.items rest task split, ap (λ (xs : List T). sum_numbers number h xs) parked);
        },
      )

      -- the pass knows of which run this task is
      pub knows_task : (u : TaskPass N T) (task : T) → IsSamePass share.pass u → is.runtime ≡ Some (run task) → KnowsRun (Some (run task)) u
      knows_task u task same runtime = subst (λ r. KnowsRun r u) runtime (same.run is.runtime is.knows)

    -- before the first turn
    pub fresh : (waits : T → Type 0) (runtime : Option N) (share : Share N T) → IsTaskPass queue share.pass → KnowsRun runtime share.pass → share.parked.items ≡ [] → IsShareOf number run fact waits queue share.pass share
    fresh waits runtime share pass knows empty = record {
      is = record { pass_is = pass; runtime = runtime; knows = knows; each = tasks_none runtime share.parked.items empty };
      same = same_pass share.pass;
      held = λ h. omega (arith, ap (λ (xs : List T). sum_numbers number h xs) empty);
      still = λ none. still_none waits (share.moved ≡ false) share.parked.items empty none;
    }
