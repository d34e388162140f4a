-- What the workers of a round get, and what they bring back.
use Rattle.std.specs.Prelude.{◌≡◌, ◌≤◌, ◌+◌, ℕ, false, List, [], ◌∷◌, length, Option, Some, Result, Ok, slice_get, sum_by}
use Rattle.std.specs.declared.alloc.AllocError.{AllocError}
use Rattle.task_queue.specs.declared.queue.TaskQueue.{TaskQueue}
use Rattle.task_queue.specs.declared.queue.TaskPass.{TaskPass}
use Rattle.task_queue.specs.declared.round.share.Share.{Share}
use Rattle.task_queue.specs.Round.Tasks.{AllWait}
use Rattle.task_queue.specs.Round.Inner.Shares.{IsShareOf}
use Rattle.task_queue.specs.Passes.{IsTaskPass, IsSamePass, IsDealt, KnowsRun, HasRoom, AreTasks, owned, places, put_by, taken_by, sum_numbers}

module _ {N T : Type 0} (number : T → ℕ) (run : T → N) (fact waits : T → Type 0) where
  -- what the workers bring back whose passes were these
  pub record AreSharesOf (queue : TaskQueue N T) (jobs : List (TaskPass N T)) (shares : List (Result (Share N T) AllocError)) : Type 0 where
    pub count : length shares ≡ length jobs
    pub each : (k : ℕ) (share : Share N T) → slice_get shares k ≡ Some (Ok share) → (job : TaskPass N T) × (slice_get jobs k ≡ Some job) × IsShareOf number run fact waits queue job share

module _ {N T : Type 0} (number : T → ℕ) where
  -- these tasks were put on the deque of a pass
  pub record HasPut (queue : TaskQueue N T) (tasks : List T) (old new : TaskPass N T) : Type 0 where
    pub is : IsTaskPass queue new
    pub same : IsSamePass old new
    pub put : (h : ℕ → ℕ) → put_by h new ≡ put_by h old + sum_numbers number h tasks
    pub taken : (h : ℕ → ℕ) → taken_by h new ≡ taken_by h old
    pub room : (n : ℕ) → HasRoom (length tasks + n) old → HasRoom n new

module _ {N T : Type 0} where
  -- a worker's pass: it owns one deque
  pub record IsJob (queue : TaskQueue N T) (runtime : Option N) (room number : ℕ) (job : TaskPass N T) : Type 0 where
    pub is : IsTaskPass queue job
    pub dealt : IsDealt job
    pub knows : KnowsRun runtime job
    pub room_is : HasRoom room job
    pub owned_are : owned job ≡ number ∷ []

  -- the passes of so many workers, the last one first; the last of them has places for all
  pub record AreJobs (queue : TaskQueue N T) (runtime : Option N) (room workers : ℕ) (pass : TaskPass N T) (jobs : List (TaskPass N T)) : Type 0 where
    pub count : length jobs ≡ workers
    pub each : (k : ℕ) (job : TaskPass N T) → slice_get jobs k ≡ Some job → (number : ℕ) × (number + k + 1 ≡ workers) × IsJob queue runtime room number job
    pub last : (k : ℕ) (job : TaskPass N T) → slice_get jobs k ≡ Some job → k + 1 ≡ workers → workers ≤ places job
    pub put : (h : ℕ → ℕ) → sum_by (put_by h) jobs ≡ put_by h pass
    pub taken : (h : ℕ → ℕ) → sum_by (taken_by h) jobs ≡ taken_by h pass

module _ {N T : Type 0} (number_of : T → ℕ) (run : T → N) (fact waits : T → Type 0) where
  -- what workers bring back whose passes were those of so many
  pub record CanGather (queue : TaskQueue N T) (runtime : Option N) (workers : ℕ) (jobs : List (TaskPass N T)) (shares : List (Result (Share N T) AllocError)) : Type 0 where
    pub some : 1 ≤ workers
    pub count : length shares ≡ workers
    pub jobs_count : length jobs ≡ workers
    pub each : (k : ℕ) (share : Share N T) → slice_get shares k ≡ Some (Ok share)
        → (job : TaskPass N T) × (number : ℕ) × (number + k + 1 ≡ workers) × (slice_get jobs k ≡ Some job) × IsJob queue runtime 1024 number job × IsShareOf number_of run fact waits queue job share
    pub last : (k : ℕ) (job : TaskPass N T) → slice_get jobs k ≡ Some job → k + 1 ≡ workers → workers ≤ places job

  -- what the workers bring back in the end: a pass of these deques, and the parked tasks, with what the workers' passes had
  pub record IsGathered (queue : TaskQueue N T) (runtime : Option N) (owns : List ℕ) (jobs : List (TaskPass N T)) (share : Share N T) : Type 0 where
    pub is : IsTaskPass queue share.pass
    pub dealt : IsDealt share.pass
    pub knows : KnowsRun runtime share.pass
    pub owned_are : owned share.pass ≡ owns
    pub tasks_are : AreTasks run fact runtime share.parked.items
    pub waits_if : share.moved ≡ false → AllWait waits share.parked.items
    pub held : (h : ℕ → ℕ) → put_by h share.pass + sum_numbers number_of h share.parked.items + sum_by (taken_by h) jobs ≡ taken_by h share.pass + sum_by (put_by h) jobs
