-- What a worker has in a round: its pass, and the tasks that are parked.
use Rattle.std.specs.Prelude.{◌≡◌, ◌≤◌, ◌+◌, ◌++◌, ◌||◌, ℕ, false, length, Option}
use Rattle.task_queue.specs.declared.queue.TaskQueue.{TaskQueue}
use Rattle.task_queue.specs.declared.queue.TaskPass.{TaskPass}
use Rattle.task_queue.specs.declared.round.share.Share.{Share}
use Rattle.task_queue.specs.Passes.{IsTaskPass, IsSamePass, IsDealt, KnowsRun, HasRoom, AreTasks, owned, places, put_by, taken_by, sum_numbers}
use Rattle.task_queue.specs.Round.Tasks.{AllWait}

module _ {N T : Type 0} where
  -- a pass with which a worker may begin its turns
  pub record MayWork (queue : TaskQueue N T) (pass : TaskPass N T) : Type 0 where
    pub pass_is : IsTaskPass queue pass
    pub runtime : Option N
    pub knows : KnowsRun runtime pass
    pub room : HasRoom 1024 pass

  -- there is room for all parked tasks, and so many turns
  abbrev pub HasRoomFor : ℕ → Share N T → Type 0
  HasRoomFor n share = HasRoom (length share.parked.items + n) share.pass

  -- if no task has moved, all that are parked wait
  abbrev pub IsStill : (T → Type 0) → Share N T → Type 0
  IsStill waits share = share.moved ≡ false → AllWait waits share.parked.items

  -- what another worker brings back came to it
  pub record TakesIn (queue : TaskQueue N T) (old other new : Share N T) : Type 0 where
    pub is : IsTaskPass queue new.pass
    pub dealt : IsDealt new.pass
    pub owned_are : owned new.pass ≡ owned old.pass ++ owned other.pass
    pub places_are : places old.pass ≤ places new.pass
    pub run : (run : Option N) → KnowsRun run old.pass → KnowsRun run other.pass → KnowsRun run new.pass
    pub put : (h : ℕ → ℕ) → put_by h new.pass ≡ put_by h old.pass + put_by h other.pass
    pub taken : (h : ℕ → ℕ) → taken_by h new.pass ≡ taken_by h old.pass + taken_by h other.pass
    pub parked_are : new.parked.items ≡ old.parked.items ++ other.parked.items
    pub moved_is : new.moved ≡ old.moved || other.moved

module _ {N T : Type 0} (number : T → ℕ) where
  -- what was taken from the deques and not put back is parked, whatever is added up over the numbers
  pub record IsBalanced (old new : Share N T) : Type 0 where
    pub same : IsSamePass old.pass new.pass
    pub held : (h : ℕ → ℕ) → put_by h new.pass + sum_numbers number h new.parked.items + taken_by h old.pass ≡ taken_by h new.pass + (put_by h old.pass + sum_numbers number h old.parked.items)

module _ {N T : Type 0} (number : T → ℕ) (run : T → N) (fact : T → Type 0) where
  -- a pass of the queue, and tasks of its run
  pub record IsShare (queue : TaskQueue N T) (share : Share N T) : Type 0 where
    pub pass_is : IsTaskPass queue share.pass
    pub runtime : Option N
    pub knows : KnowsRun runtime share.pass
    pub each : AreTasks run fact runtime share.parked.items

  -- what a worker brings back, whose pass was this
  pub record IsShareOf (waits : T → Type 0) (queue : TaskQueue N T) (old : TaskPass N T) (share : Share N T) : Type 0 where
    pub is : IsShare queue share
    pub same : IsSamePass old share.pass
    pub held : (h : ℕ → ℕ) → put_by h share.pass + sum_numbers number h share.parked.items + taken_by h old ≡ taken_by h share.pass + put_by h old
    pub still : IsStill waits share
