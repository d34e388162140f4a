-- The passes of a queue of tasks: which deques each owns, what was put on them, and what was taken by their owner.
use Rattle.std.specs.Prelude.{◌≡◌, ◌≢◌, ◌<◌, ◌≤◌, ℕ, suc, true, List, [], ◌∷◌, ◌++◌, length, map, slice_set, Option, Some, slice_get, sum_by, vec_capacity}
use Rattle.task_queue.specs.declared.lane.tally.Tally.{Tally}
use Rattle.task_queue.specs.declared.seat.Seat.{Seat}
use Rattle.task_queue.specs.declared.queue.TaskQueue.{TaskQueue}
use Rattle.task_queue.specs.declared.queue.TaskPass.{TaskPass}
use Rattle.task_queue.specs.Lane.Steps.{IsExhausted}
use Rattle.task_queue.specs.Lane.Handles.{lane_knows}
use Rattle.task_queue.specs.Seats.{Each, is_among, AllDiffer, numbers_below, AreWindows, IsSeat, seat_number, seat_knows, lacks, KnowsRunAt, IsDealtAt, HasRoomAt, HasRoomIf, seat_put, seat_taken}

module _ {N : Type 0} where
  -- of each deque but that with number d: if the right had all its parts, then all that was put there was taken
  abbrev pub AreExhausted : ℕ → List (Option (Tally N)) → Type 0
  AreExhausted d views = (k : ℕ) (v : Tally N) → slice_get views k ≡ Some (Some v) → k ≢ d → IsExhausted v

module _ {N T : Type 0} where
  -- the deques that a pass owns, and their numbers
  abbrev pub seats : TaskPass N T → List (Seat N T)
  seats pass = pass.first ∷ pass.more.items

  abbrev pub owned : TaskPass N T → List ℕ
  owned pass = map seat_number (seats pass)

  -- it is a pass of this queue: it owns these deques, and has a right to steal from each other
  pub record IsTaskPass (queue : TaskQueue N T) (pass : TaskPass N T) : Type 0 where
    pub windows : AreWindows queue.windows.items
    pub few : length queue.windows.items < 1024
    pub seats_are : Each (IsSeat queue.windows.items) (seats pass)
    pub differ : AllDiffer (owned pass)
    pub rights : Each (λ seat. (k : ℕ) → lacks seat k ≡ is_among (owned pass) k) (seats pass)

  -- all its deques are of this run, and so are those that tasks are stolen from
  abbrev pub KnowsRun : Option N → TaskPass N T → Type 0
  KnowsRun run pass = Each (KnowsRunAt run) (seats pass)

  -- no part of the right to know all of a deque is lost
  abbrev pub IsDealt : TaskPass N T → Type 0
  IsDealt pass = Each IsDealtAt (seats pass)

  -- there is room for so many puts on the first of its deques, and on the one with number d
  abbrev pub HasRoom : ℕ → TaskPass N T → Type 0
  HasRoom n pass = HasRoomAt n pass.first

  abbrev pub HasRoomOn : ℕ → ℕ → TaskPass N T → Type 0
  HasRoomOn d n pass = Each (HasRoomIf d n) (seats pass)

  -- how many deques it has places for
  abbrev pub places : TaskPass N T → ℕ
  places pass = suc (vec_capacity pass.more)

  -- it owns all deques
  abbrev pub OwnsAll : TaskQueue N T → TaskPass N T → Type 0
  OwnsAll queue pass = (k : ℕ) → k < length queue.windows.items → is_among (owned pass) k ≡ true

  -- what the pass has put and what it has taken so far, whatever is added up over the numbers
  abbrev pub put_by : (ℕ → ℕ) → TaskPass N T → ℕ
  put_by h pass = sum_by (seat_put h) (seats pass)

  abbrev pub taken_by : (ℕ → ℕ) → TaskPass N T → ℕ
  taken_by h pass = sum_by (seat_taken h) (seats pass)

  -- each deque was found empty at a moment: who has all its parts knows that all that was put there was taken
  pub record FoundEmpty (pass : TaskPass N T) : Type 0 where
    pub own : Each (λ seat. IsExhausted (lane_knows seat.lane)) (seats pass)
    pub others : AreExhausted pass.first.number (seat_knows pass.first)

  -- what a step leaves as it was
  pub record IsSamePass (old new : TaskPass N T) : Type 0 where
    pub number : new.first.number ≡ old.first.number
    pub owned_are : owned new ≡ owned old
    pub places_are : places new ≡ places old
    pub run : (run : Option N) → KnowsRun run old → KnowsRun run new
    pub dealt : IsDealt old → IsDealt new
    pub room : (d n : ℕ) → d ≢ old.first.number → HasRoomOn d n old → HasRoomOn d n new

module _ {N T : Type 0} (number : T → ℕ) (run : T → N) (fact : T → Type 0) where
  -- a task of the run was stolen by one of the rights
  pub record IsStolen (old new : List (Option (Tally N))) (task : T) : Type 0 where
    pub at : ℕ
    pub knew : Tally N
    pub there : slice_get old at ≡ Some (Some knew)
    pub now : new ≡ slice_set old at (Some (record knew { taken = knew.taken ++ number task ∷ [] }))
    pub run_is : knew.run ≡ Some (run task)
    pub holds : fact task

module _ {T : Type 0} where
  -- what a function gives for the numbers of tasks, added up
  abbrev pub sum_numbers : (T → ℕ) → (ℕ → ℕ) → List T → ℕ
  sum_numbers number h tasks = sum_by (λ (task : T). h (number task)) tasks

module _ {N T : Type 0} where
  -- it is a new pass of a run that owns all deques, with room for so many puts on each
  pub record IsNewPass (queue : TaskQueue N T) (run : Option N) (workers room : ℕ) (pass : TaskPass N T) : Type 0 where
    pub is : IsTaskPass queue pass
    pub count : length queue.windows.items ≡ workers
    pub owned_are : owned pass ≡ numbers_below workers
    pub knows : KnowsRun run pass
    pub dealt : IsDealt pass
    pub rooms : Each (HasRoomAt room) (seats pass)
    pub places_are : workers ≤ places pass
    pub put : (h : ℕ → ℕ) → put_by h pass ≡ 0
    pub taken : (h : ℕ → ℕ) → taken_by h pass ≡ 0

  -- each is a task of this run, of which its fact holds
  abbrev pub AreTasks : (T → N) → (T → Type 0) → Option N → List T → Type 0
  AreTasks run fact runtime tasks = (k : ℕ) (task : T) → slice_get tasks k ≡ Some task → (runtime ≡ Some (run task)) × fact task
