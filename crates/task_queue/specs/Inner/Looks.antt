-- What a look at several deques leaves.
use Rattle.std.specs.Prelude.{◌≡◌, ◌+◌, ◌++◌, ◌∷◌, [], ℕ, Bool, List, map, Option, Some, MatchOption, sum_by}
use Rattle.task_queue.specs.declared.lane.tally.Tally.{Tally}
use Rattle.task_queue.specs.declared.lane.deque.Window.{Window}
use Rattle.task_queue.specs.declared.seat.Seat.{Seat}
use Rattle.task_queue.specs.Lane.Steps.{IsExhausted}
use Rattle.task_queue.specs.Lane.Handles.{IsLane, lane_knows}
use Rattle.task_queue.specs.Seats.{Each, IsSeat, seat_number, lacks, KnowsRunAt, IsDealtAt, HasRoomIf, seat_put, seat_taken}

module _ {N T : Type 0} where
  abbrev pub IsAnyLane : Seat N T → Type 0
  IsAnyLane seat = IsLane seat.lane

  -- its own deque was found empty
  abbrev pub IsExhaustedAt : Seat N T → Type 0
  IsExhaustedAt seat = IsExhausted (lane_knows seat.lane)

module _ {N T : Type 0} (windows : List (Window N T)) where
  -- a seat at whose deque its owner was, or which has stolen
  pub record KeepsSeat (old new : Seat N T) : Type 0 where
    pub number : new.number ≡ old.number
    pub seat : IsSeat windows old → IsSeat windows new
    pub run : (run : Option N) → KnowsRunAt run old → KnowsRunAt run new
    pub dealt : IsDealtAt old → IsDealtAt new
    pub right : (k : ℕ) → lacks new k ≡ lacks old k

  -- several, from which tasks were at most taken
  pub record KeepSeats (old new : List (Seat N T)) : Type 0 where
    pub numbers : map seat_number new ≡ map seat_number old
    pub seats_are : Each (IsSeat windows) old → Each (IsSeat windows) new
    pub run : (run : Option N) → Each (KnowsRunAt run) old → Each (KnowsRunAt run) new
    pub dealt : Each IsDealtAt old → Each IsDealtAt new
    pub room : (d n : ℕ) → Each (HasRoomIf d n) old → Each (HasRoomIf d n) new
    pub put : (h : ℕ → ℕ) → sum_by (seat_put h) new ≡ sum_by (seat_put h) old
    pub rights : (f : ℕ → Bool) → Each (λ seat. (k : ℕ) → lacks seat k ≡ f k) old → Each (λ seat. (k : ℕ) → lacks seat k ≡ f k) new

module _ {N T : Type 0} (number : T → ℕ) (run : T → N) (fact : T → Type 0) where
  -- a task was taken from one of these deques, or each was empty at a moment of its own
  abbrev pub IsTakenAmong : List (Seat N T) → List (Seat N T) → Option T → Type 0
  IsTakenAmong old new result = MatchOption result
      (((h : ℕ → ℕ) → sum_by (seat_taken h) new ≡ sum_by (seat_taken h) old) × Each IsExhaustedAt old)
      (λ task. ((h : ℕ → ℕ) → sum_by (seat_taken h) new ≡ sum_by (seat_taken h) old + h (number task))
      × ((runtime : Option N) → Each (KnowsRunAt runtime) old → runtime ≡ Some (run task)) × fact task)

  -- a task was stolen by a right, if there is one, or its deque was empty at a moment
  abbrev pub IsStolenBy : Option (Tally N) → Option (Tally N) → Option T → Type 0
  IsStolenBy old new result = MatchOption result
      ((new ≡ old) × ((v : Tally N) → old ≡ Some v → IsExhausted v))
      (λ task. (v : Tally N) × (old ≡ Some v) × (new ≡ Some (record v { taken = v.taken ++ number task ∷ [] })) × (v.run ≡ Some (run task)) × fact task)
