-- A deque at its owner's end, with the rights to steal from the deques of other passes.
use Rattle.std.specs.Prelude.{◌≡◌, ◌<◌, ◌≤◌, ◌+◌, ◌==◌, ◌||◌, ℕ, zero, suc, Bool, true, false, List, [], ◌∷◌, ◌++◌, length, map, Option, Some, None, option_map, slice_get, sum_by}
use Rattle.task_queue.specs.declared.lane.tally.Tally.{Tally}
use Rattle.task_queue.specs.declared.lane.deque.Window.{Window}
use Rattle.task_queue.specs.declared.lane.deque.Thief.{Thief}
use Rattle.task_queue.specs.declared.seat.Seat.{Seat}
use Rattle.task_queue.specs.Lane.Handles.{IsLane, IsWindow, IsThiefOf, lane_knows, lane_deque, lane_puts, lane_room, thief_knows, window_deque}

module _ {X : Type 0} where
  -- it holds of each of these
  abbrev pub Each : (X → Type 0) → List X → Type 0
  Each P [] = Unit {0}
  Each P (x ∷ xs) = P x × Each P xs

-- a number is one of these
abbrev pub is_among : List ℕ → ℕ → Bool
is_among [] k = false
is_among (n ∷ ns) k = (n == k) || is_among ns k

-- these numbers differ
abbrev pub AllDiffer : List ℕ → Type 0
AllDiffer [] = Unit {0}
AllDiffer (n ∷ ns) = (is_among ns n ≡ false) × AllDiffer ns

-- none is in both lists
abbrev pub AreApart : List ℕ → List ℕ → Type 0
AreApart ns ms = (k : ℕ) → is_among ns k ≡ true → is_among ms k ≡ false

-- the numbers below n, in order
abbrev pub numbers_below : ℕ → List ℕ
numbers_below zero = []
numbers_below (suc n) = numbers_below n ++ n ∷ []

module _ {N : Type 0} where
  -- what was put and what was taken by a pass of one deque, whatever is added up over the numbers
  abbrev pub tally_put : (ℕ → ℕ) → Tally N → ℕ
  tally_put h v = sum_by h v.put

  abbrev pub tally_taken : (ℕ → ℕ) → Tally N → ℕ
  tally_taken h v = sum_by h v.taken

  -- what was taken by a right, and how many rights it is
  abbrev pub right_taken : (ℕ → ℕ) → Option (Tally N) → ℕ
  right_taken h None = 0
  right_taken h (Some v) = tally_taken h v

  abbrev pub right_count : Option (Tally N) → ℕ
  right_count None = 0
  right_count (Some v) = 1

  -- the place of a right is empty
  abbrev pub is_empty_place : Option (Option (Tally N)) → Bool
  is_empty_place None = false
  is_empty_place (Some None) = true
  is_empty_place (Some (Some v)) = false

module _ {N T : Type 0} where
  -- what each of these rights knows
  abbrev pub rights_know : List (Option (Thief N T)) → List (Option (Tally N))
  rights_know rights = map (option_map thief_knows) rights

  abbrev pub AreWindows : List (Window N T) → Type 0
  AreWindows windows = (k : ℕ) (window : Window N T) → slice_get windows k ≡ Some window → IsWindow window

  -- each right is one to steal from the deque with its number
  pub record AreRights (windows : List (Window N T)) (rights : List (Option (Thief N T))) : Type 0 where
    pub count : length rights ≡ length windows
    pub each : (k : ℕ) (right : Thief N T) (window : Window N T) → slice_get rights k ≡ Some (Some right) → slice_get windows k ≡ Some window → IsThiefOf (window_deque window) right

  -- its deque is the one with its number
  pub record IsSeat (windows : List (Window N T)) (seat : Seat N T) : Type 0 where
    pub lane : IsLane seat.lane
    pub within : seat.number < length windows
    pub at : (window : Window N T) → slice_get windows seat.number ≡ Some window → lane_deque seat.lane ≡ window_deque window
    pub rights : AreRights windows seat.rights.items

  abbrev pub seat_number : Seat N T → ℕ
  seat_number seat = seat.number

  abbrev pub seat_knows : Seat N T → List (Option (Tally N))
  seat_knows seat = rights_know seat.rights.items

  -- it has no right to steal from this deque
  abbrev pub lacks : Seat N T → ℕ → Bool
  lacks seat k = is_empty_place (slice_get (seat_knows seat) k)

  -- its deque is of this run, and so are those that it has rights on
  pub record KnowsRunAt (run : Option N) (seat : Seat N T) : Type 0 where
    pub lane : (lane_knows seat.lane).run ≡ run
    pub rights : (k : ℕ) (v : Tally N) → slice_get (seat_knows seat) k ≡ Some (Some v) → v.run ≡ run

  -- each right has one part of its deque's, and of its own deque as many are lent as it has rights
  pub record IsDealtAt (seat : Seat N T) : Type 0 where
    pub lane : (lane_knows seat.lane).parts + sum_by right_count (seat_knows seat) ≡ 1024
    pub rights : (k : ℕ) (v : Tally N) → slice_get (seat_knows seat) k ≡ Some (Some v) → v.parts ≡ 1

  -- there is room for so many puts
  abbrev pub HasRoomAt : ℕ → Seat N T → Type 0
  HasRoomAt n seat = lane_puts seat.lane + n ≤ lane_room seat.lane

  -- if its deque has this number, there is
  abbrev pub HasRoomIf : ℕ → ℕ → Seat N T → Type 0
  HasRoomIf d n seat = seat.number ≡ d → HasRoomAt n seat

  -- what was put on its deque, and what was taken there by its owner and elsewhere by its rights
  abbrev pub seat_put : (ℕ → ℕ) → Seat N T → ℕ
  seat_put h seat = tally_put h (lane_knows seat.lane)

  abbrev pub seat_taken : (ℕ → ℕ) → Seat N T → ℕ
  seat_taken h seat = tally_taken h (lane_knows seat.lane) + sum_by (right_taken h) (seat_knows seat)
