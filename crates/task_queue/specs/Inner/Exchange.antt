-- How two passes share the rights on their deques, when one becomes two and when two become one.
use Rattle.std.specs.Prelude.{◌≡◌, ◌<◌, ◌+◌, ◌&&◌, ◌||◌, ◌==◌, not, ℕ, Bool, true, false, List, length, map, Option, Some, None, slice_get, slice_set, sum_by}
use Rattle.task_queue.specs.declared.lane.deque.Lane.{Lane}
use Rattle.task_queue.specs.declared.lane.deque.Window.{Window}
use Rattle.task_queue.specs.declared.lane.deque.Thief.{Thief}
use Rattle.task_queue.specs.declared.seat.Seat.{Seat}
use Rattle.task_queue.specs.Lane.Rule.{keeping, giving, both}
use Rattle.task_queue.specs.Lane.Handles.{IsLane, IsThiefOf, IsSameLane, lane_knows, lane_deque, lane_puts, thief_knows}
use Rattle.task_queue.specs.Seats.{Each, is_among, AllDiffer, IsSeat, seat_number, lacks, KnowsRunAt, IsDealtAt, HasRoomIf, seat_put, seat_taken}

-- whether a seat lacks a right behind it, if it did before, and this is one that it gets, or one that it gives back
abbrev pub gets : Bool → Bool → Bool
gets before this = before && not this

abbrev pub gives : Bool → Bool → Bool
gives before this = before || this

module _ {N T : Type 0} where
  -- of an owner's deque one right was lent
  pub record HasLent (old new : Lane N T) : Type 0 where
    pub lane : IsLane new
    pub same : IsSameLane old new
    pub puts : lane_puts new ≡ lane_puts old
    pub knows : lane_knows new ≡ keeping (lane_knows old)

  -- to another seat
  pub record Lends (owner lender thief borrower : Seat N T) : Type 0 where
    pub number : lender.number ≡ owner.number
    pub kept : lender.rights ≡ owner.rights
    pub lent : HasLent owner.lane lender.lane
    pub thief_number : borrower.number ≡ thief.number
    pub thief_lane : borrower.lane ≡ thief.lane
    pub right : Thief N T
    pub right_of : IsThiefOf (lane_deque owner.lane) right
    pub right_knows : thief_knows right ≡ giving (lane_knows owner.lane)
    pub rights : borrower.rights.items ≡ slice_set thief.rights.items owner.number (Some right)

  -- a right comes back
  pub record HasBack (right : Thief N T) (old new : Lane N T) : Type 0 where
    pub lane : IsLane new
    pub same : IsSameLane old new
    pub puts : lane_puts new ≡ lane_puts old
    pub knows : lane_knows new ≡ both (lane_knows old) (thief_knows right)

  -- from another seat
  pub record TakesBack (owner lender thief borrower : Seat N T) : Type 0 where
    pub number : lender.number ≡ owner.number
    pub kept : lender.rights ≡ owner.rights
    pub right : Thief N T
    pub right_was : slice_get thief.rights.items owner.number ≡ Some (Some right)
    pub back : HasBack right owner.lane lender.lane
    pub thief_number : borrower.number ≡ thief.number
    pub thief_lane : borrower.lane ≡ thief.lane
    pub rights : borrower.rights.items ≡ slice_set thief.rights.items owner.number None

  -- two seats of a queue, both with a right on the other's deque or both without
  pub record MayExchange (lacking : Bool) (a b : Seat N T) : Type 0 where
    pub windows : List (Window N T)
    pub few : length windows < 1024
    pub seat_a : IsSeat windows a
    pub seat_b : IsSeat windows b
    pub dealt_a : IsDealtAt a
    pub dealt_b : IsDealtAt b
    pub right_a : lacks a b.number ≡ lacking
    pub right_b : lacks b a.number ≡ lacking

  -- one half of an exchange: a seat has got or given back a right on another's deque, by which so much was taken, and the other one's
  -- on its own deque is lent, or has come back with what was taken by it
  pub record IsHalf (op : Bool → Bool → Bool) (out into : (ℕ → ℕ) → ℕ) (old other new : Seat N T) : Type 0 where
    pub number : new.number ≡ old.number
    pub seat : (windows : List (Window N T)) → IsSeat windows old → IsSeat windows other → IsSeat windows new
    pub dealt : IsDealtAt new
    pub run : (run : Option N) → KnowsRunAt run old → KnowsRunAt run other → KnowsRunAt run new
    pub room : (d n : ℕ) → HasRoomIf d n old → HasRoomIf d n new
    pub put : (h : ℕ → ℕ) → seat_put h new ≡ seat_put h old
    pub taken : (h : ℕ → ℕ) → seat_taken h new + out h ≡ seat_taken h old + into h
    pub right : (k : ℕ) → lacks new k ≡ op (lacks old k) (other.number == k)

  pub record IsExchange (op : Bool → Bool → Bool) (a b new_a new_b : Seat N T) : Type 0 where
    pub out : (ℕ → ℕ) → ℕ
    pub into : (ℕ → ℕ) → ℕ
    pub half_a : IsHalf op out into a b new_a
    pub half_b : IsHalf op into out b a new_b

  -- a seat with each of these, one after the other
  pub record MayExchangeAll (lacking : Bool) (all : List (Seat N T)) (seat : Seat N T) : Type 0 where
    pub windows : List (Window N T)
    pub few : length windows < 1024
    pub seats_are : Each (IsSeat windows) all
    pub seat_is : IsSeat windows seat
    pub dealt_all : Each IsDealtAt all
    pub dealt : IsDealtAt seat
    pub differ : AllDiffer (map seat_number all)
    pub rights : Each (λ a. lacks a seat.number ≡ lacking) all
    pub right : (k : ℕ) → is_among (map seat_number all) k ≡ true → lacks seat k ≡ lacking

  pub record AreExchanged (op : Bool → Bool → Bool) (all : List (Seat N T)) (seat : Seat N T) (new : List (Seat N T)) (end : Seat N T) : Type 0 where
    pub numbers : map seat_number new ≡ map seat_number all
    pub number : end.number ≡ seat.number
    pub seats_are : (windows : List (Window N T)) → Each (IsSeat windows) all → IsSeat windows seat → Each (IsSeat windows) new × IsSeat windows end
    pub dealt : Each IsDealtAt all → IsDealtAt seat → Each IsDealtAt new × IsDealtAt end
    pub run : (run : Option N) → Each (KnowsRunAt run) all → KnowsRunAt run seat → Each (KnowsRunAt run) new × KnowsRunAt run end
    pub room : (d n : ℕ) → (Each (HasRoomIf d n) all → Each (HasRoomIf d n) new) × (HasRoomIf d n seat → HasRoomIf d n end)
    pub put : (h : ℕ → ℕ) → (sum_by (seat_put h) new ≡ sum_by (seat_put h) all) × (seat_put h end ≡ seat_put h seat)
    pub taken : (h : ℕ → ℕ) → sum_by (seat_taken h) new + seat_taken h end ≡ sum_by (seat_taken h) all + seat_taken h seat
    pub rights : (f : ℕ → Bool) → Each (λ a. (k : ℕ) → lacks a k ≡ f k) all → Each (λ a. (k : ℕ) → lacks a k ≡ op (f k) (seat.number == k)) new
    pub right : (k : ℕ) → lacks end k ≡ op (lacks seat k) (is_among (map seat_number all) k)

  -- seats of another pass come to these
  pub record MayUniteAll (all other : List (Seat N T)) : Type 0 where
    pub windows : List (Window N T)
    pub few : length windows < 1024
    pub seats_a : Each (IsSeat windows) all
    pub seats_b : Each (IsSeat windows) other
    pub dealt_a : Each IsDealtAt all
    pub dealt_b : Each IsDealtAt other
    pub differ_a : AllDiffer (map seat_number all)
    pub differ_b : AllDiffer (map seat_number other)
    pub f : ℕ → Bool
    pub f_not : (k : ℕ) → is_among (map seat_number other) k ≡ true → f k ≡ false
    pub rights_a : Each (λ a. (k : ℕ) → lacks a k ≡ f k) all
    pub rights_b : Each (λ b. (k : ℕ) → is_among (map seat_number all) k ≡ true → lacks b k ≡ false) other

  pub record AreUnited (all other new_all new_other : List (Seat N T)) : Type 0 where
    pub numbers : (map seat_number new_all ≡ map seat_number all) × (map seat_number new_other ≡ map seat_number other)
    pub seats_are : (windows : List (Window N T)) → Each (IsSeat windows) all → Each (IsSeat windows) other → Each (IsSeat windows) new_all × Each (IsSeat windows) new_other
    pub dealt : Each IsDealtAt all → Each IsDealtAt other → Each IsDealtAt new_all × Each IsDealtAt new_other
    pub run : (run : Option N) → Each (KnowsRunAt run) all → Each (KnowsRunAt run) other → Each (KnowsRunAt run) new_all × Each (KnowsRunAt run) new_other
    pub room : (d n : ℕ) → (Each (HasRoomIf d n) all → Each (HasRoomIf d n) new_all) × (Each (HasRoomIf d n) other → Each (HasRoomIf d n) new_other)
    pub put : (h : ℕ → ℕ) → (sum_by (seat_put h) new_all ≡ sum_by (seat_put h) all) × (sum_by (seat_put h) new_other ≡ sum_by (seat_put h) other)
    pub taken : (h : ℕ → ℕ) → sum_by (seat_taken h) new_all + sum_by (seat_taken h) new_other ≡ sum_by (seat_taken h) all + sum_by (seat_taken h) other
    pub rights_a : (f : ℕ → Bool) → Each (λ a. (k : ℕ) → lacks a k ≡ f k) all → Each (λ a. (k : ℕ) → lacks a k ≡ f k || is_among (map seat_number other) k) new_all
    pub rights_b : (f : ℕ → Bool) → Each (λ b. (k : ℕ) → lacks b k ≡ f k) other → Each (λ b. (k : ℕ) → lacks b k ≡ f k || is_among (map seat_number all) k) new_other
