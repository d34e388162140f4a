-- How a queue and its pass are made.
use Rattle.std.specs.Prelude.{◌≡◌, ◌<◌, ℕ, List, length, Option, Some, None, slice_get}
use Rattle.task_queue.specs.declared.lane.deque.Window.{Window}
use Rattle.task_queue.specs.declared.lane.deque.Thief.{Thief}
use Rattle.task_queue.specs.declared.seat.Seat.{Seat}
use Rattle.task_queue.specs.Lane.Rule.{opened}
use Rattle.task_queue.specs.Lane.Handles.{IsLane, lane_knows, lane_deque, window_deque}
use Rattle.task_queue.specs.Seats.{AreWindows, HasRoomAt}

module _ {N T : Type 0} where
  -- so many places without a right
  pub record AreNone (count : ℕ) (rights : List (Option (Thief N T))) : Type 0 where
    pub length_is : length rights ≡ count
    pub each : (k : ℕ) (right : Option (Thief N T)) → slice_get rights k ≡ Some right → right ≡ None

  -- a new deque of a run, with places for so many rights and room for so many puts
  pub record IsNewSeat (run : N) (room workers : ℕ) (windows : List (Window N T)) (seat : Seat N T) : Type 0 where
    pub lane : IsLane seat.lane
    pub within : seat.number < length windows
    pub at : (window : Window N T) → slice_get windows seat.number ≡ Some window → lane_deque seat.lane ≡ window_deque window
    pub knows : lane_knows seat.lane ≡ opened run
    pub room_is : HasRoomAt room seat
    pub none : AreNone workers seat.rights.items

  -- there are so many deques now, at the thieves' ends; those before stay
  pub record HaveOpened (count : ℕ) (old new : List (Window N T)) : Type 0 where
    pub length_is : length new ≡ count
    pub windows : AreWindows new
    pub same : (k : ℕ) → k < length old → slice_get new k ≡ slice_get old k
