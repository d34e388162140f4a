-- The ends of a deque.
use Rattle.std.specs.Prelude.{◌≡◌, ◌<◌, ◌≤◌, ℕ, false, []}
use Rattle.std.specs.declared.alloc.Global.{Global}
use Rattle.atomic_blocks.specs.Lent.{RowsId}
use Rattle.crossbeam_deque.specs.Handles.{view, IsPassOf, worker_view, worker_deque, worker_index, worker_capacity, worker_flavor, stealer_deque, stealer_flavor}
use Rattle.task_queue.specs.declared.lane.tally.Tally.{Tally}
use Rattle.task_queue.specs.declared.lane.deque.Lane.{Lane}
use Rattle.task_queue.specs.declared.lane.deque.Window.{Window}
use Rattle.task_queue.specs.declared.lane.deque.Thief.{Thief}

module _ {N T : Type 0} where
  -- what the worker's pass knows, and that of who steals
  abbrev pub lane_knows : Lane N T → Tally N
  lane_knows lane = worker_view lane.worker

  abbrev pub thief_knows : Thief N T → Tally N
  thief_knows thief = view thief.pass

  -- which deque it is
  abbrev pub lane_deque : Lane N T → RowsId × Global
  lane_deque lane = worker_deque lane.worker

  abbrev pub window_deque : Window N T → RowsId × Global
  window_deque window = stealer_deque window.stealer

  -- how many places were used so far, and how many it has
  abbrev pub lane_puts : Lane N T → ℕ
  lane_puts lane = worker_index lane.worker

  abbrev pub lane_room : Lane N T → ℕ
  lane_room lane = worker_capacity lane.worker

  -- first in, first out; it is of a run, and its worker has a part
  pub record IsLane (lane : Lane N T) : Type 0 where
    pub order : worker_flavor lane.worker ≡ 0
    pub part : 0 < (lane_knows lane).parts
    pub opens : (lane_knows lane).opens ≡ false

  abbrev pub IsWindow : Window N T → Type 0
  IsWindow window = stealer_flavor window.stealer ≡ 0

  pub record IsThiefOf (deque : RowsId × Global) (thief : Thief N T) : Type 0 where
    pub pass : IsPassOf deque thief.pass
    pub part : 0 < (thief_knows thief).parts
    pub opens : (thief_knows thief).opens ≡ false
    pub put : (thief_knows thief).put ≡ []

  -- it is the same deque, and has no less room
  pub record IsSameLane (old new : Lane N T) : Type 0 where
    pub deque : lane_deque new ≡ lane_deque old
    pub room : lane_room old ≤ lane_room new
