use Rattle.std.proofs.Common.{◌≡◌}
use Rattle.task_queue.specs.Lane.Handles.{IsThiefOf, thief_knows, window_deque}
use Rattle.task_queue.proofs.lane.deque.Window.steal.Given as goal

abbrev pub invariant-loop : goal.invariant-loop
invariant-loop g l = IsThiefOf (window_deque l.self) l.thief × (thief_knows l.thief ≡ thief_knows l.fn.thief)
