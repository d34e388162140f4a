use Rattle.std.proofs.Common.{◌≡◌, ℕ, ◌≤◌, ◌<◌, ◌+◌, ◌*◌, drop, length}
use Rattle.pipe_schedule.specs.Timed.{node_at}
use Rattle.pipe_schedule.specs.Inner.Delays.{timed_within}
use Rattle.pipe_schedule.specs.Inner.Slots.{slots_from, slots_of, AreUpTo}
use Rattle.pipe_schedule.proofs.slots.slots_of.Given as goal

abbrev pub invariant-nodes : goal.invariant-nodes
invariant-nodes l = record {
  exact : slots_from l.clock l.slots.items l.floor (drop l.i (timed_within l.proc)) ≡ slots_of l.clock (timed_within l.proc);
  count : length l.slots.items ≡ l.i;
  up_to : AreUpTo l.slots.items (2 * l.i);
  send : l.floor.send ≤ 2 * l.i;
  receive : l.floor.receive ≤ 2 * l.i + 1;
  in_time : (k : ℕ) → k < l.i → (node_at (timed_within l.proc) k).delay ≤ l.clock;
}
