use Rattle.std.proofs.Common.{◌≡◌, ◌<◌, ◌≤◌, ℕ, Some}
use Rattle.std.specs.Prelude.{slice_get}
use Rattle.task_queue.specs.declared.lane.tally.Tally.{Tally}
use Rattle.task_queue.specs.Lane.Steps.{IsExhausted}
use Rattle.task_queue.specs.Seats.{AreRights, rights_know}
use Rattle.task_queue.proofs.queue.steal_among.Given as goal

abbrev pub invariant-loop-k : goal.invariant-loop-k
invariant-loop-k g l =
    AreRights l.windows l.rights.items
    × (rights_know l.rights.items ≡ rights_know l.fn.rights.items)
    × ((k : ℕ) (v : Tally _) → slice_get (rights_know l.fn.rights.items) k ≡ Some (Some v) → l.from ≤ k → k < l.k → IsExhausted v)
