use Rattle.std.proofs.Common.{◌≡◌, ◌≤◌, ◌+◌, ◌∷◌, map}
use Rattle.std.specs.Prelude.{vec_capacity}
use Rattle.task_queue.specs.Seats.{Each, numbers_below, seat_number}
use Rattle.task_queue.specs.Inner.Making.{IsNewSeat, HaveOpened}
use Rattle.task_queue.proofs.making.open_others.Given as goal

abbrev pub invariant-loop-number : goal.invariant-loop-number
invariant-loop-number g l =
    Each (IsNewSeat l.run (l.count + l.turns) l.workers l.windows.items) l.more.items
    × (0 ∷ map seat_number l.more.items ≡ numbers_below l.number)
    × (l.workers ≤ vec_capacity l.more)
    × HaveOpened l.number l.fn.windows.items l.windows.items
    × (1 ≤ l.number)
    × (l.number ≤ l.workers)
