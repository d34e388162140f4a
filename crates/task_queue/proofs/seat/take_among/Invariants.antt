use Rattle.std.proofs.Common.{◌≡◌}
use Rattle.std.specs.Prelude.{vec_capacity}
use Rattle.task_queue.proofs.OnSeats.Looks.{LooksAt}
use Rattle.task_queue.proofs.seat.take_among.Given as goal

abbrev pub invariant-loop-k : goal.invariant-loop-k
invariant-loop-k g l = LooksAt l.fn.seats.items l.seats.items l.k × (vec_capacity l.seats ≡ vec_capacity l.fn.seats)
