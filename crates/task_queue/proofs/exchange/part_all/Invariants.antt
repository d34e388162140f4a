use Rattle.std.proofs.Common.{◌≡◌}
use Rattle.std.specs.Prelude.{vec_capacity}
use Rattle.task_queue.specs.Inner.Exchange.{gets}
use Rattle.task_queue.proofs.OnSeats.Many.{Exchanges}
use Rattle.task_queue.proofs.exchange.part_all.Given as goal

abbrev pub invariant-loop-k : goal.invariant-loop-k
invariant-loop-k g l = Exchanges gets l.fn.seats.items l.seats.items l.fn.seat l.seat l.k × (vec_capacity l.seats ≡ vec_capacity l.fn.seats)
