use Rattle.std.proofs.Common.{◌≡◌}
use Rattle.std.specs.Prelude.{vec_capacity}
use Rattle.task_queue.specs.Inner.Exchange.{gives}
use Rattle.task_queue.proofs.OnSeats.Many.{Exchanges}
use Rattle.task_queue.proofs.exchange.unite_all.Given as goal

abbrev pub invariant-loop-k : goal.invariant-loop-k
invariant-loop-k g l = Exchanges gives l.fn.seats.items l.seats.items l.fn.seat l.seat l.k × (vec_capacity l.seats ≡ vec_capacity l.fn.seats)
