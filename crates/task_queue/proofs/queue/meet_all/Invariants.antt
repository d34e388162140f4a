use Rattle.std.proofs.Common.{◌≡◌}
use Rattle.task_queue.specs.Passes.{places, seats}
use Rattle.task_queue.proofs.OnSeats.Many.{Unites}
use Rattle.task_queue.proofs.queue.meet_all.Given as goal

abbrev pub invariant-loop-k : goal.invariant-loop-k
invariant-loop-k g l = Unites (seats l.fn.pass) (seats l.pass) l.fn.more.items l.more.items l.k × (places l.pass ≡ places l.fn.pass)
