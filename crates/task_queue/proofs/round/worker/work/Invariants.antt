use Rattle.std.proofs.Common.{◌-◌}
use Rattle.task_queue.specs.Round.Inner.Shares.{IsShareOf, HasRoomFor}
use Rattle.task_queue.proofs.round.worker.work.Given as goal

abbrev pub invariant-loop : goal.invariant-loop
invariant-loop g l =
    IsShareOf g.T.Numbered.number_of g.T.Numbered.run_of g.T.Numbered.fact g.T.Steps.waits l.queue l.fn.pass l.share × HasRoomFor (1024 - l.counter) l.share
