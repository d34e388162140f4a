use Rattle.std.proofs.Common.{◌-◌, ◌+◌, length, ap, arith}
use Rattle.task_queue.proofs.OnRound.Turns.{fresh, share_goes}
use Rattle.task_queue.proofs.round.worker.work.Goals as goal

pub loop-init : goal.loop-init
loop-init g c =
    let empty = ap length c.new.ensures.items in (
      fresh g.T.Numbered.number_of g.T.Numbered.run_of g.T.Numbered.fact c.args.queue.now g.T.Steps.waits c.requires.runtime _ c.requires.pass_is c.requires.knows c.new.ensures.items,
      (let has = c.requires.room in omega (arith, has, empty)),
    )

pub turn-requires-clause-share : goal.turn-requires-clause-share
turn-requires-clause-share g c = c.loop.invariant.0.is

pub turn-requires-clause-room : goal.turn-requires-clause-room
turn-requires-clause-room g c = let has = c.loop.invariant.1 in omega (arith, has, c.loop-test.true)

pub loop-preserved : goal.loop-preserved
loop-preserved g c = (
  share_goes g.T.Numbered.number_of g.T.Numbered.run_of g.T.Numbered.fact c.args.queue.now g.T.Steps.waits c.args.pass c.loop.share _ c.loop.invariant.0 c.in-Ok-true.ensures.share.0 c.in-Ok-true.ensures.share.1 c.in-Ok-true.ensures.still,
  c.in-Ok-true.ensures.room (1024 - (c.loop.counter + 1)) (let has = c.loop.invariant.1 in omega (arith, has, c.loop-test.true)),
)

pub returns-in-Ok-false : goal.returns-in-Ok-false
returns-in-Ok-false g c =
    share_goes g.T.Numbered.number_of g.T.Numbered.run_of g.T.Numbered.fact c.args.queue.now g.T.Steps.waits c.args.pass c.loop.share _ c.loop.invariant.0 c.in-Ok-false.ensures.share.0 c.in-Ok-false.ensures.share.1 c.in-Ok-false.ensures.still
