use Rattle.std.proofs.Common.{arith}
use Rattle.std.proofs.lemmas.List.{take_rest, length-drop}
use Rattle.xb_io.proofs.Appending.{appends_more, prefix_more}
use Rattle.xb_io.proofs.stream_sink.write_whole.Goals as goal

pub returns-in-Err-write_some-clause-failed : goal.returns-in-Err-write_some-clause-failed
returns-in-Err-write_some-clause-failed g c =
    prefix_more _ (g.W.Write.contents c.loop-turn.stream) _ c.args.piece.now c.loop-turn.written c.loop-turn.invariant.1
    (rw (take_rest c.args.piece.now c.loop-turn.written) at c.in-Err-write_some.ensures.failed)

pub loop-turn-preserved : goal.loop-turn-preserved
loop-turn-preserved g c = (
  omega (arith, rw (take_rest c.args.piece.now c.loop-turn.written) at c.in-Ok-write_some.ensures.at_most, length-drop c.loop-turn.written c.args.piece.now),
  appends_more _ (g.W.Write.contents c.loop-turn.stream) _ c.args.piece.now c.loop-turn.written c.in-Ok-write_some.count c.loop-turn.invariant.1
      (rw (take_rest c.args.piece.now c.loop-turn.written) at c.in-Ok-write_some.ensures.ok),
)
