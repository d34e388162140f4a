use Rattle.xb_span.specs.PieceText.{piece_text}
use Rattle.xls_cmd.proofs.OnShared.Putting.{breaks_off_at}
use Rattle.xls_cmd.proofs.shared.pieces.put_pieces.Goals as goal

pub returns-in-Err-clause-failed : goal.returns-in-Err-clause-failed
returns-in-Err-clause-failed g c = (
  breaks_off_at piece_text c.args.pieces.now c.loop-piece.piece-index _ (g.S.Sink.written c.args.sink.now) (g.S.Sink.written c.loop-piece.sink) _ c.loop-piece-test.true
      c.loop-piece.invariant.0 c.in-Err.ensures.failed.0,
  rw c.loop-piece.invariant.1 at c.in-Err.ensures.failed.1,
)
