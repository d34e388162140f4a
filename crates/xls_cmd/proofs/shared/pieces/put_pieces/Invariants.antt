use Rattle.std.proofs.Common.{◌≡◌, take}
use Rattle.std.specs.Prelude.{flat_map}
use Rattle.std.specs.Io.KnownBytes.{Appends}
use Rattle.xb_span.specs.PieceText.{piece_text}
use Rattle.xls_cmd.proofs.shared.pieces.put_pieces.Given as goal

abbrev pub invariant-loop-piece : goal.invariant-loop-piece
invariant-loop-piece g l =
    Appends (g.S.Sink.written l.initial.sink) (g.S.Sink.written l.sink) (flat_map piece_text (take l.piece-index l.pieces))
    × (g.S.Sink.faults l.sink ≡ g.S.Sink.faults l.initial.sink)
