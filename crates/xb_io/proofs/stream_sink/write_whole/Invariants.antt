use Rattle.std.proofs.Common.{◌≤◌, length, take}
use Rattle.std.specs.Io.KnownBytes.{Appends}
use Rattle.xb_io.proofs.stream_sink.write_whole.Given as goal

abbrev pub invariant-loop-turn : goal.invariant-loop-turn
invariant-loop-turn g l =
    (l.written ≤ length l.piece) × Appends (g.W.Write.contents l.initial.stream) (g.W.Write.contents l.stream) (take l.written l.piece)
