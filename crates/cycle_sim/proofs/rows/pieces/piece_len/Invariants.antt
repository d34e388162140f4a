use Rattle.std.proofs.Common.{◌≡◌, ◌+◌, ◌≤◌, drop, length}
use Rattle.cycle_sim.specs.Rows.Inner.Shapes.{piece_len}
use Rattle.cycle_sim.proofs.rows.pieces.piece_len.Given as goal

abbrev pub invariant-line : goal.invariant-line
invariant-line l = record { len : l.at + piece_len l.depth (drop l.at l.line) ≡ piece_len 0 l.line; few : l.depth ≤ l.at }
