use Rattle.std.proofs.Common.{◌∷◌, ◌∙◌, ap, sym}
use Rattle.cycle_sim.specs.Rows.Inner.Shapes.{pieces_left}
use Rattle.cycle_sim.proofs.OnRows.FirstPiece.{next_is}
use Rattle.cycle_sim.proofs.rows.pieces.Pieces.next.Goals as goal

pub returns-in-Some : goal.returns-in-Some
returns-in-Some c =
    sym c.self.view_is
    ∙ ap pieces_left c.in-Some.is
    ∙ next_is c.in-Some.line.now c.split_at.result.0.now c.split_at.result.1.now c.piece_len.result c.piece_len.ensures.len c.split_at.ensures.front c.split_at.ensures.back
    ∙ ap (λ ps. c.split_at.result.0.now ∷ ps) (sym c.behind_space-self-inside.ensures)
