use Rattle.std.proofs.Common.{sym}
use Rattle.cycle_sim.proofs.OnRows.FirstPiece.{is_left}
use Rattle.cycle_sim.proofs.rows.pieces.Pieces.is_done.Goals as goal

pub returns : goal.returns
returns c = is_left c.self.inside.rest c.args.self.now c.is_none.result c.self.view_is c.is_none.ensures
