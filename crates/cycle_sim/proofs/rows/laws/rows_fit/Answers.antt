use Rattle.cycle_sim.proofs.OnRows.RowsFit.{rows_fit}
use Rattle.cycle_sim.proofs.rows.laws.rows_fit.Goals as goal

pub returns : goal.returns
returns c = rows_fit
