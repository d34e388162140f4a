use Rattle.cycle_sim.proofs.OnRows.OneReading.{one_reading}
use Rattle.cycle_sim.proofs.rows.laws.one_reading.Goals as goal

pub returns : goal.returns
returns c = one_reading
