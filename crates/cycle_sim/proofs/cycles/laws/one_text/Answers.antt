use Rattle.cycle_sim.proofs.OnCycles.Written.{one_text}
use Rattle.cycle_sim.proofs.cycles.laws.one_text.Goals as goal

pub returns : goal.returns
returns c = one_text
