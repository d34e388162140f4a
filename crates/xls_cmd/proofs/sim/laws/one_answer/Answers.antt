use Rattle.xls_cmd.proofs.OnSim.Steps.{sim_is_one}
use Rattle.xls_cmd.proofs.sim.laws.one_answer.Goals as goal

pub returns : goal.returns
returns c = sim_is_one c.one_module.ensures c.one_reading.ensures c.one_text.ensures
