use Rattle.net_core.proofs.Lemmas.{steps_end_at_the_final_cut}
use Rattle.net_core.proofs.laws.steps_end_at_the_final_cut.Goals as goal

pub returns : goal.returns
returns c = steps_end_at_the_final_cut
