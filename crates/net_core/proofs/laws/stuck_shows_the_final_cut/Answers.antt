use Rattle.net_core.proofs.Lemmas.{stuck_shows_the_final_cut}
use Rattle.net_core.proofs.laws.stuck_shows_the_final_cut.Goals as goal

pub returns : goal.returns
returns c = stuck_shows_the_final_cut
