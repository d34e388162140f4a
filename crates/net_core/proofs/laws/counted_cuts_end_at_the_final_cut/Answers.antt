use Rattle.net_core.proofs.Lemmas.{counted_cuts_end_at_the_final_cut}
use Rattle.net_core.proofs.laws.counted_cuts_end_at_the_final_cut.Goals as goal

pub returns : goal.returns
returns c = counted_cuts_end_at_the_final_cut
