use Rattle.net_core.proofs.Lemmas.{no_proc_can_go_at_the_end}
use Rattle.net_core.proofs.laws.no_proc_can_go_at_the_end.Goals as goal

pub returns : goal.returns
returns c = no_proc_can_go_at_the_end
