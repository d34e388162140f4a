use Rattle.net_core.proofs.Lemmas.{traces_stop_at_a_missing_word}
use Rattle.net_core.proofs.laws.traces_stop_at_a_missing_word.Goals as goal

pub returns : goal.returns
returns c = traces_stop_at_a_missing_word
