use Rattle.net_core.proofs.Lemmas.{only_words_are_received}
use Rattle.net_core.proofs.laws.only_words_are_received.Goals as goal

pub returns : goal.returns
returns c = only_words_are_received
