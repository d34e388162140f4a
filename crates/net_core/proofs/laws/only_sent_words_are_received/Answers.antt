use Rattle.net_core.proofs.Lemmas.{only_sent_words_are_received}
use Rattle.net_core.proofs.laws.only_sent_words_are_received.Goals as goal

pub returns : goal.returns
returns c = only_sent_words_are_received
