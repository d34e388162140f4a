use Rattle.block_stage.proofs.OnMachine.Prefixes.{sent_words_are_a_prefix}
use Rattle.block_stage.proofs.machine.laws.sent_words_are_a_prefix.Goals as goal

pub returns : goal.returns
returns c = sent_words_are_a_prefix
