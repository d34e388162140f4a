use Rattle.block_build.proofs.OnNetlist.OnFlat.{sent_word_is_carried}
use Rattle.block_build.proofs.netlist.values.sent_words_are_carried.Goals as goal

pub returns : goal.returns
returns c = sent_word_is_carried
