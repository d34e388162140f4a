use Rattle.net_core.proofs.Lemmas.{each_sent_word_had_room}
use Rattle.net_core.proofs.laws.each_sent_word_had_room.Goals as goal

pub returns : goal.returns
returns c = each_sent_word_had_room
