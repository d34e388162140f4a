use Rattle.block_stage.proofs.OnMachine.Handshakes.{sent_words_go_where_there_is_room, received_words_go_where_ready}
use Rattle.block_stage.proofs.machine.laws.words_go_where_both_sides_are_ready.Goals as goal

pub returns-clause-sent : goal.returns-clause-sent
returns-clause-sent c = sent_words_go_where_there_is_room

pub returns-clause-received : goal.returns-clause-received
returns-clause-received c = received_words_go_where_ready
