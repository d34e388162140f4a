use Rattle.block_stage.proofs.OnMachine.InTime.{the_next_event_is_asserted_in_time}
use Rattle.block_stage.proofs.machine.laws.the_next_event_is_asserted_in_time.Goals as goal

pub returns : goal.returns
returns c = the_next_event_is_asserted_in_time
