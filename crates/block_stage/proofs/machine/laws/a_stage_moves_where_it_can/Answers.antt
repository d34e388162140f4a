use Rattle.block_stage.proofs.OnMachine.Meeting.{a_stage_moves_where_it_can}
use Rattle.block_stage.proofs.machine.laws.a_stage_moves_where_it_can.Goals as goal

pub returns : goal.returns
returns c = a_stage_moves_where_it_can
