use Rattle.block_verilog.proofs.OnStreams.Standing.{input_is_not_ready, output_is_not_valid}
use Rattle.block_verilog.proofs.streams.laws.reset_rows_drive_nothing.Goals as goal

pub returns-clause-inputs : goal.returns-clause-inputs
returns-clause-inputs c = input_is_not_ready

pub returns-clause-outputs : goal.returns-clause-outputs
returns-clause-outputs c = output_is_not_valid
