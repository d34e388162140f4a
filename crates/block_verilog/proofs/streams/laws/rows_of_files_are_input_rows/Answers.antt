use Rattle.block_verilog.proofs.OnStreams.OnFiles.{file_rows_are}
use Rattle.block_verilog.proofs.streams.laws.rows_of_files_are_input_rows.Goals as goal

pub returns : goal.returns
returns c m file rows can reads = file_rows_are m file rows reads (c.rows_fit.ensures m file rows can reads)
