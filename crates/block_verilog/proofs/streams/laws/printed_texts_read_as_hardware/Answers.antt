use Rattle.block_verilog.proofs.OnStreams.OnTexts.{text_is_of_hardware}
use Rattle.block_verilog.proofs.streams.laws.printed_texts_read_as_hardware.Goals as goal

pub returns : goal.returns
returns c = text_is_of_hardware c.one_module.ensures
