use Rattle.xls_cmd.specs.Lowered.Commands.{written}
use Rattle.xls_cmd.proofs.lowered.command.text_of.Goals as goal

pub returns : goal.returns
returns c = written c.in_ok-text.text.items c.in_ok-text.ensures.text c.in_ok-text.ensures.again
