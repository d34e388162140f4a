use Rattle.xls_cmd.specs.Opt.Commands.{optimised}
use Rattle.xls_cmd.proofs.opt.optimising.optimised.Goals as goal

pub returns : goal.returns
returns c = optimised c.in_ok-new.new c.in_ok-text.text.items c.in_ok-new.ensures c.in_ok-text.ensures.text c.in_ok-text.ensures.again
