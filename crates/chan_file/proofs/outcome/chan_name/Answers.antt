use Rattle.std.proofs.Common.{◌∙◌, sym}
use Rattle.chan_file.proofs.Names.{chan_name-there, chan_name-past}
use Rattle.chan_file.proofs.outcome.chan_name.Goals as goal

pub returns-in-Some : goal.returns-in-Some
returns-in-Some c = c.as_str.ensures ∙ chan_name-there c.args.chans.now c.args.chan c.in-Some.chan.now (sym c.in-Some.ensures)

pub returns-in-None : goal.returns-in-None
returns-in-None c = chan_name-past c.args.chans.now c.args.chan (sym c.in-None.ensures)
