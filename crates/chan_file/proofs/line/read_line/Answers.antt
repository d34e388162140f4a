use Rattle.std.proofs.Common.{sym, subst}
use Rattle.chan_file.specs.ChannelFile.{SaysLine, blank_line, channel_line}
use Rattle.chan_file.proofs.line.read_line.Goals as goal

pub returns-in-Blank : goal.returns-in-Blank
returns-in-Blank c = λ before held. blank_line (sym c.in-Blank.ensures)

pub returns-in-Channel : goal.returns-in-Channel
returns-in-Channel c = λ before held.
    subst (λ said. SaysLine c.args.net.now before c.args.line.now said) (sym (c.said_of_name.ensures c.args.net.now before c.requires.numbers held))
    (channel_line c.in-Channel.name.now (sym c.in-Channel.ensures))
