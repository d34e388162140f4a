use Rattle.chan_file.proofs.Numbers.{below_ones, not_held}
use Rattle.chan_file.proofs.number.held_in.Goals as goal

pub returns-then-number-width : goal.returns-then-number-width
returns-then-number-width c = not_held c.args.width c.args.number c.requires.some_width c.requires.most_width c.if-number-width.true

pub new-requires-clause-in_range : goal.new-requires-clause-in_range
new-requires-clause-in_range c = below_ones c.args.width c.args.number c.requires.most_width c.if-number-width.false
