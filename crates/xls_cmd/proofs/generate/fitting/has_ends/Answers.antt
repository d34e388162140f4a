use Rattle.xls_cmd.proofs.generate.fitting.has_ends.Goals as goal

pub returns-then-has_channel : goal.returns-then-has_channel
returns-then-has_channel c = λ h. (c.has_channel.ensures c.if-has_channel.true, c.has_channel-then-has_channel.ensures h)
