use Rattle.std.specs.Option.{option_copied}
use Rattle.dslx.proofs.tree.faultless_top.Goals as goal

pub returns-in-Ok-clause-refused : goal.returns-in-Ok-clause-refused
returns-in-Ok-clause-refused c = c.top_of_verdict.ensures.refused c.args.tree.now (option_copied c.args.top) c.in-Ok.ensures
