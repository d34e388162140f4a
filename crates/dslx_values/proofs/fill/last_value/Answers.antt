use Rattle.std.proofs.Common.{◌∙◌}
use Rattle.dslx_values.proofs.ListLemmas.{last_is}
use Rattle.dslx_values.proofs.fill.last_value.Goals as goal

pub returns : goal.returns
returns c = c.last.ensures.value ∙ last_is c.args.values.now
