use Rattle.dslx_check_facts.proofs.OnKeys.Lists.{none_first}
use Rattle.dslx_check_facts.proofs.prefixes.Prefixes.none.Goals as goal

pub returns : goal.returns
returns c = none_first c.self.inside.keys.keys c.args.self.now c.self.view_is
