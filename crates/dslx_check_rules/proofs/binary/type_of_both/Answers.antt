use Rattle.base.proofs.Lemmas.Lists.Prefixes.{IsPrefix-refl}
use Rattle.dslx_check_rules.proofs.binary.type_of_both.Goals as goal

pub returns-in-Left-clause-grows : goal.returns-in-Left-clause-grows
returns-in-Left-clause-grows c = IsPrefix-refl c.args.types.now
