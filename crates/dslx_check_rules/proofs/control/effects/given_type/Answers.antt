use Rattle.base.proofs.Lemmas.Lists.Prefixes.{IsPrefix-refl}
use Rattle.dslx_check_rules.proofs.control.effects.given_type.Goals as goal

pub returns-in-None-clause-grows : goal.returns-in-None-clause-grows
returns-in-None-clause-grows c = IsPrefix-refl c.args.types.now
