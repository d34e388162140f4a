use Rattle.dslx_check_rules.proofs.Lemmas.Members.{none_kept}
use Rattle.dslx_check_rules.proofs.laws.nothing_kept_of_none.Goals as goal

pub returns : goal.returns
returns c = none_kept
