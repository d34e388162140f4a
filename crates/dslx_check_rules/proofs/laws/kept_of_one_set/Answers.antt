use Rattle.dslx_check_rules.proofs.Lemmas.Members.{seen_by_members}
use Rattle.dslx_check_rules.proofs.laws.kept_of_one_set.Goals as goal

pub returns : goal.returns
returns c = seen_by_members
