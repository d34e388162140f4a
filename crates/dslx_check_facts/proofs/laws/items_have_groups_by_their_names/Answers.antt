use Rattle.dslx_check_facts.proofs.OnGroups.{groups_by_names}
use Rattle.dslx_check_facts.proofs.laws.items_have_groups_by_their_names.Goals as goal

pub returns : goal.returns
returns c = groups_by_names
