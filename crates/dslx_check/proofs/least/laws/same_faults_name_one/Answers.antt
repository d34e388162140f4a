use Rattle.dslx_check.proofs.OnLeast.OnNamed.{named_alike}
use Rattle.dslx_check.proofs.least.laws.same_faults_name_one.Goals as goal

pub returns : goal.returns
returns c = named_alike c.any_order_names_one_fault.ensures c.one_place_is_one_fault.ensures
