use Rattle.dslx_check_declarations.proofs.OnWork.OnLearnt.{facts_hold}
use Rattle.dslx_check_declarations.proofs.work.laws.what_is_known_holds.Goals as goal

pub returns : goal.returns
returns c = facts_hold
