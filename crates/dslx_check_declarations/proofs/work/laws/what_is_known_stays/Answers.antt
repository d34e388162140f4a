use Rattle.dslx_check_declarations.proofs.OnWork.OnLearnt.{known_stays, nothing_known}
use Rattle.dslx_check_declarations.proofs.work.laws.what_is_known_stays.Goals as goal

pub returns-clause-goes_on : goal.returns-clause-goes_on
returns-clause-goes_on c = known_stays

pub returns-clause-nothing : goal.returns-clause-nothing
returns-clause-nothing c = nothing_known
