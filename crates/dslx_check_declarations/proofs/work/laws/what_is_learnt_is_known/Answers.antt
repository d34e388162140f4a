use Rattle.dslx_check_declarations.proofs.OnWork.OnLearnt.{instance_known, item_known, part_known}
use Rattle.dslx_check_declarations.proofs.work.laws.what_is_learnt_is_known.Goals as goal

pub returns-clause-item : goal.returns-clause-item
returns-clause-item c = λ old new before after known item seen k g l is. item_known old new before after known item seen k g l is

pub returns-clause-instance : goal.returns-clause-instance
returns-clause-instance c = λ old new walk known instance sums k l is. instance_known old new walk known instance sums k l is

pub returns-clause-part : goal.returns-clause-part
returns-clause-part c = λ old new walk known number there k l is. part_known old new walk known number there k l is
