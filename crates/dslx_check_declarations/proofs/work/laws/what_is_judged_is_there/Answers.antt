use Rattle.dslx_check_declarations.proofs.OnWork.OnInstances.{instance_done}
use Rattle.dslx_check_declarations.proofs.OnWork.OnItems.{item_judged}
use Rattle.dslx_check_declarations.proofs.OnWork.OnParts.{part_judged}
use Rattle.dslx_check_declarations.proofs.work.laws.what_is_judged_is_there.Goals as goal

pub returns-clause-item : goal.returns-clause-item
returns-clause-item c = λ f walk known item x seen t settle e comes. item_judged f walk known item seen t settle x e comes

pub returns-clause-instance : goal.returns-clause-instance
returns-clause-instance c = λ f walk known instance item own sums t settle e comes. instance_done f walk known instance sums t settle item own e comes

pub returns-clause-part : goal.returns-clause-part
returns-clause-part c = part_judged
