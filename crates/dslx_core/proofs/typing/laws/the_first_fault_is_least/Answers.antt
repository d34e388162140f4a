use Rattle.dslx_core.proofs.OnTyping.OnLaws.Orders.{least_fault}
use Rattle.dslx_meaning.specs.Rules.ModuleRules.{faults_of}
use Rattle.dslx_core.proofs.typing.laws.the_first_fault_is_least.Goals as goal

pub returns : goal.returns
returns c = λ m top f e. least_fault (faults_of m top) f e
