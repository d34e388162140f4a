use Rattle.dslx_core.proofs.OnTyping.OnLaws.Orders.{none_without_faults}
use Rattle.dslx_meaning.specs.Rules.ModuleRules.{faults_of}
use Rattle.dslx_core.proofs.typing.laws.accepted_without_faults.Goals as goal

pub returns : goal.returns
returns c = λ m top. none_without_faults (faults_of m top)
