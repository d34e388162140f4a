use Rattle.dslx_core.proofs.OnTyping.OnComplete.OfConstants.{parametric_has_value}
use Rattle.dslx_core.proofs.OnTyping.OnComplete.OfInstances.{instance_has_value}
use Rattle.dslx_core.proofs.OnTyping.OnComplete.OfTypes.{own_parametric_args}
use Rattle.dslx_core.proofs.typing.complete.functions.functions_are_known.Goals as goal

pub returns-clause-parametric : goal.returns-clause-parametric
returns-clause-parametric c = parametric_has_value

pub returns-clause-instance : goal.returns-clause-instance
returns-clause-instance c = instance_has_value

pub returns-clause-fits : goal.returns-clause-fits
returns-clause-fits c = own_parametric_args
