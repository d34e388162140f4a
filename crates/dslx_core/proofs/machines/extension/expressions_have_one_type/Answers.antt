use Rattle.dslx_core.proofs.Lemmas.Machines.Extension.OneType.{one_type}
use Rattle.dslx_core.proofs.machines.extension.expressions_have_one_type.Goals as goal

pub returns : goal.returns
returns c = one_type
