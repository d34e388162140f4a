use Rattle.xls_cmd.proofs.OnLowered.Steps.{ir_agrees}
use Rattle.xls_cmd.proofs.lowered.laws.answers_agree.Goals as goal

pub returns : goal.returns
returns c = ir_agrees c.one_module.ensures
