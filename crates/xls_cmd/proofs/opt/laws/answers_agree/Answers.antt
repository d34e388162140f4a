use Rattle.xls_cmd.proofs.OnOpt.Steps.{opt_agrees}
use Rattle.xls_cmd.proofs.opt.laws.answers_agree.Goals as goal

pub returns : goal.returns
returns c = opt_agrees c.one_module.ensures c.one_package.ensures
