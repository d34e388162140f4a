use Rattle.xls_cmd.proofs.OnIr.Steps.{texts_are_one}
use Rattle.xls_cmd.proofs.ir.laws.one_answer.Goals as goal

pub returns : goal.returns
returns c = texts_are_one c.one_package.ensures c.one_answer.ensures.inputs
