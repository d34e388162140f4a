use Rattle.xls_cmd.proofs.OnDesign.Steps.{check_is_one, inputs_is_one, texts_are_one}
use Rattle.xls_cmd.proofs.design.laws.one_answer.Goals as goal

pub returns-clause-check : goal.returns-clause-check
returns-clause-check c = check_is_one c.one_module.ensures

pub returns-clause-run : goal.returns-clause-run
returns-clause-run c = texts_are_one c.one_module.ensures

pub returns-clause-inputs : goal.returns-clause-inputs
returns-clause-inputs c = inputs_is_one
