use Rattle.xls_cmd.specs.Design.Commands.{says, at_fault}
use Rattle.xls_cmd.proofs.design.source.inputs_of.Goals as goal

pub returns-in-Ok-clause-says : goal.returns-in-Ok-clause-says
returns-in-Ok-clause-says c = says c.in-Ok.inputs c.in-Ok.ensures.reads

pub returns-in-Err-Input-clause-refused : goal.returns-in-Err-Input-clause-refused
returns-in-Err-Input-clause-refused c = (at_fault c.in-Err-Input.cause c.in-Err-Input.at (rw c.in-Err-Input.field-0-is at c.in-Err-Input.ensures.reads), tt)
