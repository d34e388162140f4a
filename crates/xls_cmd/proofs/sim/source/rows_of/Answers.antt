use Rattle.xls_cmd.specs.Sim.Simulation.{at_fault, says, too_many}
use Rattle.xls_cmd.proofs.OnSim.Steps.{few_rows}
use Rattle.xls_cmd.proofs.sim.source.rows_of.Goals as goal

pub returns-in-Ok-clause-says : goal.returns-in-Ok-clause-says
returns-in-Ok-clause-says c = says c.in-Ok.rows c.in-Ok.ensures

pub returns-in-Ok-clause-fits : goal.returns-in-Ok-clause-fits
returns-in-Ok-clause-fits c = c.rows_fit.ensures c.args.design.now c.args.file.now c.in-Ok.rows c.requires.runs c.in-Ok.ensures

pub returns-in-Ok-clause-few : goal.returns-in-Ok-clause-few
returns-in-Ok-clause-few c = few_rows c.args.design.now c.args.file.now c.in-Ok.rows c.in-Ok.ensures

pub returns-in-Err-Input-clause-refused : goal.returns-in-Err-Input-clause-refused
returns-in-Err-Input-clause-refused c = (at_fault c.in-Err-Input.cause c.in-Err-Input.at (rw c.in-Err-Input.field-0-is at c.in-Err-Input.ensures), tt)

pub returns-in-Err-Over-clause-refused : goal.returns-in-Err-Over-clause-refused
returns-in-Err-Over-clause-refused c = (too_many c.in-Err-Over.limit (rw c.in-Err-Over.field-0-is at c.in-Err-Over.ensures), tt)
