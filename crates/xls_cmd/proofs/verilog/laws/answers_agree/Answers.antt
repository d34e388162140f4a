use Rattle.xls_cmd.proofs.OnVerilog.Steps.{verilog_agrees}
use Rattle.xls_cmd.proofs.verilog.laws.answers_agree.Goals as goal

pub returns : goal.returns
returns c = verilog_agrees (record {
  read = c.one_package.ensures;
  list = c.one_list.ensures;
  first = c.one_infeasible.ensures;
  either = c.schedules_or_infeasible.ensures;
})
