use Rattle.xls_cmd.proofs.OnSchedule.Steps.{schedule_is_one}
use Rattle.xls_cmd.proofs.schedule.laws.one_answer.Goals as goal

pub returns : goal.returns
returns c = schedule_is_one (record {
  read = c.one_package.ensures;
  list = c.one_list.ensures;
  first = c.one_infeasible.ensures;
  either = c.schedules_or_infeasible.ensures;
})
