use Rattle.xls_cmd.proofs.Answering.{expected_is_one, expected_agrees}
use Rattle.xls_cmd.proofs.laws.one_answer.Goals as goal

pub returns-clause-one : goal.returns-clause-one
returns-clause-one c = expected_is_one (record {
  check = c.one_answer.ensures.check;
  run = c.one_answer.ensures.run;
  run_ir = c.one_answer-2.ensures;
  sim = c.one_answer-3.ensures;
  schedule_ir = c.one_answer-4.ensures;
  opt = c.answers_agree.ensures;
  verilog_ir = c.answers_agree-2.ensures;
  ir = c.answers_agree-3.ensures;
})

pub returns-clause-agrees : goal.returns-clause-agrees
returns-clause-agrees c = expected_agrees (record {
  check = c.one_answer.ensures.check;
  run = c.one_answer.ensures.run;
  run_ir = c.one_answer-2.ensures;
  sim = c.one_answer-3.ensures;
  schedule_ir = c.one_answer-4.ensures;
  opt = c.answers_agree.ensures;
  verilog_ir = c.answers_agree-2.ensures;
  ir = c.answers_agree-3.ensures;
})
