use Rattle.dslx_check_tasks.specs.Standing.{FindsTop}
use Rattle.dslx_check_tasks.proofs.Lemmas.Standing.{stays}
use Rattle.std.proofs.lemmas.Result.{IfOk-weaker}
use Rattle.dslx_check_tasks.proofs.OnTops.{no_top, of_no_top, of_top}
use Rattle.dslx_check_tasks.proofs.work.Work.judge_top.Goals as goal

pub returns-in-None : goal.returns-in-None
returns-in-None c = record {
  goes = stays c.args.self.now;
  found = λ o h. of_no_top c.args.self.now.facts o c.args.top c.in-None.is h (λ x. FindsTop c.args.self.now c.args.self.now x c.nothing_reached.result)
      (no_top c.args.self.now c.nothing_reached.result c.nothing_reached.ensures.faults c.nothing_reached.ensures.reached);
}

pub returns-in-Some : goal.returns-in-Some
returns-in-Some c = record {
  goes = c.find_top.ensures.goes;
  found = IfOk-weaker c.find_top.result _ _ (λ r f o h. of_top c.args.self.now.facts o c.args.top c.in-Some.own c.in-Some.is h (λ x. FindsTop c.args.self.now c.find_top.new.self x r) f) c.find_top.ensures.found;
}
