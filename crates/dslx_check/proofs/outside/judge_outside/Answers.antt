use Rattle.dslx_check_tasks.proofs.Lemmas.Standing.{steps}
use Rattle.dslx_check.proofs.OnOutside.{outside_added, same_if}
use Rattle.dslx_check.proofs.outside.judge_outside.Goals as goal

pub returns : goal.returns
returns c = record {
  goes = steps c.args.work.now c.judge_items.new.work c.judge_top.new.self c.in_ok-all.ensures.goes c.in_ok-of_top.ensures.goes;
  found = λ o h. outside_added c.args.work.now c.judge_items.new.work c.judge_top.new.self o c.in_ok-all.all c.in_ok-of_top.of_top c.add_to.new.all c.in_ok-all.ensures.goes c.in_ok-of_top.ensures.goes c.in_ok-all.ensures.found
      (c.in_ok-of_top.ensures.found o (same_if c.args.work.now.facts c.judge_items.new.work.facts o c.args.top c.in_ok-all.ensures.goes.text h)) c.in_ok-add_to.ensures;
}
