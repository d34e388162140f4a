use Rattle.std.proofs.Common.{◌∙◌, arith, sym}
use Rattle.dslx_check_tasks.proofs.Lemmas.Standing.{stays, steps}
use Rattle.dslx_check.proofs.OnFound.{all_few, all_many, first_ones, next_one}
use Rattle.dslx_check.proofs.found.judge_instances.Goals as goal

pub instances-init : goal.instances-init
instances-init c = record {
  goes = stays c.args.work.now;
  found = λ starts right are. first_ones c.args.work.now c.args.start.now starts c.none-faults.result c.none-faults.ensures c.new-all.result.keys c.add_all.new.all.keys c.new-all.ensures.empty c.in_ok-add_all.ensures are;
}

pub instances-preserved : goal.instances-preserved
instances-preserved c = record {
  goes = steps c.args.work.now c.instances.work c.judge_reached.new.work c.instances.invariant.goes c.in_ok-own-in-Some.ensures.goes;
  found = λ starts right are. next_one c.args.work.now c.instances.work c.judge_reached.new.work starts c.instances.all.keys c.judge_reached.new.all.keys c.instances.next c.in-Some.instance c.instances.faults c.in_ok-own-in-Some.own c.and-faults.result
      right c.instances.invariant.goes c.in_ok-own-in-Some.ensures.goes (c.instances.invariant.found starts right are) (sym c.number_at.ensures ∙ c.in-Some.is) c.in_ok-own-in-Some.ensures.found c.and-faults.ensures;
}

pub returns-in-None : goal.returns-in-None
returns-in-None c = record {
  goes = c.instances.invariant.goes;
  found = λ starts right are. all_few c.args.work.now c.instances.work starts c.instances.all.keys c.instances.next c.instances.faults (c.instances.invariant.found starts right are) (sym c.number_at.ensures ∙ c.in-None.is) (omega arith);
}

pub returns-then-is_past : goal.returns-then-is_past
returns-then-is_past c = record {
  goes = c.instances.invariant.goes;
  found = λ starts right are. all_many c.args.work.now c.instances.work starts c.instances.all.keys c.instances.next c.instances.faults right (c.instances.invariant.found starts right are) (c.in_ok-is_past.ensures c.if-is_past.true);
}
