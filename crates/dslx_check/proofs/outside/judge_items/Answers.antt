use Rattle.std.proofs.Common.{arith}
use Rattle.dslx_check_tasks.proofs.Lemmas.Standing.{stays, steps}
use Rattle.dslx_check.proofs.OnOutside.{all_items, none_found, one_found}
use Rattle.dslx_check.proofs.outside.judge_items.Goals as goal

pub items-init : goal.items-init
items-init c = record { goes = stays c.args.work.now; found = none_found c.args.work.now c.nothing_reached-all.result c.nothing_reached-all.ensures.faults c.nothing_reached-all.ensures.reached }

pub items-preserved : goal.items-preserved
items-preserved c = record {
  goes = steps c.args.work.now c.items.work c.settle.new.self c.items.invariant.goes c.in_ok-settle.ensures;
  found = one_found c.args.work.now c.items.work c.settle.new.self c.items.item c.items.all c.add_item.new.all c.items.invariant.goes c.in_ok-settle.ensures (omega (arith, c.len-count.ensures)) c.items.invariant.found c.in_ok-add_item.ensures;
}

pub returns : goal.returns
returns c = record {
  goes = c.items.invariant.goes;
  found = all_items c.args.work.now c.items.work c.items.item c.items.all (omega (arith, c.len-count.ensures)) c.items.invariant.found;
}
