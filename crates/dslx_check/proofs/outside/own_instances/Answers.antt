use Rattle.std.proofs.Common.{arith}
use Rattle.dslx_check_tasks.proofs.Lemmas.Standing.{stays, steps}
use Rattle.dslx_check.proofs.OnOutside.{all_own, no_own, one_own}
use Rattle.dslx_check.proofs.outside.own_instances.Goals as goal

pub items-init : goal.items-init
items-init c = record { goes = stays c.args.work.now; found = no_own c.args.work.now c.new-own.result.items c.new-own.ensures.items }

pub items-preserved : goal.items-preserved
items-preserved c = record {
  goes = steps c.args.work.now c.items.work c.add_own.new.work c.items.invariant.goes c.in_ok-add_own.ensures.goes;
  found = one_own c.args.work.now c.items.work c.add_own.new.work c.items.item c.items.own.items c.add_own.new.own.items c.items.invariant.goes c.in_ok-add_own.ensures.goes (omega (arith, c.len-count.ensures))
      c.items.invariant.found c.in_ok-add_own.ensures.adds;
}

pub returns : goal.returns
returns c = record {
  goes = c.items.invariant.goes;
  found = all_own c.args.work.now c.items.work c.items.item c.items.own.items (omega (arith, c.len-count.ensures)) c.items.invariant.found;
}
