-- those of the first items are met
use Rattle.dslx_check.specs.Finds.{FindsFirstOwn}
use Rattle.dslx_check_tasks.specs.Standing.{WorkGoesOn}
use Rattle.dslx_check.proofs.outside.own_instances.Given as goal

abbrev pub invariant-items : goal.invariant-items
invariant-items l = record {
  goes : WorkGoesOn l.fn.work l.work;
  found : FindsFirstOwn l.item l.fn.work l.work l.own.items;
}
