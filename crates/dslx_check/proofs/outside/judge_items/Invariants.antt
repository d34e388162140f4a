-- the first items are judged
use Rattle.dslx_check.specs.Finds.{FindsFirst}
use Rattle.dslx_check_tasks.specs.Standing.{WorkGoesOn}
use Rattle.dslx_check.proofs.outside.judge_items.Given as goal

abbrev pub invariant-items : goal.invariant-items
invariant-items l = record {
  goes : WorkGoesOn l.fn.work l.work;
  found : FindsFirst l.item l.fn.work l.work l.all;
}
