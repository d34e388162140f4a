use Rattle.std.proofs.Common.{refl}
use Rattle.dslx_check_tasks.proofs.Lemmas.Standing.{missed_on}
use Rattle.dslx_check_tasks.proofs.work.Work.waits.Goals as goal

pub returns : goal.returns
returns c = record {
  goes = missed_on c.what_is_known.ensures.stays c.args.self.now c.begin.new.w c.miss_mentioned.new.w c.begin.ensures c.in_ok-miss_mentioned.ensures;
  rest = refl;
}
