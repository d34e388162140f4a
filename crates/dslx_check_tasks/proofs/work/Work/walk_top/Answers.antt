use Rattle.std.proofs.Common.{refl}
use Rattle.dslx_check_tasks.proofs.Lemmas.Standing.{postponed, walked_on}
use Rattle.dslx_check_tasks.proofs.OnTops.{top_walked}
use Rattle.dslx_check_tasks.proofs.work.Work.walk_top.Goals as goal

pub returns-in_ok-extend_from_slice : goal.returns-in_ok-extend_from_slice
returns-in_ok-extend_from_slice c = record {
  goes = postponed c.what_is_known.ensures.stays c.args.self.now (record c.args.self.now { walk = c.top_seen.new.w; tasks = c.extend_from_slice.new.self }) c.begin.new.w c.top_seen.new.w c.begin.ensures c.in_ok-seen.ensures.grows refl;
  found = λ p at. tt;
}

pub returns-in_ok-reaches : goal.returns-in_ok-reaches
returns-in_ok-reaches c = record {
  goes = walked_on c.what_is_known.ensures.stays c.args.self.now c.begin.new.w c.top_seen.new.w c.begin.ensures c.in_ok-seen.ensures.grows;
  found = λ p at. top_walked c.what_is_known.ensures.holds c.args.self.now c.begin.new.w c.top_seen.new.w c.args.item c.args.process.now p c.in_ok-seen.seen c.in_ok-reaches.reaches c.begin.ensures c.in_ok-seen.ensures
      (c.is_missing.ensures.none c.if-is_missing.false) at c.in_ok-reaches.ensures.faults c.in_ok-reaches.ensures.reached;
}
