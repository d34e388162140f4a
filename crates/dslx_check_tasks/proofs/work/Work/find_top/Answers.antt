use Rattle.std.proofs.Common.{Some, subst}
use Rattle.std.specs.Prelude.{MatchOption}
use Rattle.dslx_check_tasks.specs.Standing.{FindsTop}
use Rattle.dslx_check_tasks.proofs.Lemmas.Standing.{same_top, stays, steps}
use Rattle.dslx_check_tasks.proofs.OnTops.{later_top}
use Rattle.dslx_check_tasks.proofs.work.Work.find_top.Goals as goal

pub steps-init : goal.steps-init
steps-init c = stays c.args.self.now

pub returns-in-Some : goal.returns-in-Some
returns-in-Some c = record {
  goes = steps c.args.self.now c.steps.self c.walk_top.new.self c.steps.invariant c.in_ok-reaches.ensures.goes;
  found = λ p at. later_top c.args.self.now c.steps.self c.walk_top.new.self (Some p) c.in-Some.reaches c.steps.invariant
      (subst (λ o. MatchOption o Unit (FindsTop c.steps.self c.walk_top.new.self (Some p))) c.in-Some.is
      (c.in_ok-reaches.ensures.found p (same_top c.args.self.now.facts c.steps.self.facts c.args.item c.args.process.now p c.steps.invariant.text at)));
}

pub steps-preserved : goal.steps-preserved
steps-preserved c = steps c.args.self.now c.walk_top.new.self c.work_off.new.self (steps c.args.self.now c.steps.self c.walk_top.new.self c.steps.invariant c.in_ok-reaches.ensures.goes) c.in_ok-work_off-in-None.ensures
