use Rattle.std.proofs.Common.{List, subst}
use Rattle.std.proofs.lemmas.Result.{on_ok_weaker}
use Rattle.dslx_meaning.specs.declared.value.DslxValue.{DslxValue}
use Rattle.dslx_check_facts.specs.Walks.{shown}
use Rattle.dslx_check_facts.proofs.Lemmas.Walks.{grows_trans, misses_grows}
use Rattle.dslx_check_judge.specs.Instances.Judged.{JudgesInstance}
use Rattle.dslx_check_tasks.proofs.OnInstances.{instance_goes}
use Rattle.dslx_check_tasks.proofs.Lemmas.Standing.{postponed}
use Rattle.dslx_check_tasks.proofs.work.Work.walk_instance.Goals as goal

pub returns-then-is_missing : goal.returns-then-is_missing
returns-then-is_missing c = on_ok_weaker c.postpone.result
    (λ e. postponed c.what_is_known.ensures.stays c.args.self.now c.postpone.new.self c.begin.new.w c.sums_if.new.w c.begin.ensures
    (grows_trans (shown c.begin.new.w) (shown c.instance_seen.new.w) (shown c.sums_if.new.w) c.in_ok-seen.ensures.grows (misses_grows (shown c.instance_seen.new.w) (shown c.sums_if.new.w) c.in_ok-sums.ensures.misses)) e)
    c.postpone.ensures

pub returns-else-is_missing : goal.returns-else-is_missing
returns-else-is_missing c = on_ok_weaker c.tell_instance.result
    (λ tells. instance_goes c.what_is_known.ensures.holds c.what_is_known.ensures.stays c.what_is_known.ensures.instance_known c.what_is_known.ensures.instance_there c.args.self.now c.tell_instance.new.self c.begin.new.w
    c.instance_seen.new.w c.sums_if.new.w c.args.instance c.args.key.now c.args.own.now c.in_ok-seen.seen c.begin.ensures
    (subst (λ (vs : List DslxValue). JudgesInstance c.args.self.now.facts (shown c.begin.new.w) (shown c.instance_seen.new.w) c.args.key.now.item c.args.own.now vs c.in_ok-seen.seen) c.as_slice-args.ensures c.in_ok-seen.ensures) c.in_ok-sums.ensures.misses
    (c.is_missing.ensures.none c.if-is_missing.false) c.requires.key c.requires.own c.in_ok-sums.sums c.in_ok-sums.ensures.sums tells)
    c.tell_instance.ensures
