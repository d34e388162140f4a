use Rattle.std.proofs.Common.{◌∙◌, ◌++◌, ap, refl}
use Rattle.dslx_check_tasks.proofs.Lemmas.Standing.{steps}
use Rattle.dslx_check.proofs.OnOutside.{same_if}
use Rattle.dslx_check.proofs.OnWhole.{all_broken}
use Rattle.dslx_check.proofs.checking.find_broken.Goals as goal

pub returns : goal.returns
returns c =
    let start = c.in_ok-start.start.items in
    let start_is = c.as_slice-all.ensures.value ∙ c.in_ok-extend_from_slice.ensures.items ∙ ap (λ l. start ++ l) c.as_slice-more.ensures.value in
    record {
      goes = steps c.args.work.now c.judge_outside.new.work c.judge_instances.new.work
          (steps c.args.work.now c.own_instances.new.work c.judge_outside.new.work c.in_ok-start.ensures.goes c.in_ok-outside.ensures.goes) c.in_ok-inside.ensures.goes;
      found = λ o right h. all_broken c.args.work.now c.own_instances.new.work c.judge_outside.new.work o start c.as_slice-all.result.now c.in_ok-outside.outside c.in_ok-inside.inside _ right c.in_ok-start.ensures.goes c.in_ok-outside.ensures.goes
          c.in_ok-start.ensures.found (c.in_ok-outside.ensures.found o (same_if c.args.work.now.facts c.own_instances.new.work.facts o c.args.top c.in_ok-start.ensures.goes.text h)) start_is c.in_ok-inside.ensures.found refl refl;
    }
