use Rattle.std.proofs.Common.{◌≡◌, ◌+◌, ℕ, suc, List, [], ◌∷◌, length, refl, ap, subst, ◌∙◌, arith}
use Rattle.std.proofs.lemmas.List.{length-append}
use Rattle.std.proofs.lemmas.List.Sums.{sum_by_push}
use Rattle.task_queue.specs.Tasks.{sum_below}
use Rattle.task_queue.specs.Passes.{sum_numbers}
use Rattle.net_tests.specs.declared.rounds.Counter.{Counter}
use Rattle.net_tests.proofs.rounds.counters.Goals as goal

pub loop-number-init : goal.loop-number-init
loop-number-init c =
    let empty = c.new-tasks.ensures.items in (
      ap length empty,
      (λ k task e. (refl, tt)),
      (λ h. ap (λ (xs : List Counter). sum_numbers (λ (task : Counter). task.number) h xs) empty),
      omega arith,
    )

pub loop-number-preserved : goal.loop-number-preserved
loop-number-preserved c =
    let is = c.loop-number.invariant in
    let pushed = c.in_ok-push.ensures.items in
    let next : c.loop-number.number + 1 ≡ suc c.loop-number.number = omega arith in (
      omega (arith, is.0, ap length pushed, length-append c.loop-number.tasks.items ((record { number = c.loop-number.number; left = 100 }) ∷ [])),
      (λ k task e. (refl, tt)),
      (λ h.
          omega (
            arith,
            is.2 h,
            ap (λ (xs : List Counter). sum_numbers (λ (task : Counter). task.number) h xs) pushed,
            sum_by_push (λ (task : Counter). h task.number) c.loop-number.tasks.items (record { number = c.loop-number.number; left = 100 }),
            ap (sum_below h) next,
          )),
      omega (arith, c.loop-number-test.true),
    )

pub returns : goal.returns
returns c =
    let is = c.loop-number.invariant in
    let end : c.loop-number.number ≡ c.args.count = omega (arith, is.3, c.loop-number-test.false) in
    (is.0 ∙ end, is.1, λ h. is.2 h ∙ ap (sum_below h) end)
