use Rattle.std.proofs.Common.{◌≡◌, [], List, refl, sym, ap, ◌∙◌, arith, rules, Some}
use Rattle.task_queue.specs.Passes.{sum_numbers}
use Rattle.task_queue.proofs.OnRound.Turns.{still_more, tasks_more, task_last, tasks_less, numbers_more}
use Rattle.task_queue.proofs.round.rounds.try_all.Goals as goal

pub loop-task-init : goal.loop-task-init
loop-task-init g c = ((λ runtime all. all), (λ runtime all mine. mine), (λ h. refl), λ still waits. waits still)

pub has_moved-requires : goal.has_moved-requires
has_moved-requires g c =
    (task_last g.T.Numbered.number_of g.T.Numbered.run_of g.T.Numbered.fact c.requires.0 c.loop-task.rest.items c.pop.new.self.items c.in-Some.task (c.loop-task.invariant.0 c.requires.0 c.requires.1) c.in-Some.ensures.items).1

pub loop-task-preserved : goal.loop-task-preserved
loop-task-preserved g c =
    let is = c.loop-task.invariant in
    let split = c.in-Some.ensures.items in
    let task = c.has_moved.new.task in
    let rest = c.pop.new.self.items in (
      (λ runtime all. tasks_less g.T.Numbered.number_of g.T.Numbered.run_of g.T.Numbered.fact runtime c.loop-task.rest.items rest c.in-Some.task (is.0 runtime all) split),
      (λ runtime all mine.
          let last = task_last g.T.Numbered.number_of g.T.Numbered.run_of g.T.Numbered.fact runtime c.loop-task.rest.items rest c.in-Some.task (is.0 runtime all) split in
          tasks_more g.T.Numbered.number_of g.T.Numbered.run_of g.T.Numbered.fact runtime c.loop-task.tasks.items c.push.new.self.items task (is.1 runtime all mine) c.in_ok-push.ensures.items (last.0 ∙ sym (ap Some c.has_moved.ensures.same.1)) c.has_moved.ensures.fact),
      (λ h.
          omega (
            arith,
            is.2 h,
            numbers_more g.T.Numbered.number_of g.T.Numbered.run_of g.T.Numbered.fact h c.loop-task.rest.items rest c.in-Some.task split,
            numbers_more g.T.Numbered.number_of g.T.Numbered.run_of g.T.Numbered.fact h c.push.new.self.items c.loop-task.tasks.items task c.in_ok-push.ensures.items,
            ap h c.has_moved.ensures.same.0,
          )),
      (λ still was.
          let tried = c.in_ok-moved.ensures.waits still in
          still_more g.T.Steps.waits c.loop-task.tasks.items c.push.new.self.items task (is.3 tried.0 was) c.in_ok-push.ensures.items tried.1),
    )

pub returns-clause-all : goal.returns-clause-all
returns-clause-all g c h =
    let empty : c.loop-task.rest.items ≡ [] = search rules in
    omega (arith, c.loop-task.invariant.2 h, ap (λ (xs : List _). sum_numbers g.T.Numbered.number_of h xs) empty)
