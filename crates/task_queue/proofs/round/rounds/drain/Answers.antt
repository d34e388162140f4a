use Rattle.std.proofs.Common.{List, refl, ap, ◌∙◌, arith}
use Rattle.task_queue.specs.Passes.{sum_numbers}
use Rattle.task_queue.proofs.OnRound.Turns.{tasks_none, tasks_more, numbers_more}
use Rattle.task_queue.proofs.OnRound.Jobs.{owns_same}
use Rattle.task_queue.proofs.round.rounds.drain.Goals as goal

pub loop-init : goal.loop-init
loop-init g c =
    let empty = c.new-tasks.ensures.items in (
      c.requires.0,
      c.requires.1,
      c.requires.2,
      (λ h. (refl, let none = ap (λ (ts : List _). sum_numbers g.T.Numbered.number_of h ts) empty in omega (arith, none))),
      λ runtime knows. (knows, tasks_none g.T.Numbered.number_of g.T.Numbered.run_of g.T.Numbered.fact runtime c.new-tasks.result.items empty),
    )

pub loop-preserved : goal.loop-preserved
loop-preserved g c =
    let is = c.loop.invariant in
    let took = c.in-Some-take.ensures in
    let pushed = c.in_ok-push-in-Some-take.ensures.items in (
      took.pass.0,
      owns_same c.args.queue.now c.loop.pass c.take.new.pass took.pass.1 is.1,
      took.pass.1.dealt is.2,
      (λ h. (
        took.put h ∙ (is.3 h).0,
        omega (arith, took.taken.0 h, (is.3 h).1, numbers_more g.T.Numbered.number_of g.T.Numbered.run_of g.T.Numbered.fact h c.push.new.self.items c.loop.tasks.items c.in-Some-take.task pushed),
      )),
      λ runtime knows.
          let was = is.4 runtime knows in (
            took.pass.1.run runtime was.0,
            tasks_more g.T.Numbered.number_of g.T.Numbered.run_of g.T.Numbered.fact runtime c.loop.tasks.items c.push.new.self.items c.in-Some-take.task was.1 pushed (took.taken.1 runtime was.0) took.taken.2,
          ),
    )

pub returns-in-None-take-clause-all : goal.returns-in-None-take-clause-all
returns-in-None-take-clause-all g c h =
    let is = c.loop.invariant in
    let none = c.in-None-take.ensures in
    omega (arith, (is.3 h).0, (is.3 h).1, none.put h, none.taken.0 h, none.all is.1 is.2 h)

pub returns-in-None-take-clause-tasks : goal.returns-in-None-take-clause-tasks
returns-in-None-take-clause-tasks g c runtime knows = (c.loop.invariant.4 runtime knows).1
