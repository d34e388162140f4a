use Rattle.std.proofs.Common.{◌≡◌, ◌+◌, [], ◌∷◌, List, length, refl, ap, ◌∙◌, subst, arith, rules}
use Rattle.std.proofs.lemmas.List.{length-append}
use Rattle.task_queue.specs.Passes.{KnowsRun, sum_numbers}
use Rattle.task_queue.proofs.OnRound.Turns.{same_pass, same_then, task_last, tasks_less, numbers_more}
use Rattle.task_queue.proofs.round.rounds.put_all.Goals as goal

pub loop-task-init : goal.loop-task-init
loop-task-init g c = (c.requires.pass, same_pass c.args.pass.now, (λ runtime all. all), (λ h. refl), (λ h. refl), λ n has. has)

pub put-requires-clause-room : goal.put-requires-clause-room
put-requires-clause-room g c =
    let has = c.loop-task.invariant.5 0 (let first = c.requires.room in omega (arith, first)) in
    let longer = ap length c.in-Some.ensures.items in
    omega (arith, has, longer, length-append c.pop.new.self.items (c.in-Some.task ∷ []))

pub put-requires-clause-run : goal.put-requires-clause-run
put-requires-clause-run g c =
    let runtime = c.requires.run.0 in
    let is = (task_last g.T.Numbered.number_of g.T.Numbered.run_of g.T.Numbered.fact runtime c.loop-task.tasks.items c.pop.new.self.items c.in-Some.task (c.loop-task.invariant.2 runtime c.requires.run.2) c.in-Some.ensures.items).0 in
    subst (λ r. KnowsRun r c.loop-task.pass) is (c.loop-task.invariant.1.run runtime c.requires.run.1)

pub put-requires-clause-fact : goal.put-requires-clause-fact
put-requires-clause-fact g c =
    let runtime = c.requires.run.0 in
    (task_last g.T.Numbered.number_of g.T.Numbered.run_of g.T.Numbered.fact runtime c.loop-task.tasks.items c.pop.new.self.items c.in-Some.task (c.loop-task.invariant.2 runtime c.requires.run.2) c.in-Some.ensures.items).1

pub loop-task-preserved : goal.loop-task-preserved
loop-task-preserved g c =
    let is = c.loop-task.invariant in
    let rest = c.pop.new.self.items in
    let split = c.in-Some.ensures.items in
    let longer = ap length split in
    let longer_is = length-append rest (c.in-Some.task ∷ []) in (
      c.put.ensures.pass.0,
      same_then c.args.pass.now c.loop-task.pass c.put.new.pass is.1 c.put.ensures.pass.1,
      (λ runtime all. tasks_less g.T.Numbered.number_of g.T.Numbered.run_of g.T.Numbered.fact runtime c.loop-task.tasks.items rest c.in-Some.task (is.2 runtime all) split),
      (λ h. omega (arith, is.3 h, (c.put.ensures.put h).0, numbers_more g.T.Numbered.number_of g.T.Numbered.run_of g.T.Numbered.fact h c.loop-task.tasks.items rest c.in-Some.task split)),
      (λ h. (c.put.ensures.put h).1 ∙ is.4 h),
      (λ n has. let mine = is.5 n has in c.put.ensures.room (length rest + n) (omega (arith, mine, longer, longer_is))),
    )

pub returns : goal.returns
returns g c =
    let is = c.loop-task.invariant in
    let empty : c.loop-task.tasks.items ≡ [] = search rules in
    let none = ap length empty in
    record {
      is = is.0;
      same = is.1;
      put = λ h. omega (arith, is.3 h, ap (λ (xs : List _). sum_numbers g.T.Numbered.number_of h xs) empty);
      taken = is.4;
      room = λ n has. let mine = is.5 n has in omega (arith, mine, none);
    }
