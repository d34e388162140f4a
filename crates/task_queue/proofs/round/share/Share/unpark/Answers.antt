use Rattle.std.proofs.Common.{◌≡◌, ◌+◌, [], ◌∷◌, length, refl, sym, ap, ◌∙◌, arith, rules}
use Rattle.std.proofs.lemmas.List.{length-append}
use Rattle.task_queue.proofs.OnRound.Turns.{same_pass, goes_none, goes_then, rests, unparks, task_last, knows_task}
use Rattle.task_queue.proofs.round.share.Share.unpark.Goals as goal

pub loop-task-init : goal.loop-task-init
loop-task-init g c = (c.requires.share, goes_none g.T.Numbered.number_of g.T.Numbered.run_of g.T.Numbered.fact c.args.self.now, (λ n has. has), refl)

pub put-requires-clause-room : goal.put-requires-clause-room
put-requires-clause-room g c =
    let has = c.loop-task.invariant.2 0 c.requires.room in
    let longer = ap length c.in-Some.ensures.items in
    omega (arith, has, longer, length-append c.pop.new.self.items (c.in-Some.task ∷ []))

pub put-requires-clause-run : goal.put-requires-clause-run
put-requires-clause-run g c =
    let is = c.loop-task.invariant.0 in
    knows_task g.T.Numbered.number_of g.T.Numbered.run_of g.T.Numbered.fact c.args.queue.now c.loop-task.self is c.loop-task.self.pass c.in-Some.task (same_pass c.loop-task.self.pass)
    (task_last g.T.Numbered.number_of g.T.Numbered.run_of g.T.Numbered.fact is.runtime c.loop-task.self.parked.items c.pop.new.self.items c.in-Some.task is.each c.in-Some.ensures.items).0

pub put-requires-clause-fact : goal.put-requires-clause-fact
put-requires-clause-fact g c =
    let is = c.loop-task.invariant.0 in
    (task_last g.T.Numbered.number_of g.T.Numbered.run_of g.T.Numbered.fact is.runtime c.loop-task.self.parked.items c.pop.new.self.items c.in-Some.task is.each c.in-Some.ensures.items).1

pub loop-task-preserved : goal.loop-task-preserved
loop-task-preserved g c =
    let is = c.loop-task.invariant in
    let share = c.loop-task.self in
    let new = record share { pass = c.put.new.pass; parked = c.pop.new.self } in
    let longer = ap length c.in-Some.ensures.items in
    let longer_is = length-append c.pop.new.self.items (c.in-Some.task ∷ []) in
    let step = unparks g.T.Numbered.number_of g.T.Numbered.run_of g.T.Numbered.fact c.args.queue.now share is.0 c.pop.new.self.items c.in-Some.task new c.in-Some.ensures.items c.put.ensures.pass.0 c.put.ensures.pass.1 refl c.put.ensures.put in (
      step.0,
      goes_then g.T.Numbered.number_of g.T.Numbered.run_of g.T.Numbered.fact c.args.queue.now c.args.self.now share new is.1 step.1,
      (λ n has. let mine = is.2 n has in c.put.ensures.room (length c.pop.new.self.items + n) (omega (arith, mine, longer, longer_is))),
      is.3,
    )

pub returns-clause-share : goal.returns-clause-share
returns-clause-share g c =
    let is = c.loop-task.invariant in
    let share = c.loop-task.self in
    let empty : share.parked.items ≡ [] = search rules in
    let now : c.pop.new.self.items ≡ [] = search rules in
    let new = record share { parked = c.pop.new.self } in
    let step = rests g.T.Numbered.number_of g.T.Numbered.run_of g.T.Numbered.fact c.args.queue.now share is.0 new is.0.pass_is (same_pass c.loop-task.self.pass) (now ∙ sym empty) (λ h. refl) (λ h. refl) in
    (step.0, goes_then g.T.Numbered.number_of g.T.Numbered.run_of g.T.Numbered.fact c.args.queue.now c.args.self.now share new is.1 step.1)

pub returns-clause-room : goal.returns-clause-room
returns-clause-room g c n has =
    let empty : c.loop-task.self.parked.items ≡ [] = search rules in
    let now : c.pop.new.self.items ≡ [] = search rules in
    let before_length = ap length empty in
    let now_length = ap length now in
    let mine = c.loop-task.invariant.2 n has in
    omega (arith, mine, before_length, now_length)
