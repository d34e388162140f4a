use Rattle.std.proofs.Common.{◌+◌, suc, ◌∷◌, [], length, refl, ap, sym, ◌∙◌, arith, Some}
use Rattle.std.proofs.lemmas.List.{length-append}
use Rattle.task_queue.proofs.OnRound.Turns.{goes_then, rests, puts_again, parks, knows_task}
use Rattle.task_queue.proofs.round.worker.turn.Goals as goal

pub wait-requires-clause-share : goal.wait-requires-clause-share
wait-requires-clause-share g c =
    let share = c.args.share.now in
    (rests g.T.Numbered.number_of g.T.Numbered.run_of g.T.Numbered.fact c.args.queue.now share c.requires.share (record share { pass = c.take.new.pass }) c.in-None.ensures.pass.0 c.in-None.ensures.pass.1 refl c.in-None.ensures.put c.in-None.ensures.taken.0).0

pub wait-requires-clause-room : goal.wait-requires-clause-room
wait-requires-clause-room g c = let has = c.in-None.ensures.room (length c.args.share.now.parked.items + 1) c.requires.room in omega (arith, has)

pub returns-in-None-clause-share : goal.returns-in-None-clause-share
returns-in-None-clause-share g c =
    let share = c.args.share.now in
    let mid = record share { pass = c.take.new.pass } in
    let step = rests g.T.Numbered.number_of g.T.Numbered.run_of g.T.Numbered.fact c.args.queue.now share c.requires.share mid c.in-None.ensures.pass.0 c.in-None.ensures.pass.1 refl c.in-None.ensures.put c.in-None.ensures.taken.0 in
    (c.wait.ensures.share.0, goes_then g.T.Numbered.number_of g.T.Numbered.run_of g.T.Numbered.fact c.args.queue.now share mid _ step.1 c.wait.ensures.share.1)

pub returns-in-None-clause-room : goal.returns-in-None-clause-room
returns-in-None-clause-room g c n has = c.wait.ensures.room n (let here = c.in-None.ensures.room (length c.args.share.now.parked.items + suc n) has in omega (arith, here))

pub put-requires-clause-room : goal.put-requires-clause-room
put-requires-clause-room g c = let has = c.in-Some.ensures.room (length c.args.share.now.parked.items + 1) c.requires.room in omega (arith, has)

pub put-requires-clause-run : goal.put-requires-clause-run
put-requires-clause-run g c =
    let is = c.requires.share in
    knows_task g.T.Numbered.number_of g.T.Numbered.run_of g.T.Numbered.fact c.args.queue.now c.args.share.now is c.take.new.pass c.make_events.new.self c.in-Some.ensures.pass.1
    (c.in-Some.ensures.taken.1 is.runtime is.knows ∙ sym (ap Some c.make_events.ensures.same.1))

pub returns-then-made-gt0-clause-share : goal.returns-then-made-gt0-clause-share
returns-then-made-gt0-clause-share g c =
    let share = c.args.share.now in
    puts_again g.T.Numbered.number_of g.T.Numbered.run_of g.T.Numbered.fact c.args.queue.now share c.requires.share c.take.new.pass (g.T.Numbered.number_of c.in-Some.task) c.in-Some.ensures.pass.1 c.in-Some.ensures.put
    c.in-Some.ensures.taken.0 (g.T.Numbered.number_of c.make_events.new.self) _ c.make_events.ensures.same.0 c.put.ensures.pass.0 c.put.ensures.pass.1 refl c.put.ensures.put

pub returns-then-made-gt0-clause-room : goal.returns-then-made-gt0-clause-room
returns-then-made-gt0-clause-room g c n has =
    let count = length c.args.share.now.parked.items in
    c.put.ensures.room (count + n) (let here = c.in-Some.ensures.room (count + suc n) has in omega (arith, here))

pub returns-in_ok-push-in-Some-clause-share : goal.returns-in_ok-push-in-Some-clause-share
returns-in_ok-push-in-Some-clause-share g c =
    let share = c.args.share.now in
    let is = c.requires.share in
    parks g.T.Numbered.number_of g.T.Numbered.run_of g.T.Numbered.fact c.args.queue.now share is c.take.new.pass (g.T.Numbered.number_of c.in-Some.task) c.in-Some.ensures.pass.1 c.in-Some.ensures.put
    c.in-Some.ensures.taken.0 c.make_events.new.self _ c.make_events.ensures.same.0 (c.in-Some.ensures.taken.1 is.runtime is.knows ∙ sym (ap Some c.make_events.ensures.same.1)) c.make_events.ensures.fact c.in-Some.ensures.pass.0 refl
    c.in_ok-push-in-Some.ensures.items

pub returns-in_ok-push-in-Some-clause-room : goal.returns-in_ok-push-in-Some-clause-room
returns-in_ok-push-in-Some-clause-room g c n has =
    let parked = c.args.share.now.parked.items in
    let longer = ap length c.in_ok-push-in-Some.ensures.items in
    let here = c.in-Some.ensures.room (length parked + suc n) has in
    omega (arith, here, longer, length-append parked (c.make_events.new.self ∷ []))
