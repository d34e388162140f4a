use Rattle.std.proofs.Common.{◌∙◌, arith}
use Rattle.std.proofs.lemmas.Result.{IfOk-weaker}
use Rattle.task_queue.proofs.OnRound.Jobs.{room_left}
use Rattle.task_queue.proofs.round.rounds.deal.Goals as goal

pub put_all-requires-clause-pass : goal.put_all-requires-clause-pass
put_all-requires-clause-pass g c = c.requires.pass.1.is

pub put_all-requires-clause-room : goal.put_all-requires-clause-room
put_all-requires-clause-room g c = let room = c.requires.pass.1.rooms.0 in omega (arith, room)

pub put_all-requires-clause-run : goal.put_all-requires-clause-run
put_all-requires-clause-run g c = (c.requires.pass.0, c.requires.pass.1.knows, c.requires.pass.2)

pub split_all-requires-clause-pass : goal.split_all-requires-clause-pass
split_all-requires-clause-pass g c =
    let new = c.requires.pass.1 in
    let put = c.put_all.ensures in
    (put.is, put.same.dealt new.dealt, put.same.owned_are ∙ new.owned_are, omega (arith, put.same.places_are, new.places_are))

pub split_all-requires-clause-room : goal.split_all-requires-clause-room
split_all-requires-clause-room g c = room_left g.T.Numbered.number_of c.args.queue.now c.requires.pass.0 c.args.workers c.args.tasks.items c.args.pass c.put_all.new.pass c.requires.pass.1 c.put_all.ensures

pub returns : goal.returns
returns g c = IfOk-weaker c.split_all.result _ _ (λ jobs are runtime new. (c.put_all.new.pass, c.put_all.ensures, are runtime (c.put_all.ensures.same.run runtime new.knows))) c.split_all.ensures
