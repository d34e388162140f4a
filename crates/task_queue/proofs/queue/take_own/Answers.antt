use Rattle.std.proofs.Common.{◌++◌, ◌∷◌, [], arith}
use Rattle.task_queue.specs.Lane.Handles.{lane_knows}
use Rattle.task_queue.proofs.OnSeats.Looks.{keep_refl, keep_cons, lane_takes, own_finds, own_then}
use Rattle.task_queue.proofs.queue.take_own.Goals as goal

pub returns-in-Some-clause-keep : goal.returns-in-Some-clause-keep
returns-in-Some-clause-keep g c ws =
    let x = c.args.pass.now.first in
    let more = c.args.pass.now.more.items in
    let lane = c.in-Some.ensures.lane in
    keep_cons ws x (record x { lane = c.take.new.self }) more more
    (lane_takes ws x c.take.new.self ((lane_knows x.lane).taken ++ g.T.Numbered.number_of c.in-Some.task ∷ []) lane.0 lane.1 lane.2 c.in-Some.ensures.taken.0) (keep_refl ws more)

pub returns-in-Some-clause-room : goal.returns-in-Some-clause-room
returns-in-Some-clause-room g c n has = let lane = c.in-Some.ensures.lane in omega (arith, has, lane.1.room, lane.2)

pub returns-in-Some-clause-taken : goal.returns-in-Some-clause-taken
returns-in-Some-clause-taken g c =
    let lane = c.in-Some.ensures.lane in
    let told = c.in-Some.ensures.taken in
    own_finds g.T.Numbered.number_of g.T.Numbered.run_of g.T.Numbered.fact c.args.pass.now.first c.take.new.self c.args.pass.now.more.items lane.0 lane.1 lane.2 c.in-Some.task told.0 told.1 told.2

pub returns-in-None-clause-keep : goal.returns-in-None-clause-keep
returns-in-None-clause-keep g c ws =
    let x = c.args.pass.now.first in
    let lane = c.in-None.ensures.lane in
    keep_cons ws x (record x { lane = c.take.new.self }) c.args.pass.now.more.items c.take_among.new.seats.items
    (lane_takes ws x c.take.new.self (lane_knows x.lane).taken lane.0 lane.1 lane.2 c.in-None.ensures.taken.0) (c.take_among.ensures.keep ws)

pub returns-in-None-clause-room : goal.returns-in-None-clause-room
returns-in-None-clause-room g c n has = let lane = c.in-None.ensures.lane in omega (arith, has, lane.1.room, lane.2)

pub returns-in-None-clause-taken : goal.returns-in-None-clause-taken
returns-in-None-clause-taken g c =
    let told = c.in-None.ensures.taken in
    own_then g.T.Numbered.number_of g.T.Numbered.run_of g.T.Numbered.fact c.args.pass.now.first c.take.new.self c.args.pass.now.more.items c.take_among.new.seats.items told.0 told.1 c.take_among.result c.take_among.ensures.taken
