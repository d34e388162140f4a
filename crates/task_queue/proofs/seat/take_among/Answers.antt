use Rattle.std.proofs.Common.{◌<◌, ◌++◌, ◌∷◌, [], length, refl, sym, ◌∙◌, arith}
use Rattle.std.proofs.lemmas.Option.{slice_get_read}
use Rattle.task_queue.specs.Lane.Handles.{lane_knows}
use Rattle.task_queue.specs.Inner.Looks.{IsAnyLane}
use Rattle.task_queue.proofs.Lists.{each_at}
use Rattle.task_queue.proofs.OnSeats.Looks.{looks_none, look_length, looks_more, looks_all, look_keeps, look_finds}
use Rattle.task_queue.proofs.seat.take_among.Goals as goal

pub loop-k-init : goal.loop-k-init
loop-k-init g c = (looks_none c.args.seats.now.items, refl)

pub take-requires : goal.take-requires
take-requires g c =
    let now = c.loop-k.seats.items in
    let x = c.index_mut.result.now in
    let is = c.loop-k.invariant.0 in
    let inside : c.loop-k.k < length now = omega (arith, c.loop-k-test.true, c.len-k-end.ensures, c.args.seats.now.ok.0, look_length c.args.seats.now.items c.loop-k.seats.items c.loop-k.k c.loop-k.invariant.0) in
    let at = slice_get_read now _ c.loop-k.k x refl inside c.index_mut.ensures.value in
    each_at IsAnyLane c.args.seats.now.items c.loop-k.k x c.requires (sym (is.left c.loop-k.k (omega arith)) ∙ at)

pub loop-k-preserved : goal.loop-k-preserved
loop-k-preserved g c =
    let now = c.loop-k.seats.items in
    let x = c.index_mut.result.now in
    let inside : c.loop-k.k < length now = omega (arith, c.loop-k-test.true, c.len-k-end.ensures, c.args.seats.now.ok.0, look_length c.args.seats.now.items c.loop-k.seats.items c.loop-k.k c.loop-k.invariant.0) in
    let at = slice_get_read now _ c.loop-k.k x refl inside c.index_mut.ensures.value in
    let lane = c.in_default.ensures.lane in
    let told = c.in_default.ensures.taken in
    (looks_more c.args.seats.now.items now c.loop-k.k x c.take.new.self c.loop-k.invariant.0 at (lane_knows x.lane).taken lane.0 lane.1 lane.2 told.0 refl told.1, c.loop-k.invariant.1)

pub returns-in-Some-clause-keep : goal.returns-in-Some-clause-keep
returns-in-Some-clause-keep g c ws =
    let now = c.loop-k.seats.items in
    let x = c.index_mut.result.now in
    let inside : c.loop-k.k < length now = omega (arith, c.loop-k-test.true, c.len-k-end.ensures, c.args.seats.now.ok.0, look_length c.args.seats.now.items c.loop-k.seats.items c.loop-k.k c.loop-k.invariant.0) in
    let at = slice_get_read now _ c.loop-k.k x refl inside c.index_mut.ensures.value in
    let lane = c.in-Some.ensures.lane in
    look_keeps c.args.seats.now.items now c.loop-k.k x c.take.new.self c.loop-k.invariant.0 at ((lane_knows x.lane).taken ++ g.T.Numbered.number_of c.in-Some.task ∷ []) lane.0 lane.1 lane.2 c.in-Some.ensures.taken.0 ws

pub returns-in-Some-clause-taken : goal.returns-in-Some-clause-taken
returns-in-Some-clause-taken g c =
    let now = c.loop-k.seats.items in
    let x = c.index_mut.result.now in
    let inside : c.loop-k.k < length now = omega (arith, c.loop-k-test.true, c.len-k-end.ensures, c.args.seats.now.ok.0, look_length c.args.seats.now.items c.loop-k.seats.items c.loop-k.k c.loop-k.invariant.0) in
    let at = slice_get_read now _ c.loop-k.k x refl inside c.index_mut.ensures.value in
    let lane = c.in-Some.ensures.lane in
    let told = c.in-Some.ensures.taken in
    look_finds c.args.seats.now.items now c.loop-k.k x c.take.new.self c.loop-k.invariant.0 at ((lane_knows x.lane).taken ++ g.T.Numbered.number_of c.in-Some.task ∷ []) lane.0 lane.1 lane.2 told.0 g.T.Numbered.number_of g.T.Numbered.run_of
    g.T.Numbered.fact c.in-Some.task refl told.1 told.2

pub returns-clause-keep : goal.returns-clause-keep
returns-clause-keep g c ws = c.loop-k.invariant.0.keep ws

pub returns-clause-taken : goal.returns-clause-taken
returns-clause-taken g c =
    let is = c.loop-k.invariant.0 in
    (is.taken, looks_all c.args.seats.now.items c.loop-k.seats.items c.loop-k.k is (omega (arith, c.loop-k-test.false, c.len-k-end.ensures, c.args.seats.now.ok.0, look_length c.args.seats.now.items c.loop-k.seats.items c.loop-k.k c.loop-k.invariant.0)))
