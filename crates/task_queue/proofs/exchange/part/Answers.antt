use Rattle.std.proofs.Common.{◌<◌, sym, subst}
use Rattle.task_queue.specs.declared.lane.deque.Lane.{Lane}
use Rattle.task_queue.specs.Lane.Handles.{IsLane, lane_knows}
use Rattle.task_queue.proofs.OnSeats.Halves.{parted, may_lend}
use Rattle.task_queue.proofs.exchange.part.Goals as goal

pub lend-requires-clause-lane : goal.lend-requires-clause-lane
lend-requires-clause-lane g c =
    let may = c.requires in
    (may.seat_a.lane, may_lend c.args.a.now c.args.b.now may.windows may.few may.seat_a may.dealt_a may.right_a)

pub lend-requires-2-clause-lane : goal.lend-requires-2-clause-lane
lend-requires-2-clause-lane g c =
    let may = c.requires in
    subst (λ (l : Lane _ _). IsLane l × (1 < (lane_knows l).parts)) (sym c.lend.ensures.thief_lane) (may.seat_b.lane, may_lend c.args.b.now c.args.a.now may.windows may.few may.seat_b may.dealt_b may.right_b)

pub returns : goal.returns
returns g c = parted c.args.a.now c.args.b.now c.lend.new.owner c.lend.new.thief c.lend-2.new.thief c.lend-2.new.owner c.requires c.lend.ensures c.lend-2.ensures
