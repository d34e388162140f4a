use Rattle.std.proofs.Common.{sym, subst, ◌∙◌}
use Rattle.std.specs.Prelude.{slice_get}
use Rattle.task_queue.specs.declared.lane.deque.Lane.{Lane}
use Rattle.task_queue.specs.Lane.Handles.{IsLane, IsThiefOf, lane_deque}
use Rattle.task_queue.proofs.OnSeats.Halves.{united, right_on}
use Rattle.task_queue.proofs.exchange.unite.Goals as goal

pub give_back-requires-clause-lane : goal.give_back-requires-clause-lane
give_back-requires-clause-lane g c = c.requires.seat_a.lane

pub give_back-requires-clause-right : goal.give_back-requires-clause-right
give_back-requires-clause-right g c = let may = c.requires in right_on c.args.b.now c.args.a.now may.windows may.seat_b may.seat_a may.right_b

pub give_back-requires-2-clause-lane : goal.give_back-requires-2-clause-lane
give_back-requires-2-clause-lane g c = subst (λ (l : Lane _ _). IsLane l) (sym c.give_back.ensures.thief_lane) c.requires.seat_b.lane

pub give_back-requires-2-clause-right : goal.give_back-requires-2-clause-right
give_back-requires-2-clause-right g c =
    let may = c.requires in
    let back = c.give_back.ensures in
    let on = right_on c.args.a.now c.args.b.now may.windows may.seat_a may.seat_b may.right_a in (
      on.0,
      (λ i. slice_get (back.kept i).items (back.thief_number i)) ∙ on.1,
      subst (λ (l : Lane _ _). IsThiefOf (lane_deque l) on.0) (sym back.thief_lane) on.2,
    )

pub returns : goal.returns
returns g c = united c.args.a.now c.args.b.now c.give_back.new.owner c.give_back.new.thief c.give_back-2.new.thief c.give_back-2.new.owner c.requires c.give_back.ensures c.give_back-2.ensures
