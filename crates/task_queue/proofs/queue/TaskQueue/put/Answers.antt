use Rattle.std.proofs.Common.{◌++◌, ◌∷◌, [], ◌∙◌, ap, arith}
use Rattle.std.proofs.lemmas.List.Sums.{sum_by-cons}
use Rattle.task_queue.specs.Lane.Handles.{lane_knows}
use Rattle.task_queue.specs.Seats.{tally_put, tally_taken, seat_put, seat_taken}
use Rattle.task_queue.proofs.OnSeats.Looks.{lane_keeps, more_by}
use Rattle.task_queue.proofs.OnPasses.{put_keeps, put_same}
use Rattle.task_queue.proofs.queue.TaskQueue.put.Goals as goal

pub returns-clause-pass : goal.returns-clause-pass
returns-clause-pass g c =
    let x = c.args.pass.now.first in
    let first = record x { lane = c.put.new.self } in
    let keep = lane_keeps c.args.self.now.windows.items x c.put.new.self ((lane_knows x.lane).put ++ g.T.Numbered.number_of c.args.task ∷ []) (lane_knows x.lane).taken c.put.ensures.lane.0 c.put.ensures.lane.1.deque c.put.ensures.put in
    (put_keeps c.args.self.now c.args.pass.now first c.requires.pass keep, put_same c.args.self.now c.args.pass.now first c.requires.pass keep)

pub returns-clause-room : goal.returns-clause-room
returns-clause-room g c n has = omega (arith, has, c.put.ensures.lane.1.room, c.put.ensures.lane.2)

pub returns-clause-put : goal.returns-clause-put
returns-clause-put g c h =
    let x = c.args.pass.now.first in
    let more = c.args.pass.now.more.items in
    let first = record x { lane = c.put.new.self } in
    let put = ap (tally_put h) c.put.ensures.put ∙ more_by h (lane_knows x.lane).put (g.T.Numbered.number_of c.args.task) in
    let taken = ap (tally_taken h) c.put.ensures.put in (
      omega (arith, put, sum_by-cons (seat_put h) x more, sum_by-cons (seat_put h) first more),
      omega (arith, taken, sum_by-cons (seat_taken h) x more, sum_by-cons (seat_taken h) first more),
    )
