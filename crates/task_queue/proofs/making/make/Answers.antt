use Rattle.std.proofs.Common.{◌+◌, ◌∷◌, List, map, refl, sym, ap, ◌∙◌, arith}
use Rattle.std.specs.Prelude.{slice_get}
use Rattle.task_queue.specs.declared.lane.deque.Window.{Window}
use Rattle.task_queue.specs.Seats.{seat_number}
use Rattle.task_queue.proofs.Lists.{none_there}
use Rattle.task_queue.proofs.OnMaking.{still_new, new_pass}
use Rattle.task_queue.proofs.making.make.Goals as goal

pub open_seat-requires : goal.open_seat-requires
open_seat-requires g c =
    let empty = c.new-windows.ensures.items in
    (omega (arith, c.new-windows.ensures.len, c.new-windows.result.ok.0), λ k w e. absurd (none_there k w (ap (λ (ws : List (Window _ _)). slice_get ws k) (sym empty) ∙ e)))

pub open_others-requires-clause-windows : goal.open_others-requires-clause-windows
open_others-requires-clause-windows g c = let grown = c.in_ok-first.ensures.windows in (omega (arith, grown.length_is), grown.windows)

pub returns : goal.returns
returns g c =
    let room = c.args.count + c.args.turns in
    let first = c.in_ok-first.ensures in
    let more = c.in_ok-more.ensures in
    let ws = c.open_others.new.windows.items in
    let still = still_new c.args.run room c.args.workers c.args.workers c.open_seat.new.windows.items ws c.in_ok-first.first more.windows (omega (arith, first.windows.length_is, c.requires.0)) first.seat.0 in
    new_pass c.args.run room c.args.workers ws more.windows.length_is (record { windows = c.open_others.new.windows }) (record { first = c.in_ok-first.first; more = c.in_ok-more.more }) refl c.requires.1 more.windows.windows
    (still, more.seats.0) (ap (λ n. n ∷ map seat_number c.in_ok-more.more.items) first.seat.1 ∙ more.seats.1) (omega (arith, more.seats.2))
