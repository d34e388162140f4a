use Rattle.std.proofs.Common.{◌≡◌, ◌≤◌, ◌+◌, ℕ, List, [], ◌∷◌, Some, length, map, refl, sym, ap, ◌∙◌, arith}
use Rattle.std.proofs.lemmas.List.{length-map}
use Rattle.task_queue.specs.declared.seat.Seat.{Seat}
use Rattle.task_queue.specs.Seats.{Each, HasRoomAt, HasRoomIf, numbers_below, seat_number}
use Rattle.task_queue.specs.Passes.{seats}
use Rattle.net_tests.proofs.task_lines.two_passes.Goals as goal

rooms : {N T : Type 0} (d n m : ℕ) (xs : List (Seat N T)) → m ≤ n → Each (HasRoomAt n) xs → Each (HasRoomIf d m) xs
rooms d n m [] less all = tt
rooms d n m (x ∷ xs) less all = ((λ e. let has = all.0 in omega (arith, has, less)), rooms d n m xs less all.1)

pub split-second-requires-clause-pass : goal.split-second-requires-clause-pass
split-second-requires-clause-pass c = (c.in_ok-queue.ensures.is, c.in_ok-queue.ensures.dealt)

pub split-second-requires-clause-two : goal.split-second-requires-clause-two
split-second-requires-clause-two c =
    let two : length (numbers_below 2) ≡ 2 = refl in
    omega (arith, length-map (seats c.in_ok-queue.first) seat_number, ap length c.in_ok-queue.ensures.owned_are, two)

pub returns-clause-first : goal.returns-clause-first
returns-clause-first c =
    let new = c.in_ok-queue.ensures in
    let split = c.split-second.ensures in
    let first = c.split-second.new.pass.first.number in
    (split.passes.0, (split.room first 4 (rooms first (2 + 2) 4 (seats c.in_ok-queue.first) (omega arith) new.rooms)).0.0 refl, (split.run (Some 5) new.knows).0)

pub returns-clause-second : goal.returns-clause-second
returns-clause-second c =
    let new = c.in_ok-queue.ensures in
    let split = c.split-second.ensures in
    let first = c.split-second.result.first.number in
    (split.passes.1, (split.room first 4 (rooms first (2 + 2) 4 (seats c.in_ok-queue.first) (omega arith) new.rooms)).1.0 refl, (split.run (Some 5) new.knows).1)
