use Rattle.std.proofs.Common.{◌≡◌, ◌+◌, suc, List, [], ◌∷◌, ◌++◌, map, sym, ap, ◌∙◌, subst, arith}
use Rattle.std.proofs.lemmas.List.{map-append}
use Rattle.task_queue.specs.declared.seat.Seat.{Seat}
use Rattle.task_queue.specs.Seats.{Each, numbers_below, seat_number}
use Rattle.task_queue.specs.Inner.Making.{IsNewSeat, HaveOpened}
use Rattle.task_queue.proofs.Lists.{each_append, each_weaker}
use Rattle.task_queue.proofs.OnMaking.{opened_none, opened_then, still_new}
use Rattle.task_queue.proofs.making.open_others.Goals as goal

pub loop-number-init : goal.loop-number-init
loop-number-init g c =
    let empty = c.in_ok-more.ensures.items in (
      subst (Each (IsNewSeat c.args.run (c.args.count + c.args.turns) c.args.workers c.args.windows.now.items)) (sym empty) tt,
      ap (λ (xs : List (Seat _ _)). 0 ∷ map seat_number xs) empty,
      omega (arith, c.in_ok-more.ensures.capacity),
      opened_none c.args.windows.now.items c.requires.windows.1 c.requires.windows.0,
      omega arith,
      c.requires.workers,
    )

pub open_seat-requires : goal.open_seat-requires
open_seat-requires g c = let opened = c.loop-number.invariant.3 in (opened.length_is, opened.windows)

pub loop-number-preserved : goal.loop-number-preserved
loop-number-preserved g c =
    let is = c.loop-number.invariant in
    let seat = c.in_ok-seat.seat in
    let new = c.in_ok-seat.ensures.seat in
    let grown = c.in_ok-seat.ensures.windows in
    let pushed = c.in_ok-push.ensures.items in
    let IsNew = IsNewSeat c.args.run (c.args.count + c.args.turns) c.args.workers c.open_seat.new.windows.items in
    let next : suc c.loop-number.number ≡ c.loop-number.number + 1 = omega arith in (
      subst (Each IsNew) (sym pushed)
          (each_append IsNew c.loop-number.more.items (seat ∷ [])
          (each_weaker (IsNewSeat c.args.run (c.args.count + c.args.turns) c.args.workers c.loop-number.windows.items) IsNew c.loop-number.more.items
          (λ x old. still_new c.args.run (c.args.count + c.args.turns) c.args.workers (c.loop-number.number + 1) c.loop-number.windows.items c.open_seat.new.windows.items x grown (omega (arith, is.3.length_is)) old) is.0)
          (new.0, tt)),
      ap (λ (xs : List (Seat _ _)). 0 ∷ map seat_number xs) pushed
          ∙ (ap (λ ns. 0 ∷ ns) (map-append seat_number c.loop-number.more.items (seat ∷ [])) ∙ ((λ i. is.1 i ++ new.1 i ∷ []) ∙ ap numbers_below next)),
      omega (arith, is.2, c.in_ok-push.ensures.capacity),
      opened_then c.args.windows.now.items c.loop-number.windows.items c.open_seat.new.windows.items c.loop-number.number (c.loop-number.number + 1) (omega arith) (omega (arith, c.requires.windows.0, is.4)) is.3 grown,
      omega (arith, is.4),
      omega (arith, c.loop-number-test.true),
    )

pub returns-clause-seats : goal.returns-clause-seats
returns-clause-seats g c =
    let is = c.loop-number.invariant in
    let end : c.loop-number.number ≡ c.args.workers = omega (arith, is.5, c.loop-number-test.false) in
    (is.0, is.1 ∙ ap numbers_below end, is.2)

pub returns-clause-windows : goal.returns-clause-windows
returns-clause-windows g c =
    let is = c.loop-number.invariant in
    let end : c.loop-number.number ≡ c.args.workers = omega (arith, is.5, c.loop-number-test.false) in
    subst (λ n. HaveOpened n c.args.windows.now.items c.loop-number.windows.items) end is.3
