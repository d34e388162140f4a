use Rattle.std.proofs.Common.{refl, ◌≡◌, ◌+◌, length, List, Some, None, sym, ap, subst, ◌∙◌, arith}
use Rattle.std.specs.Prelude.{nat_le, position}
use Rattle.pipe_schedule.specs.declared.slot.Slot.{Slot}
use Rattle.pipe_schedule.specs.declared.schedule.NoSchedule.TheVariants.{Stages, Interval}
use Rattle.pipe_schedule.specs.Timed.{timed_proc}
use Rattle.pipe_schedule.specs.Legal.{greatest, turn_stage}
use Rattle.pipe_schedule.specs.Answer.{IsCause, HasNone}
use Rattle.pipe_schedule.specs.Inner.Delays.{timed_within}
use Rattle.pipe_schedule.specs.Inner.Slots.{stages_of, turn_within, AreUpTo}
use Rattle.pipe_schedule.proofs.Ready.{ready}
use Rattle.pipe_schedule.proofs.Schedules.{slow_cause, late_cause, rare_cause, causes_leave_none, schedule_is, few_stages, low_greatest, up_to_greatest, turn_under, turn_same, err_handed, is_none}
use Rattle.pipe_schedule.proofs.schedule.schedule_proc.Goals as goal

pub returns-in_err-slots-clause-cause : goal.returns-in_err-slots-clause-cause
returns-in_err-slots-clause-cause c =
    let r = ready c.args.proc.now c.requires.verified in
    err_handed c.from_residual.result c.in_err-slots.field-0.0 (IsCause (timed_proc c.args.proc.now) c.args.demands) c.from_residual.ensures.1
    (slow_cause c.args.proc.now c.args.demands c.in_err-slots.field-0.0 r c.in_err-slots.ensures.slow)

pub returns-in_err-slots-clause-none : goal.returns-in_err-slots-clause-none
returns-in_err-slots-clause-none c =
    let r = ready c.args.proc.now c.requires.verified in
    err_handed c.from_residual.result c.in_err-slots.field-0.0 (HasNone (timed_proc c.args.proc.now) c.args.demands) c.from_residual.ensures.1
    (causes_leave_none (timed_proc c.args.proc.now) c.args.demands c.in_err-slots.field-0.0 (slow_cause c.args.proc.now c.args.demands c.in_err-slots.field-0.0 r c.in_err-slots.ensures.slow))

pub overflow_add-need : goal.overflow_add-need
overflow_add-need c =
    let low = low_greatest (timed_within c.args.proc.now) c.args.demands.clock c.in_ok-slots.slots.items c.in_ok-slots.ensures.slots in
    let same : c.last_stage-need.result ≡ greatest (stages_of c.in_ok-slots.slots.items) = c.last_stage-need.ensures ∙ ap (λ xs. greatest (stages_of xs)) c.deref-in-Some.ensures.value in
    let size : length c.deref-in-Some.result.now ≡ length c.in_ok-slots.slots.items = ap (λ (xs : List Slot). length xs) c.deref-in-Some.ensures.value in
    omega (arith, low, same, size, c.deref-in-Some.type_inv)

pub returns-in-Some-clause-cause : goal.returns-in-Some-clause-cause
returns-in-Some-clause-cause c =
    let r = ready c.args.proc.now c.requires.verified in
    let found : position (λ (s : Slot). nat_le c.args.demands.stages s.stage) c.in_ok-slots.slots.items ≡ Some c.in-Some.node =
    ap (λ (xs : List Slot). position (λ (s : Slot). nat_le c.args.demands.stages s.stage) xs) (sym c.deref.ensures.value) ∙ sym c.first_late.ensures ∙ c.in-Some.is in
    let need : c.last_stage-need.result + 1 ≡ greatest (stages_of c.in_ok-slots.slots.items) + 1 = ap (λ n. n + 1) (c.last_stage-need.ensures ∙ ap (λ xs. greatest (stages_of xs)) c.deref-in-Some.ensures.value) in
    late_cause c.args.proc.now c.args.demands c.in_ok-slots.slots.items c.in-Some.node (c.last_stage-need.result + 1) r c.in_ok-slots.ensures.slots found need

pub returns-in-Some-clause-none : goal.returns-in-Some-clause-none
returns-in-Some-clause-none c =
    let r = ready c.args.proc.now c.requires.verified in
    let found : position (λ (s : Slot). nat_le c.args.demands.stages s.stage) c.in_ok-slots.slots.items ≡ Some c.in-Some.node =
    ap (λ (xs : List Slot). position (λ (s : Slot). nat_le c.args.demands.stages s.stage) xs) (sym c.deref.ensures.value) ∙ sym c.first_late.ensures ∙ c.in-Some.is in
    let need : c.last_stage-need.result + 1 ≡ greatest (stages_of c.in_ok-slots.slots.items) + 1 = ap (λ n. n + 1) (c.last_stage-need.ensures ∙ ap (λ xs. greatest (stages_of xs)) c.deref-in-Some.ensures.value) in
    causes_leave_none (timed_proc c.args.proc.now) c.args.demands (Stages c.in-Some.node (c.last_stage-need.result + 1))
    (late_cause c.args.proc.now c.args.demands c.in_ok-slots.slots.items c.in-Some.node (c.last_stage-need.result + 1) r c.in_ok-slots.ensures.slots found need)

pub overflow_add-result : goal.overflow_add-result
overflow_add-result c =
    let low = low_greatest (timed_within c.args.proc.now) c.args.demands.clock c.in_ok-slots.slots.items c.in_ok-slots.ensures.slots in
    let turn : c.turn_stage-turn.result ≡ turn_stage (timed_proc c.args.proc.now) (stages_of c.in_ok-slots.slots.items) =
    c.turn_stage-turn.ensures ∙ ap (λ xs. turn_within c.args.proc.now (stages_of xs)) c.deref-2.ensures.value ∙ turn_same c.args.proc.now (stages_of c.in_ok-slots.slots.items) in
    let under = turn_under (timed_proc c.args.proc.now) (stages_of c.in_ok-slots.slots.items) in
    let size : length c.deref-2.result.now ≡ length c.in_ok-slots.slots.items = ap (λ (xs : List Slot). length xs) c.deref-2.ensures.value in
    omega (arith, low, turn, under, size, c.deref-2.type_inv)

pub returns-then-from-turn-clause-cause : goal.returns-then-from-turn-clause-cause
returns-then-from-turn-clause-cause c =
    let r = ready c.args.proc.now c.requires.verified in
    let none : position (λ (s : Slot). nat_le c.args.demands.stages s.stage) c.in_ok-slots.slots.items ≡ None =
    ap (λ (xs : List Slot). position (λ (s : Slot). nat_le c.args.demands.stages s.stage) xs) (sym c.deref.ensures.value) ∙ sym c.first_late.ensures ∙ is_none c.first_late.result c.in_default.not-Some in
    let turn : c.turn_stage-turn.result ≡ turn_within c.args.proc.now (stages_of c.in_ok-slots.slots.items) =
    c.turn_stage-turn.ensures ∙ ap (λ xs. turn_within c.args.proc.now (stages_of xs)) c.deref-2.ensures.value in
    let more = c.if-from-turn.true in
    let from = c.from.ensures in
    rare_cause c.args.proc.now c.args.demands c.in_ok-slots.slots.items c.turn_stage-turn.result (c.turn_stage-turn.result + 1) r c.in_ok-slots.ensures.slots c.requires.some none turn (omega arith) (omega arith)

pub returns-then-from-turn-clause-none : goal.returns-then-from-turn-clause-none
returns-then-from-turn-clause-none c =
    let r = ready c.args.proc.now c.requires.verified in
    let none : position (λ (s : Slot). nat_le c.args.demands.stages s.stage) c.in_ok-slots.slots.items ≡ None =
    ap (λ (xs : List Slot). position (λ (s : Slot). nat_le c.args.demands.stages s.stage) xs) (sym c.deref.ensures.value) ∙ sym c.first_late.ensures ∙ is_none c.first_late.result c.in_default.not-Some in
    let turn : c.turn_stage-turn.result ≡ turn_within c.args.proc.now (stages_of c.in_ok-slots.slots.items) =
    c.turn_stage-turn.ensures ∙ ap (λ xs. turn_within c.args.proc.now (stages_of xs)) c.deref-2.ensures.value in
    let more = c.if-from-turn.true in
    let from = c.from.ensures in
    causes_leave_none (timed_proc c.args.proc.now) c.args.demands (Interval (c.turn_stage-turn.result + 1))
    (rare_cause c.args.proc.now c.args.demands c.in_ok-slots.slots.items c.turn_stage-turn.result (c.turn_stage-turn.result + 1) r c.in_ok-slots.ensures.slots c.requires.some none turn (omega arith) (omega arith))

pub stages_of-requires : goal.stages_of-requires
stages_of-requires c =
    let none : position (λ (s : Slot). nat_le c.args.demands.stages s.stage) c.in_ok-slots.slots.items ≡ None =
    ap (λ (xs : List Slot). position (λ (s : Slot). nat_le c.args.demands.stages s.stage) xs) (sym c.deref.ensures.value) ∙ sym c.first_late.ensures ∙ is_none c.first_late.result c.in_default.not-Some in
    let few = few_stages c.args.demands.stages c.in_ok-slots.slots.items c.requires.some none in
    subst (λ xs. AreUpTo xs 4294967295) (sym c.deref-3.ensures.value) (up_to_greatest c.in_ok-slots.slots.items 4294967295 (omega (arith, few)))

pub overflow_cast-result : goal.overflow_cast-result
overflow_cast-result c =
    let none : position (λ (s : Slot). nat_le c.args.demands.stages s.stage) c.in_ok-slots.slots.items ≡ None =
    ap (λ (xs : List Slot). position (λ (s : Slot). nat_le c.args.demands.stages s.stage) xs) (sym c.deref.ensures.value) ∙ sym c.first_late.ensures ∙ is_none c.first_late.result c.in_default.not-Some in
    let few = few_stages c.args.demands.stages c.in_ok-slots.slots.items c.requires.some none in
    let same : c.last_stage.result ≡ greatest (stages_of c.in_ok-slots.slots.items) = c.last_stage.ensures ∙ ap (λ xs. greatest (stages_of xs)) c.deref-4.ensures.value in
    omega (arith, few, same)

pub overflow_add-result-2 : goal.overflow_add-result-2
overflow_add-result-2 c =
    let none : position (λ (s : Slot). nat_le c.args.demands.stages s.stage) c.in_ok-slots.slots.items ≡ None =
    ap (λ (xs : List Slot). position (λ (s : Slot). nat_le c.args.demands.stages s.stage) xs) (sym c.deref.ensures.value) ∙ sym c.first_late.ensures ∙ is_none c.first_late.result c.in_default.not-Some in
    let few = few_stages c.args.demands.stages c.in_ok-slots.slots.items c.requires.some none in
    let same : c.last_stage.result ≡ greatest (stages_of c.in_ok-slots.slots.items) = c.last_stage.ensures ∙ ap (λ xs. greatest (stages_of xs)) c.deref-4.ensures.value in
    omega (arith, few, same)

pub returns-clause-schedule : goal.returns-clause-schedule
returns-clause-schedule c =
    let r = ready c.args.proc.now c.requires.verified in
    let none : position (λ (s : Slot). nat_le c.args.demands.stages s.stage) c.in_ok-slots.slots.items ≡ None =
    ap (λ (xs : List Slot). position (λ (s : Slot). nat_le c.args.demands.stages s.stage) xs) (sym c.deref.ensures.value) ∙ sym c.first_late.ensures ∙ is_none c.first_late.result c.in_default.not-Some in
    let turn : c.turn_stage-turn.result ≡ turn_within c.args.proc.now (stages_of c.in_ok-slots.slots.items) =
    c.turn_stage-turn.ensures ∙ ap (λ xs. turn_within c.args.proc.now (stages_of xs)) c.deref-2.ensures.value in
    let less = c.if-from-turn.false in
    let from = c.from.ensures in
    let last : c.last_stage.result + 1 ≡ greatest (stages_of c.in_ok-slots.slots.items) + 1 = ap (λ n. n + 1) (c.last_stage.ensures ∙ ap (λ xs. greatest (stages_of xs)) c.deref-4.ensures.value) in
    let stage = c.from_vec.ensures ∙ c.in_ok-stages_of.ensures ∙ ap stages_of c.deref-3.ensures.value in
    schedule_is c.args.proc.now c.args.demands c.in_ok-slots.slots.items c.turn_stage-turn.result (record { stage = c.from_vec.result; stages = c.last_stage.result + 1; interval = c.turn_stage-turn.result + 1 })
    r c.in_ok-slots.ensures.slots c.requires.some none turn (omega arith) stage last refl
