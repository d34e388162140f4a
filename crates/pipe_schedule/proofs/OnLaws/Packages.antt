-- One answer for all procs of a package.
use Rattle.std.proofs.Common.{◌≡◌, ℕ, zero, suc, ◌<◌, List, [], ◌∷◌, length, Some, refl, sym, ap, subst, ◌∙◌, arith}
use Rattle.std.specs.Prelude.{slice_get}
use Rattle.ir_tree.specs.declared.package.Proc.{Proc}
use Rattle.pipe_schedule.specs.declared.schedule.Demands.{Demands}
use Rattle.pipe_schedule.specs.declared.schedule.Schedule.{Schedule}
use Rattle.pipe_schedule.specs.declared.schedule.NoSchedule.TheVariants.{OutOfMemory}
use Rattle.pipe_schedule.specs.declared.package.Infeasible.{Infeasible}
use Rattle.pipe_schedule.specs.Timed.{timed_proc}
use Rattle.pipe_schedule.specs.Answer.{IsCause}
use Rattle.pipe_schedule.specs.Packages.{AreSchedules, IsFirstInfeasible}
use Rattle.pipe_schedule.proofs.OnLaws.One.{one_schedule, one_cause, schedule_or_cause, first_one}

-- the schedules behind the first
behind : (p : Proc) (procs : List Proc) (demands : Demands) (s : Schedule) (schedules : List Schedule) → AreSchedules (p ∷ procs) demands (s ∷ schedules) → AreSchedules procs demands schedules
behind p procs demands s schedules h = record { count = let e = h.count in omega arith; each = λ i q t e f. h.each (suc i) q t e f }

pub one_list : (procs : List Proc) (demands : Demands) (a b : List Schedule) → AreSchedules procs demands a → AreSchedules procs demands b → a ≡ b
one_list [] demands [] [] h k = refl
one_list [] demands [] (t ∷ b) h k = absurd (let e = k.count in omega arith)
one_list [] demands (s ∷ a) b h k = absurd (let e = h.count in omega arith)
one_list (p ∷ procs) demands [] b h k = absurd (let e = h.count in omega arith)
one_list (p ∷ procs) demands (s ∷ a) [] h k = absurd (let e = k.count in omega arith)
one_list (p ∷ procs) demands (s ∷ a) (t ∷ b) h k =
    let first : s ≡ t = one_schedule (timed_proc p) demands s t (h.each 0 p s refl refl) (k.each 0 p t refl refl) in
    let others : a ≡ b = one_list procs demands a b (behind p procs demands s a h) (behind p procs demands t b k) in
    λ i. first i ∷ others i

-- where there are as many schedules as procs, there is one for each
one_there : (procs : List Proc) (schedules : List Schedule) (i : ℕ) (p : Proc) → length schedules ≡ length procs → slice_get procs i ≡ Some p → (s : Schedule) × (slice_get schedules i ≡ Some s)
one_there [] schedules i p e there = absurd (cc)
one_there (q ∷ procs) [] i p e there = absurd (omega arith)
one_there (q ∷ procs) (s ∷ schedules) zero p e there = (s, refl)
one_there (q ∷ procs) (s ∷ schedules) (suc i) p e there = one_there procs schedules i p (omega arith) there

pub schedules_or_infeasible : (procs : List Proc) (demands : Demands) (schedules : List Schedule) (e : Infeasible) → AreSchedules procs demands schedules → IsFirstInfeasible procs demands e → e.cause ≡ OutOfMemory
schedules_or_infeasible procs demands schedules e h k =
    let s = one_there procs schedules e.proc k.proc h.count k.there in
    schedule_or_cause (timed_proc k.proc) demands s.0 e.cause (h.each e.proc k.proc s.0 k.there s.1) k.cause

-- a proc that has none isn't before the first that has none
none_before : (procs : List Proc) (demands : Demands) (e f : Infeasible) → IsFirstInfeasible procs demands e → IsFirstInfeasible procs demands f → (e.cause ≡ OutOfMemory → ⊥) → e.proc < f.proc → ⊥
none_before procs demands e f h k x l =
    let s = k.before e.proc h.proc l h.there in
    x (schedule_or_cause (timed_proc h.proc) demands s.0 e.cause s.1 h.cause)

pub one_infeasible : (procs : List Proc) (demands : Demands) (e f : Infeasible) → IsFirstInfeasible procs demands e → IsFirstInfeasible procs demands f → (e.cause ≡ OutOfMemory → ⊥) → (f.cause ≡ OutOfMemory → ⊥) → e ≡ f
one_infeasible procs demands e f h k x y =
    let place : e.proc ≡ f.proc = first_one e.proc f.proc (none_before procs demands e f h k x) (none_before procs demands f e k h y) in
    let there : Some h.proc ≡ Some k.proc = sym h.there ∙ ap (slice_get procs) place ∙ k.there in
    let proc : h.proc ≡ k.proc = cc in
    let cause : e.cause ≡ f.cause = one_cause (timed_proc k.proc) demands e.cause f.cause (subst (λ (p : Proc). IsCause (timed_proc p) demands e.cause) proc h.cause) k.cause x y in
    λ i. record { proc = place i; cause = cause i }
