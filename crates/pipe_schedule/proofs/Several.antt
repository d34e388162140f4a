-- Procs one after the other.
use Rattle.std.proofs.Common.{◌≡◌, ℕ, ◌+◌, ◌-◌, ◌<◌, zero, suc, List, [], ◌∷◌, ◌++◌, length, length-append, get_or, Some, refl, sym, ap, subst, ◌∙◌, arith, ⊎_elim}
use Rattle.std.specs.Prelude.{slice_get}
use Rattle.std.proofs.lemmas.Bool.{cases_lt}
use Rattle.std.proofs.lemmas.Option.{slice_get-get_or}
use Rattle.base.proofs.Lemmas.Lists.Indices.{slice_get-append_left, slice_get-append_right}
use Rattle.ir_tree.specs.declared.package.Proc.{Proc}
use Rattle.pipe_schedule.specs.declared.schedule.Demands.{Demands}
use Rattle.pipe_schedule.specs.declared.schedule.Schedule.{Schedule}
use Rattle.pipe_schedule.specs.declared.schedule.NoSchedule.{NoSchedule}
use Rattle.pipe_schedule.specs.Timed.{timed_proc}
use Rattle.pipe_schedule.specs.Answer.{IsSchedule, IsCause}
use Rattle.pipe_schedule.specs.Packages.{AreSchedules, IsFirstInfeasible}
use Rattle.pipe_schedule.specs.Inner.Pushes.{AddsSchedule}

-- the first i procs have these schedules
pub record AreScheduledTo (procs : List Proc) (demands : Demands) (i : ℕ) (schedules : List Schedule) : Type 0 where
  pub count : length schedules ≡ i
  pub each : (k : ℕ) (p : Proc) (s : Schedule) → slice_get procs k ≡ Some p → slice_get schedules k ≡ Some s → IsSchedule (timed_proc p) demands s

pub none_scheduled : (procs : List Proc) (demands : Demands) → AreScheduledTo procs demands 0 []
none_scheduled procs demands = record { count = refl; each = λ k p s e f. absurd (cc) }

one_is : (s t : Schedule) (k : ℕ) → slice_get (s ∷ []) k ≡ Some t → (k ≡ 0) × (s ≡ t)
one_is s t zero e = (refl, cc)
one_is s t (suc k) e = absurd (cc)

pub one_more : (procs : List Proc) (demands : Demands) (i : ℕ) (old new : List Schedule) (p : Proc) → AreScheduledTo procs demands i old → slice_get procs i ≡ Some p → AddsSchedule (timed_proc p) demands old new → AreScheduledTo procs demands (i + 1) new
one_more procs demands i old new p a there adds =
    subst (AreScheduledTo procs demands (i + 1)) (sym adds.added)
    (record {
      count = let c = a.count in omega (arith, c, length-append old (adds.schedule ∷ []));
      each = each;
    })
  where
    each : (k : ℕ) (q : Proc) (s : Schedule) → slice_get procs k ≡ Some q → slice_get (old ++ adds.schedule ∷ []) k ≡ Some s → IsSchedule (timed_proc q) demands s
    each k q s e f = ⊎_elim
        (λ l. a.each k q s e (sym (slice_get-append_left old (adds.schedule ∷ []) k l) ∙ f))
        (λ l. (let c = a.count in
        let last = one_is adds.schedule s (k - length old) (sym (slice_get-append_right old (adds.schedule ∷ []) k (k - length old) (omega arith)) ∙ f) in
        let z = last.0 in
        let same : i ≡ k = omega arith in
        let proc : Some p ≡ Some q = sym there ∙ ap (slice_get procs) same ∙ e in
        let is : p ≡ q = cc in
        subst (λ x. IsSchedule (timed_proc x) demands s) is (subst (IsSchedule (timed_proc p) demands) last.1 adds.is)))
        (cases_lt k (length old))

pub all_scheduled : (procs : List Proc) (demands : Demands) (i : ℕ) (schedules : List Schedule) → AreScheduledTo procs demands i schedules → i ≡ length procs → AreSchedules procs demands schedules
all_scheduled procs demands i schedules a e = record { count = a.count ∙ e; each = a.each }

some_there : (schedules : List Schedule) (k : ℕ) → k < length schedules → (s : Schedule) × (slice_get schedules k ≡ Some s)
some_there [] k h = absurd (omega arith)
some_there (s ∷ schedules) zero h = (s, refl)
some_there (s ∷ schedules) (suc k) h = some_there schedules k (omega arith)

pub first_infeasible : (procs : List Proc) (demands : Demands) (i : ℕ) (schedules : List Schedule) (p : Proc) (cause : NoSchedule) → AreScheduledTo procs demands i schedules → slice_get procs i ≡ Some p → IsCause (timed_proc p) demands cause → IsFirstInfeasible procs demands (record { proc = i; cause = cause })
first_infeasible procs demands i schedules p cause a there c = record {
  proc = p;
  there = there;
  cause = c;
  before = λ k q l e. (let n = a.count in let s = some_there schedules k (omega arith) in (s.0, a.each k q s.0 e s.1));
}

-- what the code reads is the proc of the place
pub read_at : (procs seen : List Proc) (i : ℕ) (p : Proc) → seen ≡ procs → i < length seen → p ≡ get_or seen i p → slice_get procs i ≡ Some p
read_at procs seen i p e h f = ap (λ (ps : List Proc). slice_get ps i) (sym e) ∙ slice_get-get_or seen i p h ∙ ap (λ x. Some x) (sym f)
