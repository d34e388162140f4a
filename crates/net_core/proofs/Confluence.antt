-- Whatever the order of the steps, they stay within the final cut, and they end there.
use Rattle.std.proofs.Common.{◌≡◌, ℕ, zero, suc, ◌<◌, List, [], ◌∷◌, ◌++◌, length, refl, sym, subst, arith, cond, true, false, Bool, eqb, Some, None, Option}
use Rattle.std.proofs.lemmas.Option.{slice_get_within}
use Rattle.std.specs.Prelude.{slice_get}
use Rattle.std.proofs.lemmas.Bool.Decides.{nat_tests}
use Rattle.net_core.specs.declared.event.Event.{Event}
use Rattle.net_core.specs.Cuts.{Proc, Run, Cut, IsWithin, empty_cut, reach, round, rounds, most_events, final_cut}
use Rattle.base.specs.Lists.Prefix.{IsPrefix}
use Rattle.net_core.specs.Machine.{position_in, next_of, goes_by, goes, with_event, stepped_by, stepped, after_steps}
use Rattle.base.proofs.Lemmas.Lists.Prefixes.{IsPrefix-refl, IsPrefix-trans, IsPrefix-append, IsPrefix-antisym}
use Rattle.net_core.proofs.Reach.{reach_grows}
use Rattle.net_core.proofs.Rounds.{final_stays}
use Rattle.net_core.proofs.Steps.{goes_extends, stays_whole, reach_none}

-- each proc has come no further than it can by itself
abbrev pub IsConsistent : Run → Cut → Type 0
IsConsistent run cut = IsWithin cut (round run cut)

pub empty_consistent : (run : Run) → IsConsistent run empty_cut
empty_consistent run p = tt

pub eqb-same : (m n : ℕ) → eqb m n ≡ true → m ≡ n
eqb-same m n h = grind (arith, nat_tests)

-- a cut that differs at p alone, where it has one event more
with_event_cases : (P : ℕ → List Event → Type 0) (cut : Cut) (p : ℕ) (e : Event) → ((q : ℕ) → P q (cut q)) → P p (cut p ++ e ∷ []) → (q : ℕ) → P q (with_event cut p e q)
with_event_cases P cut p e others here q = go (eqb q p) refl
  where
    go : (b : Bool) → eqb q p ≡ b → P q (cond b (cut q ++ e ∷ []) (cut q))
    go true h = let same : q ≡ p = eqb-same q p h in subst (λ z. P z (cut z ++ e ∷ [])) (sym same) here
    go false h = others q

-- a step by cases: it changes nothing, or it makes an event within the proc's reach
step_cases : (run : Run) (cut : Cut) (p : ℕ) (P : Cut → Type 0) → IsConsistent run cut → P cut
    → ((e : Event) → IsPrefix (cut p ++ e ∷ []) (reach run cut p) → P (with_event cut p e)) → P (stepped run cut p)
step_cases run cut p P c same more = go (slice_get run.procs p) refl
  where
    by_test : (proc : Proc) → slice_get run.procs p ≡ Some proc → (b : Bool) → goes_by run cut p (Some proc) ≡ b
        → P (cond b (with_event cut p (next_of proc.behavior (position_in run cut p proc))) cut)
    by_test proc e true h = more (next_of proc.behavior (position_in run cut p proc)) (goes_extends run cut p proc e (c p) h)
    by_test proc e false h = same

    go : (o : Option Proc) → slice_get run.procs p ≡ o → P (stepped_by run cut p o)
    go None e = unfold stepped_by in same
    go (Some proc) e = unfold stepped_by in by_test proc e (goes_by run cut p (Some proc)) refl

-- a step takes nothing back
pub step_grows : (run : Run) (cut : Cut) (p : ℕ) → IsConsistent run cut → IsWithin cut (stepped run cut p)
step_grows run cut p c =
    step_cases run cut p (λ next. IsWithin cut next) c (λ q. IsPrefix-refl (cut q))
    (λ e f. with_event_cases (λ q es. IsPrefix (cut q) es) cut p e (λ q. IsPrefix-refl (cut q)) (IsPrefix-append (cut p) (e ∷ [])))

-- a step keeps each proc within its reach
pub step_consistent : (run : Run) (cut : Cut) (p : ℕ) → IsConsistent run cut → IsConsistent run (stepped run cut p)
step_consistent run cut p c q =
    let w = step_grows run cut p c in
    IsPrefix-trans _ _ _ (near q) (reach_grows run cut (stepped run cut p) q w)
  where
    near : IsWithin (stepped run cut p) (round run cut)
    near = step_cases run cut p (λ next. IsWithin next (round run cut)) c c
        (λ e f. with_event_cases (λ q es. IsPrefix es (reach run cut q)) cut p e c f)

-- and within each cut that a round doesn't enlarge
pub step_below : (run : Run) (cut limit : Cut) (p : ℕ) → IsConsistent run cut → IsWithin cut limit → IsWithin (round run limit) limit → IsWithin (stepped run cut p) limit
step_below run cut limit p c w fixed =
    step_cases run cut p (λ next. IsWithin next limit) c w
    (λ e f. with_event_cases (λ q es. IsPrefix es (limit q)) cut p e w
    (IsPrefix-trans _ _ _ (IsPrefix-trans _ _ _ f (reach_grows run cut limit p w)) (fixed p)))

pub final_fixed : (run : Run) → IsWithin (round run (final_cut run)) (final_cut run)
final_fixed run p = subst (λ (c : Cut). IsPrefix (round run (final_cut run) p) (c p)) (final_stays run) (IsPrefix-refl (round run (final_cut run) p))

-- no round comes further than a cut that a round doesn't enlarge
rounds_below : (run : Run) (limit : Cut) → IsWithin (round run limit) limit → (k : ℕ) → IsWithin (rounds (round run) k) limit
rounds_below run limit fixed zero p = tt
rounds_below run limit fixed (suc k) p =
    IsPrefix-trans _ _ _ (reach_grows run (rounds (round run) k) limit p (λ q. rounds_below run limit fixed k q)) (fixed p)

pub final_below : (run : Run) (limit : Cut) → IsWithin (round run limit) limit → IsWithin (final_cut run) limit
unfolding final_cut
final_below run limit fixed = rounds_below run limit fixed (most_events run)

pub steps_consistent : (run : Run) (ps : List ℕ) (cut : Cut) → IsConsistent run cut → IsConsistent run (after_steps run cut ps)
steps_consistent run [] cut c = c
steps_consistent run (p ∷ ps) cut c = steps_consistent run ps (stepped run cut p) (step_consistent run cut p c)

pub steps_below : (run : Run) (ps : List ℕ) (cut limit : Cut) → IsConsistent run cut → IsWithin cut limit → IsWithin (round run limit) limit → IsWithin (after_steps run cut ps) limit
steps_below run [] cut limit c w fixed = w
steps_below run (p ∷ ps) cut limit c w fixed =
    steps_below run ps (stepped run cut p) limit (step_consistent run cut p c) (step_below run cut limit p c w fixed) fixed

-- where no proc can go, a round changes nothing
pub stuck_fixed : (run : Run) (cut : Cut) → IsConsistent run cut → ((p : ℕ) → p < length run.procs → goes run cut p ≡ false) → IsWithin (round run cut) cut
stuck_fixed run cut c stuck p = go (slice_get run.procs p) refl
  where
    go : (o : Option Proc) → slice_get run.procs p ≡ o → IsPrefix (reach run cut p) (cut p)
    go None e = rw (reach_none run cut p e) tt
    go (Some proc) e =
        let h = stuck p (slice_get_within run.procs p proc e) in
        let g = rw e at h in
        rw (stays_whole run cut p proc e (c p) g) (IsPrefix-refl (cut p))

-- every list of steps stays within the final cut
pub steps_within_final : (run : Run) (ps : List ℕ) → IsWithin (after_steps run empty_cut ps) (final_cut run)
steps_within_final run ps = steps_below run ps empty_cut (final_cut run) (empty_consistent run) (λ p. tt) (final_fixed run)

-- a consistent cut within the final one in which no proc can go is the final one
pub stuck_is_final : (run : Run) (cut : Cut) → IsConsistent run cut → IsWithin cut (final_cut run)
    → ((p : ℕ) → p < length run.procs → goes run cut p ≡ false) → (p : ℕ) → cut p ≡ final_cut run p
stuck_is_final run cut c w stuck p =
    IsPrefix-antisym _ _ (w p) (final_below run cut (stuck_fixed run cut c stuck) p)

-- where a list of steps has come so far that no proc can go, it has come to the final cut
pub steps_end_final : (run : Run) (ps : List ℕ) → ((p : ℕ) → p < length run.procs → goes run (after_steps run empty_cut ps) p ≡ false)
    → (p : ℕ) → after_steps run empty_cut ps p ≡ final_cut run p
steps_end_final run ps stuck =
    stuck_is_final run (after_steps run empty_cut ps) (steps_consistent run ps empty_cut (empty_consistent run)) (steps_within_final run ps) stuck
