-- The final cut: no proc can go, what was received was sent, each send had room, and who isn't done waits.
use Rattle.std.proofs.Common.{◌≡◌, ℕ, ◌+◌, ◌<◌, ◌≤◌, List, [], ◌∷◌, ◌++◌, length, refl, sym, ap, ◌∙◌, subst, arith, cond, true, false, Bool, eqb, Some, None, Option, inl, inr, append_assoc}
use Rattle.std.specs.Prelude.{slice_get, nat_lt, ◌&&◌, ◌⊎◌}
use Rattle.std.proofs.lemmas.Bool.{cases_lt}
use Rattle.std.proofs.lemmas.Bool.Decides.{nat_tests}
use Rattle.std.proofs.lemmas.List.{length-append, append-nil}
use Rattle.net_core.specs.declared.net.Site.{Site}
use Rattle.net_core.specs.declared.event.Event.{Event}
use Rattle.net_core.specs.declared.event.Event.TheVariants.{Recv, Send, End}
use Rattle.net_core.specs.declared.outcome.Stall.{Stall}
use Rattle.net_core.specs.Behavior.{chan_at}
use Rattle.net_core.specs.Cuts.{Proc, Run, Cut, sites_of, sites_at, words_sent, count_received, words_at, room_at, fits_after, longest_fit, trace_of, round, final_cut}
use Rattle.base.specs.Lists.Prefix.{IsPrefix}
use Rattle.net_core.specs.Machine.{opened, position_in, next_of, finds_word, goes_by, goes}
use Rattle.net_core.specs.Outcomes.{count_ends, stall_for, stall_in}
use Rattle.base.proofs.Lemmas.Lists.Prefixes.{IsPrefix-refl, IsPrefix-trans, IsPrefix-length}
use Rattle.net_core.proofs.Reach.{longest_fit_step}
use Rattle.net_core.proofs.Resume.{trace_from}
use Rattle.net_core.proofs.Rounds.{final_stays}
use Rattle.net_core.proofs.Steps.{goes_extends}
use Rattle.net_core.proofs.Confluence.{final_fixed}
use Rattle.net_core.proofs.Flows.{words_sent-append}
use Rattle.net_core.proofs.Receives.{received_within}
use Rattle.net_core.proofs.Ends.{ends_are_counted}
use Rattle.net_core.proofs.Stalls.{stall_active}
use Rattle.net_core.proofs.Counted.{final_trace, final_reach, final_in_trace, some_trace, no_trace}

-- the first part of a front is one
prefix_of_append : (xs ys zs : List Event) → IsPrefix (xs ++ ys) zs → IsPrefix xs zs
prefix_of_append [] ys zs f = tt
prefix_of_append (x ∷ xs) ys [] f = absurd f
prefix_of_append (x ∷ xs) ys (z ∷ zs) f = (f.0, prefix_of_append xs ys zs f.1)

longer : (xs : List Event) (e : Event) → IsPrefix (xs ++ e ∷ []) xs → ⊥
longer xs e f = absurd (omega (arith, IsPrefix-length _ _ f, length-append xs (e ∷ [])))

-- no proc can go
pub final_stuck : (run : Run) (p : ℕ) → goes run (final_cut run) p ≡ false
final_stuck run p = go (slice_get run.procs p) refl
  where
    here : IsPrefix (final_cut run p) (round run (final_cut run) p)
    here = subst (λ (c : Cut). IsPrefix (final_cut run p) (c p)) (sym (final_stays run)) (IsPrefix-refl (final_cut run p))

    by_test : (proc : Proc) → slice_get run.procs p ≡ Some proc → (b : Bool) → goes_by run (final_cut run) p (Some proc) ≡ b → goes_by run (final_cut run) p (Some proc) ≡ false
    by_test proc e true h =
        let more = goes_extends run (final_cut run) p proc e here h in
        absurd (longer (final_cut run p) _ (IsPrefix-trans _ _ _ more (final_fixed run p)))
    by_test proc e false h = h

    go : (o : Option Proc) → slice_get run.procs p ≡ o → goes_by run (final_cut run) p o ≡ false
    go None e = unfold goes_by in refl
    go (Some proc) e = by_test proc e (goes_by run (final_cut run) p (Some proc)) refl

-- what was received was sent
pub final_received : (run : Run) (p c : ℕ) → count_received (sites_at run p) c (final_cut run p) ≤ length (words_at run (final_cut run) c)
final_received run p c = go (slice_get run.procs p) refl
  where
    nothing : (xs : List Event) → IsPrefix xs [] → xs ≡ []
    nothing [] f = refl
    nothing (x ∷ xs) f = absurd f

    go : (o : Option Proc) → slice_get run.procs p ≡ o → count_received (sites_of o) c (final_cut run p) ≤ length (words_at run (final_cut run) c)
    go None e =
        let f = subst (λ o. IsPrefix (final_cut run p) (trace_of run.activations (words_at run (final_cut run)) o)) e (final_in_trace run p) in
        let none = nothing _ (no_trace run.activations (words_at run (final_cut run)) _ f) in
        subst (λ xs. count_received [] c xs ≤ length (words_at run (final_cut run) c)) (sym none) (unfold count_received in omega arith)
    go (Some proc) e =
        let f = subst (λ o. IsPrefix (final_cut run p) (trace_of run.activations (words_at run (final_cut run)) o)) e (final_in_trace run p) in
        received_within proc.behavior run.activations (final_cut run p) (opened proc) (words_at run (final_cut run))
        (some_trace run.activations (words_at run (final_cut run)) proc _ f) c

-- the one send that an event is has room
one_sent : (sites : List Site) (room : ℕ → ℕ → Bool) (before : List Event) (e : Event) (c j : ℕ) → length (words_sent sites c before) ≤ j
    → j < length (words_sent sites c before) + length (words_sent sites c (e ∷ [])) → fits_after sites room before e ≡ true → room c j ≡ true
unfolding words_sent fits_after
one_sent sites room before (Recv i) c j l m h = absurd (omega (arith, l, m))
one_sent sites room before (Send i w) c j l m h = go (eqb (chan_at sites i) c) refl m
  where
    go : (b : Bool) → eqb (chan_at sites i) c ≡ b → j < length (words_sent sites c before) + length (cond b (w ∷ []) []) → room c j ≡ true
    go true e m =
        let same : chan_at sites i ≡ c = grind (arith, nat_tests) in
        let last : length (words_sent sites c before) ≡ j = omega (arith, l, m) in
        subst (λ k. room c k ≡ true) last (subst (λ d. room d (length (words_sent sites d before)) ≡ true) same h)
    go false e m = absurd (omega (arith, l, m))
one_sent sites room before (End s) c j l m h = absurd (omega (arith, l, m))

-- what is so behind one event more
abbrev Later : List Site → (ℕ → ℕ → Bool) → List Event → List Event → Event → ℕ → ℕ → Type 0
Later sites room xs before x c j =
    length (words_sent sites c (before ++ x ∷ [])) ≤ j
    → j < length (words_sent sites c ((before ++ x ∷ []) ++ longest_fit sites room (before ++ x ∷ []) xs)) → room c j ≡ true

-- each send of the longest fit has room
fit_rooms : (sites : List Site) (room : ℕ → ℕ → Bool) (xs before : List Event) (c j : ℕ) → length (words_sent sites c before) ≤ j
    → j < length (words_sent sites c (before ++ longest_fit sites room before xs)) → room c j ≡ true
fit_rooms sites room [] before c j l m =
    let none : longest_fit sites room before [] ≡ [] = unfold longest_fit in refl in
    let same = ap (λ ys. length (words_sent sites c (before ++ ys))) none ∙ ap (λ ys. length (words_sent sites c ys)) (append-nil before) in
    absurd (omega (arith, l, m, same))
fit_rooms sites room (x ∷ xs) before c j l m =
    go (fits_after sites room before x) refl (subst (λ ys. j < length (words_sent sites c (before ++ ys))) (longest_fit_step sites room before x xs) m)
    (λ k m'. fit_rooms sites room xs (before ++ x ∷ []) c j k m')
  where
    whole : length (words_sent sites c (before ++ x ∷ [])) ≡ length (words_sent sites c before) + length (words_sent sites c (x ∷ []))
    whole = ap length (words_sent-append sites c before (x ∷ [])) ∙ length-append (words_sent sites c before) (words_sent sites c (x ∷ []))

    go : (b : Bool) → fits_after sites room before x ≡ b → j < length (words_sent sites c (before ++ cond b (x ∷ longest_fit sites room (before ++ x ∷ []) xs) [])) → Later sites room xs before x c j → room c j ≡ true
    go true fits m later = by (cases_lt j (length (words_sent sites c (before ++ x ∷ []))))
      where
        by : (j < length (words_sent sites c (before ++ x ∷ []))) ⊎ (length (words_sent sites c (before ++ x ∷ [])) ≤ j) → room c j ≡ true
        by (inl k) = one_sent sites room before x c j l (omega (arith, k, whole)) fits
        by (inr k) =
            later k
            (subst (λ ys. j < length (words_sent sites c ys)) (sym (append_assoc before (x ∷ []) (longest_fit sites room (before ++ x ∷ []) xs))) m)
    go false fits m later = absurd (omega (arith, l, m, ap (λ ys. length (words_sent sites c ys)) (append-nil before)))

-- what was sent had room
pub final_room : (run : Run) (p c j : ℕ) → j < length (words_sent (sites_at run p) c (final_cut run p)) → room_at run (final_cut run) c j ≡ true
final_room run p c j l =
    fit_rooms (sites_at run p) (room_at run (final_cut run)) (final_trace run p) [] c j (unfold words_sent in omega arith)
    (subst (λ ys. j < length (words_sent (sites_at run p) c ys)) (sym (final_reach run p)) l)

-- a proc that can't go and isn't done waits for something
pub stuck_stalls : (run : Run) (cut : Cut) (p : ℕ) (proc : Proc) → IsPrefix (cut p) (trace_from proc.behavior run.activations (opened proc) (words_at run cut))
    → goes_by run cut p (Some proc) ≡ false → count_ends (cut p) < run.activations
    → (stall : Stall) × (stall_in run cut p proc ≡ Some stall)
unfolding goes_by finds_word fits_after
stuck_stalls run cut p proc front stuck few = by_event (next_of proc.behavior (position_in run cut p proc)) refl
  where
    active : (position_in run cut p proc).ends < run.activations
    active = omega (arith, few, ends_are_counted proc (cut p) (words_at run cut))

    waits : (e : Event) → next_of proc.behavior (position_in run cut p proc) ≡ e → stall_in run cut p proc ≡ stall_for proc.behavior.sites (position_in run cut p proc).ends e
    waits e next = stall_active run cut p proc front active ∙ ap (λ x. stall_for proc.behavior.sites (position_in run cut p proc).ends x) next

    by_event : (e : Event) → next_of proc.behavior (position_in run cut p proc) ≡ e → (stall : Stall) × (stall_in run cut p proc ≡ Some stall)
    by_event (Recv i) next = (record { activation = (position_in run cut p proc).ends; sends = false; chan = chan_at proc.behavior.sites i }, waits (Recv i) next)
    by_event (Send i w) next = (record { activation = (position_in run cut p proc).ends; sends = true; chan = chan_at proc.behavior.sites i }, waits (Send i w) next)
    by_event (End s) next =
        let at = position_in run cut p proc in
        let b = proc.behavior in
        let more = active in
        let open_now : nat_lt at.ends run.activations ≡ true = grind (arith, nat_tests) in
        let can = ap (λ t. t && (finds_word b.sites (words_at run cut) (cut p) (next_of b at) && fits_after b.sites (room_at run cut) (cut p) (next_of b at))) open_now
        ∙ ap (λ e. finds_word b.sites (words_at run cut) (cut p) e && fits_after b.sites (room_at run cut) (cut p) e) next in
        let wrong : true ≡ false = sym can ∙ stuck in
        cc
