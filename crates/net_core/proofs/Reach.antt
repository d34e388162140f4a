-- How far a proc can come by itself: further in a larger cut, and one event further where it can go.
use Rattle.std.proofs.Common.{◌≡◌, ℕ, suc, ◌+◌, ◌≤◌, List, [], ◌∷◌, ◌++◌, refl, sym, ap, ◌∙◌, subst, arith, cond, true, false, Bool, eqb, Some, None, Option, append_assoc}
use Rattle.std.specs.Prelude.{slice_get, nat_lt, get_or}
use Rattle.std.proofs.lemmas.Bool.Decides.{nat_tests}
use Rattle.std.proofs.lemmas.List.{append-nil}
use Rattle.xb_bits.specs.Word.{Word}
use Rattle.net_core.specs.declared.net.Site.{Site}
use Rattle.net_core.specs.declared.net.Chan.{Chan}
use Rattle.net_core.specs.declared.net.Kind.{Kind}
use Rattle.net_core.specs.declared.net.Kind.TheVariants.{Input, Output, Inner}
use Rattle.net_core.specs.declared.event.Event.{Event}
use Rattle.net_core.specs.declared.event.Event.TheVariants.{Recv, Send, End}
use Rattle.net_core.specs.Behavior.{chan_at}
use Rattle.net_core.specs.Trace.{Histories}
use Rattle.net_core.specs.Cuts.{Proc, Run, Cut, IsWithin, sites_at, sender, receiver, words_sent, count_received, words_by, words_at, received_at, room_by, room_at, fits_after, longest_fit, trace_of, reach}
use Rattle.base.specs.Lists.Prefix.{IsPrefix}
use Rattle.base.proofs.Lemmas.Lists.Prefixes.{IsPrefix-refl}
use Rattle.net_core.proofs.Traces.{IsLonger, trace_grows}

-- what is sent and received grows with the events
prefix_if_push : (b : Bool) (w : Word) (xs ys : List Word) → IsPrefix xs ys → IsPrefix (cond b (w ∷ xs) xs) (cond b (w ∷ ys) ys)
prefix_if_push true w xs ys f = (refl, f)
prefix_if_push false w xs ys f = f

words_sent_same : (sites : List Site) (c : ℕ) (e : Event) (xs ys : List Event) → IsPrefix (words_sent sites c xs) (words_sent sites c ys) → IsPrefix (words_sent sites c (e ∷ xs)) (words_sent sites c (e ∷ ys))
unfolding words_sent
words_sent_same sites c (Recv i) xs ys f = f
words_sent_same sites c (Send i w) xs ys f = prefix_if_push (eqb (chan_at sites i) c) w _ _ f
words_sent_same sites c (End s) xs ys f = f

pub words_sent_grow : (sites : List Site) (c : ℕ) (xs ys : List Event) → IsPrefix xs ys → IsPrefix (words_sent sites c xs) (words_sent sites c ys)
words_sent_grow sites c [] ys f = unfold words_sent in tt
words_sent_grow sites c (x ∷ xs) [] f = absurd f
words_sent_grow sites c (x ∷ xs) (y ∷ ys) f =
    subst (λ e. IsPrefix (words_sent sites c (x ∷ xs)) (words_sent sites c (e ∷ ys))) f.0 (words_sent_same sites c x xs ys (words_sent_grow sites c xs ys f.1))

le_if_suc : (b : Bool) (m n : ℕ) → m ≤ n → cond b (suc m) m ≤ cond b (suc n) n
le_if_suc true m n h = omega (arith, h)
le_if_suc false m n h = h

received_same : (sites : List Site) (c : ℕ) (e : Event) (xs ys : List Event) → count_received sites c xs ≤ count_received sites c ys → count_received sites c (e ∷ xs) ≤ count_received sites c (e ∷ ys)
unfolding count_received
received_same sites c (Recv i) xs ys h = le_if_suc (eqb (chan_at sites i) c) _ _ h
received_same sites c (Send i w) xs ys h = h
received_same sites c (End s) xs ys h = h

pub received_grow : (sites : List Site) (c : ℕ) (xs ys : List Event) → IsPrefix xs ys → count_received sites c xs ≤ count_received sites c ys
received_grow sites c [] ys f = unfold count_received in omega arith
received_grow sites c (x ∷ xs) [] f = absurd f
received_grow sites c (x ∷ xs) (y ∷ ys) f =
    subst (λ e. count_received sites c (x ∷ xs) ≤ count_received sites c (e ∷ ys)) f.0 (received_same sites c x xs ys (received_grow sites c xs ys f.1))

words_by_grow : (run : Run) (cut more : Cut) (c : ℕ) (chan : Option Chan) → IsWithin cut more → IsPrefix (words_by run cut c chan) (words_by run more c chan)
unfolding words_by
words_by_grow run cut more c None f = tt
words_by_grow run cut more c (Some chan) f = go chan.kind
  where
    sent : IsPrefix (words_sent (sites_at run (sender run c)) c (cut (sender run c))) (words_sent (sites_at run (sender run c)) c (more (sender run c)))
    sent = words_sent_grow _ c _ _ (f (sender run c))

    go : (kind : Kind) → IsPrefix
        (elim kind as (λ _. List Word) [ Input ↦ get_or run.inputs c [] | Output ↦ words_sent (sites_at run (sender run c)) c (cut (sender run c)) | Inner ↦ words_sent (sites_at run (sender run c)) c (cut (sender run c)) ])
        (elim kind as (λ _. List Word) [ Input ↦ get_or run.inputs c [] | Output ↦ words_sent (sites_at run (sender run c)) c (more (sender run c)) | Inner ↦ words_sent (sites_at run (sender run c)) c (more (sender run c)) ])
    go Input = IsPrefix-refl _
    go Output = sent
    go Inner = sent

-- a larger cut has sent more
pub words_at_grow : (run : Run) (cut more : Cut) → IsWithin cut more → IsLonger (words_at run cut) (words_at run more)
unfolding words_at
words_at_grow run cut more f c = words_by_grow run cut more c (slice_get run.chans c) f

pub received_at_grow : (run : Run) (cut more : Cut) (c : ℕ) → IsWithin cut more → received_at run cut c ≤ received_at run more c
unfolding received_at
received_at_grow run cut more c f = received_grow _ c _ _ (f (receiver run c))

-- room that is there stays there
abbrev pub IsRoomier : (ℕ → ℕ → Bool) → (ℕ → ℕ → Bool) → Type 0
IsRoomier room more = (c j : ℕ) → room c j ≡ true → more c j ≡ true

lt_grow : (j m n d : ℕ) → m ≤ n → nat_lt j (m + d) ≡ true → nat_lt j (n + d) ≡ true
lt_grow j m n d l h = grind (arith, nat_tests)

room_by_grow : (run : Run) (cut more : Cut) (c j : ℕ) (chan : Option Chan) → IsWithin cut more → room_by run cut c j chan ≡ true → room_by run more c j chan ≡ true
unfolding room_by
room_by_grow run cut more c j None f h = refl
room_by_grow run cut more c j (Some chan) f h = go chan.kind h
  where
    go : (kind : Kind)
        → ◌≡◌ {A = Bool} (elim kind as (λ _. Bool) [ Input ↦ true | Output ↦ true | Inner ↦ nat_lt j (received_at run cut c + get_or run.depths c 0) ]) true
        → ◌≡◌ {A = Bool} (elim kind as (λ _. Bool) [ Input ↦ true | Output ↦ true | Inner ↦ nat_lt j (received_at run more c + get_or run.depths c 0) ]) true
    go Input h = refl
    go Output h = refl
    go Inner h = lt_grow j _ _ _ (received_at_grow run cut more c f) h

pub room_at_grow : (run : Run) (cut more : Cut) → IsWithin cut more → IsRoomier (room_at run cut) (room_at run more)
unfolding room_at
room_at_grow run cut more f c j h = room_by_grow run cut more c j (slice_get run.chans c) f h

fits_grow : (sites : List Site) (room more : ℕ → ℕ → Bool) (before : List Event) (e : Event) → IsRoomier room more → fits_after sites room before e ≡ true → fits_after sites more before e ≡ true
unfolding fits_after
fits_grow sites room more before (Recv i) r h = refl
fits_grow sites room more before (Send i w) r h = r _ _ h
fits_grow sites room more before (End s) r h = refl

prefix_by_tests : (b d : Bool) (e : Event) (xs ys : List Event) → (b ≡ true → d ≡ true) → IsPrefix xs ys → IsPrefix (cond b (e ∷ xs) []) (cond d (e ∷ ys) [])
prefix_by_tests false d e xs ys h f = tt
prefix_by_tests true true e xs ys h f = (refl, f)
prefix_by_tests true false e xs ys h f = absurd (let k = h refl in cc)

longest_fit_same : (sites : List Site) (room more : ℕ → ℕ → Bool) (before : List Event) (x : Event) (xs ys : List Event) → IsRoomier room more
    → IsPrefix (longest_fit sites room (before ++ x ∷ []) xs) (longest_fit sites more (before ++ x ∷ []) ys)
    → IsPrefix (longest_fit sites room before (x ∷ xs)) (longest_fit sites more before (x ∷ ys))
unfolding longest_fit
longest_fit_same sites room more before x xs ys r f =
    prefix_by_tests (fits_after sites room before x) (fits_after sites more before x) x _ _ (λ h. fits_grow sites room more before x r h) f

pub longest_fit_grows : (sites : List Site) (room more : ℕ → ℕ → Bool) (before xs ys : List Event) → IsRoomier room more → IsPrefix xs ys
    → IsPrefix (longest_fit sites room before xs) (longest_fit sites more before ys)
longest_fit_grows sites room more before [] ys r f = unfold longest_fit in tt
longest_fit_grows sites room more before (x ∷ xs) [] r f = absurd f
longest_fit_grows sites room more before (x ∷ xs) (y ∷ ys) r f =
    let ih = longest_fit_grows sites room more (before ++ x ∷ []) xs ys r f.1 in
    subst (λ e. IsPrefix (longest_fit sites room before (x ∷ xs)) (longest_fit sites more before (e ∷ ys))) f.0
    (longest_fit_same sites room more before x xs ys r ih)

trace_of_grows : (n : ℕ) (words more : Histories) (proc : Option Proc) → IsLonger words more → IsPrefix (trace_of n words proc) (trace_of n more proc)
unfolding trace_of
trace_of_grows n words more None f = tt
trace_of_grows n words more (Some proc) f = trace_grows proc.behavior n proc.opening words more f

-- a proc comes further by itself from a larger cut
pub reach_grows : (run : Run) (cut more : Cut) (p : ℕ) → IsWithin cut more → IsPrefix (reach run cut p) (reach run more p)
unfolding reach
reach_grows run cut more p f =
    longest_fit_grows (sites_at run p) (room_at run cut) (room_at run more) [] _ _ (room_at_grow run cut more f)
    (trace_of_grows run.activations (words_at run cut) (words_at run more) (slice_get run.procs p) (words_at_grow run cut more f))

-- the same without room
pub trace_of_reach_grows : (run : Run) (cut more : Cut) (p : ℕ) → IsWithin cut more
    → IsPrefix (trace_of run.activations (words_at run cut) (slice_get run.procs p)) (trace_of run.activations (words_at run more) (slice_get run.procs p))
trace_of_reach_grows run cut more p f =
    trace_of_grows run.activations (words_at run cut) (words_at run more) (slice_get run.procs p) (words_at_grow run cut more f)

prefix_of_test : (b : Bool) (e : Event) (xs ys : List Event) → IsPrefix xs ys → IsPrefix (cond b (e ∷ xs) []) (e ∷ ys)
prefix_of_test true e xs ys f = (refl, f)
prefix_of_test false e xs ys f = tt

pub longest_fit_step : (sites : List Site) (room : ℕ → ℕ → Bool) (before : List Event) (x : Event) (xs : List Event)
    → longest_fit sites room before (x ∷ xs) ≡ cond (fits_after sites room before x) (x ∷ longest_fit sites room (before ++ x ∷ []) xs) []
unfolding longest_fit
longest_fit_step sites room before x xs = refl

-- the longest fit is a front
pub longest_fit-front : (sites : List Site) (room : ℕ → ℕ → Bool) (before xs : List Event) → IsPrefix (longest_fit sites room before xs) xs
longest_fit-front sites room before [] = unfold longest_fit in tt
longest_fit-front sites room before (x ∷ xs) =
    let ih = longest_fit-front sites room (before ++ x ∷ []) xs in
    rw (longest_fit_step sites room before x xs) (prefix_of_test (fits_after sites room before x) x _ _ ih)

-- it goes on where a front of it ends
fit_true : (b : Bool) (x : Event) (t ws xs : List Event) → IsPrefix (x ∷ t) (cond b (x ∷ ws) xs) → xs ≡ [] → (b ≡ true) × IsPrefix t ws
fit_true true x t ws xs f e = (refl, f.1)
fit_true false x t ws xs f e = absurd (rw e at f)

pub longest_fit_resumes : (sites : List Site) (room : ℕ → ℕ → Bool) (t before xs : List Event) → IsPrefix t (longest_fit sites room before (t ++ xs))
    → longest_fit sites room before (t ++ xs) ≡ t ++ longest_fit sites room (before ++ t) xs
longest_fit_resumes sites room [] before xs f = ap (λ z. longest_fit sites room z xs) (sym (append-nil before))
longest_fit_resumes sites room (e ∷ t) before xs f =
    let step = longest_fit_step sites room before e (t ++ xs) in
    let fit = fit_true (fits_after sites room before e) e t _ [] (rw step at f) refl in
    let ih = longest_fit_resumes sites room t (before ++ e ∷ []) xs fit.1 in
    let test = fit.0 in
    step ∙ (rw test (ap (λ z. e ∷ z) (ih ∙ ap (λ z. t ++ longest_fit sites room z xs) (append_assoc before (e ∷ []) t))))
