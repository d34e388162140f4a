-- A run whose channels are deep enough is the one without a bound.
use Rattle.std.proofs.Common.{◌≡◌, ℕ, zero, suc, ◌+◌, ◌*◌, ◌<◌, ◌≤◌, nat_lt, Bool, true, false, List, [], ◌∷◌, ◌++◌, length, get_or, refl, ap, ◌∙◌, arith, Option, Some, None}
use Rattle.std.specs.Prelude.{slice_get, sum_by, if◌then◌else◌, ◌==◌}
use Rattle.std.proofs.lemmas.Bool.Decides.{nat_tests}
use Rattle.std.proofs.lemmas.List.{length-append}
use Rattle.std.proofs.lemmas.List.Sums.{sum_by-cons}
use mathlib.Core.Path.{fun_ext}
use Rattle.xb_bits.specs.Word.{Word}
use Rattle.xb_value.specs.declared.value.Value.{Value}
use Rattle.net_core.specs.declared.net.Chan.{Chan}
use Rattle.net_core.specs.declared.net.Kind.{Kind}
use Rattle.net_core.specs.declared.net.Kind.TheVariants as kind
use Rattle.net_core.specs.declared.net.Site.{Site}
use Rattle.net_core.specs.declared.event.Event.{Event}
use Rattle.net_core.specs.declared.event.Event.TheVariants.{Recv, Send, End}
use Rattle.net_core.specs.Behavior.{Behavior, Turn, Skip, Receive, Give, chan_at}
use Rattle.net_core.specs.Cuts.{Proc, Run, Cut, words_sent, words_at, received_at, room_by, room_at, fits_after, longest_fit, trace_of, reach, round, unbounded_round, rounds, most_events, final_cut, unbounded_cut, sites_at}
use Rattle.net_core.specs.Trace.{Histories, without_first, events_from, trace}

-- ---- how many events a proc makes at most

unfoldable on_word : Behavior → (Value → Histories → List Event) → Value → List Word → Histories → ℕ → Site → List Site → List Word → List Event
on_word b after s got words i site sites here =
    elim here [
      | [] ↦ []
      | w ∷ _ ↦ Recv i ∷ events_from b after s (got ++ w ∷ []) (without_first words site.chan) (suc i) sites
    ]

unfoldable at_turn : Behavior → (Value → Histories → List Event) → Value → List Word → Histories → ℕ → Site → List Site → Turn → List Event
at_turn b after s got words i site sites turn =
    elim turn [
      | Skip ↦ events_from b after s got words (suc i) sites
      | Receive ↦ on_word b after s got words i site sites (words site.chan)
      | Give w ↦ Send i w ∷ events_from b after s got words (suc i) sites
    ]

at_site : (b : Behavior) (after : Value → Histories → List Event) (s : Value) (got : List Word) (words : Histories) (i : ℕ) (site : Site) (sites : List Site) → events_from b after s got words i (site ∷ sites) ≡ at_turn b after s got words i site sites (b.turn s got i)
unfolding events_from at_turn on_word
at_site b after s got words i site sites = refl

word_small : (b : Behavior) (after : Value → Histories → List Event) (s : Value) (got : List Word) (words : Histories) (i m : ℕ) (site : Site) (sites : List Site) (here : List Word)
    → ((got' : List Word) (words' : Histories) (j : ℕ) → length (events_from b after s got' words' j sites) ≤ suc (length sites) + m)
    → length (on_word b after s got words i site sites here) ≤ suc (suc (length sites)) + m
unfolding on_word
word_small b after s got words i m site sites [] ih = omega arith
word_small b after s got words i m site sites (w ∷ ws) ih = omega (arith, ih (got ++ w ∷ []) (without_first words site.chan) (suc i))

turn_small : (b : Behavior) (after : Value → Histories → List Event) (s : Value) (got : List Word) (words : Histories) (i m : ℕ) (site : Site) (sites : List Site) (turn : Turn)
    → ((got' : List Word) (words' : Histories) (j : ℕ) → length (events_from b after s got' words' j sites) ≤ suc (length sites) + m)
    → length (at_turn b after s got words i site sites turn) ≤ suc (suc (length sites)) + m
unfolding at_turn
turn_small b after s got words i m site sites Skip ih = omega (arith, ih got words (suc i))
turn_small b after s got words i m site sites Receive ih = word_small b after s got words i m site sites (words site.chan) ih
turn_small b after s got words i m site sites (Give w) ih = omega (arith, ih got words (suc i))

events_small : (b : Behavior) (after : Value → Histories → List Event) (s : Value) (m : ℕ) → ((s' : Value) (words : Histories) → length (after s' words) ≤ m)
    → (sites : List Site) (got : List Word) (words : Histories) (i : ℕ) → length (events_from b after s got words i sites) ≤ suc (length sites) + m
events_small b after s m h [] got words i = unfold events_from in omega (arith, h (b.next_state s got) words)
events_small b after s m h (site ∷ sites) got words i =
    let ih = λ (got' : List Word) (words' : Histories) (j : ℕ). events_small b after s m h sites got' words' j in
    rw (at_site b after s got words i site sites) (turn_small b after s got words i m site sites (b.turn s got i) ih)

trace_small : (b : Behavior) (n : ℕ) (s : Value) (words : Histories) → length (trace b n s words) ≤ n * suc (length b.sites)
unfolding trace
trace_small b zero s words = omega arith
trace_small b (suc n) s words = omega (arith, events_small b (trace b n) s (n * suc (length b.sites)) (λ s' words'. trace_small b n s' words') b.sites [] words 0)

abbrev events_of : Proc → ℕ
events_of proc = suc (length proc.behavior.sites)

one_of_sum : (procs : List Proc) (p : ℕ) (proc : Proc) → slice_get procs p ≡ Some proc → events_of proc ≤ sum_by events_of procs
one_of_sum [] p proc there = absurd (cc)
one_of_sum (x ∷ procs) zero proc there = let same : x ≡ proc = cc in let s = sum_by-cons events_of x procs in let e = ap events_of same in omega (arith, s, e)
one_of_sum (x ∷ procs) (suc p) proc there = let s = sum_by-cons events_of x procs in let l = one_of_sum procs p proc there in omega (arith, s, l)

more_times : (n a b : ℕ) → a ≤ b → n * a ≤ n * b
more_times zero a b l = omega arith
more_times (suc n) a b l = let rest = more_times n a b l in omega (arith, l, rest)

trace_of_small : (run : Run) (p : ℕ) (words : Histories) (o : Option Proc) → slice_get run.procs p ≡ o → length (trace_of run.activations words o) ≤ most_events run
unfolding trace_of most_events
trace_of_small run p words None there = omega arith
trace_of_small run p words (Some proc) there =
    let l = trace_small proc.behavior run.activations proc.opening words in
    let m = more_times run.activations (events_of proc) (sum_by events_of run.procs) (one_of_sum run.procs p proc there) in
    omega (arith, l, m)

-- ---- room for all

sent_short : (sites : List Site) (c : ℕ) (es : List Event) → length (words_sent sites c es) ≤ length es
unfolding words_sent
sent_short sites c [] = omega arith
sent_short sites c (Recv i ∷ es) = let l = sent_short sites c es in omega (arith, l)
sent_short sites c (Send i w ∷ es) = at (chan_at sites i == c) (sent_short sites c es)
  where
    at : (b : Bool) → length (words_sent sites c es) ≤ length es → length (if b then w ∷ words_sent sites c es else words_sent sites c es) ≤ suc (length es)
    at true l = omega (arith, l)
    at false l = omega (arith, l)
sent_short sites c (End s ∷ es) = let l = sent_short sites c es in omega (arith, l)

fits_with_room : (sites : List Site) (room : ℕ → ℕ → Bool) (before : List Event) (e : Event) (most : ℕ) → length before < most → ((c j : ℕ) → j < most → room c j ≡ true) → fits_after sites room before e ≡ true
unfolding fits_after
fits_with_room sites room before (Recv i) most l h = refl
fits_with_room sites room before (Send i w) most l h = let s = sent_short sites (chan_at sites i) before in h (chan_at sites i) (length (words_sent sites (chan_at sites i) before)) (omega (arith, l, s))
fits_with_room sites room before (End s) most l h = refl

all_fit : (sites : List Site) (room : ℕ → ℕ → Bool) (before es : List Event) (most : ℕ) → length before + length es ≤ most → ((c j : ℕ) → j < most → room c j ≡ true) → longest_fit sites room before es ≡ es
unfolding longest_fit
all_fit sites room before [] most l h = refl
all_fit sites room before (e ∷ es) most l h =
    let long = length-append before (e ∷ []) in
    let more : length (before ++ e ∷ []) + length es ≤ most = omega (arith, l, long) in
    ap (λ b. if b then e ∷ longest_fit sites room (before ++ e ∷ []) es else []) (fits_with_room sites room before e most (omega (arith, l)) h)
    ∙ ap (λ xs. e ∷ xs) (all_fit sites room (before ++ e ∷ []) es most more h)

has_room : (run : Run) (cut : Cut) (most : ℕ) → ((c : ℕ) (chan : Chan) → slice_get run.chans c ≡ Some chan → chan.kind ≡ kind.Inner → most ≤ get_or run.depths c 0) → (c j : ℕ) → j < most → room_at run cut c j ≡ true
unfolding room_at room_by
has_room run cut most deep c j l = at (slice_get run.chans c) refl
  where
    by_kind : (chan : Chan) (k : Kind) → (k ≡ kind.Inner → most ≤ get_or run.depths c 0)
        → (elim k as (λ _. Bool) [ kind.Input ↦ true | kind.Output ↦ true | kind.Inner ↦ nat_lt j (received_at run cut c + get_or run.depths c 0) ]) ≡ true
    by_kind chan kind.Input d = refl
    by_kind chan kind.Output d = refl
    by_kind chan kind.Inner d = let far = d refl in let less : j < received_at run cut c + get_or run.depths c 0 = omega (arith, l, far) in grind (arith, nat_tests, less)

    at : (o : Option Chan) → slice_get run.chans c ≡ o → room_by run cut c j o ≡ true
    at None there = refl
    at (Some chan) there = by_kind chan chan.kind (deep c chan there)

-- ---- the cut

module _ (run : Run) (deep : (c : ℕ) (chan : Chan) → slice_get run.chans c ≡ Some chan → chan.kind ≡ kind.Inner → most_events run ≤ get_or run.depths c 0) where
  reach_same : (cut : Cut) (p : ℕ) → reach run cut p ≡ trace_of run.activations (words_at run cut) (slice_get run.procs p)
  unfolding reach
  reach_same cut p =
      let es = trace_of run.activations (words_at run cut) (slice_get run.procs p) in
      let l = trace_of_small run p (words_at run cut) (slice_get run.procs p) refl in
      all_fit (sites_at run p) (room_at run cut) [] es (most_events run) (omega (arith, l)) (has_room run cut (most_events run) deep)

  round_same : (cut : Cut) → round run cut ≡ unbounded_round run cut
  round_same cut = fun_ext (reach_same cut)

  rounds_same : (k : ℕ) → rounds (round run) k ≡ rounds (unbounded_round run) k
  rounds_same zero = refl
  rounds_same (suc k) = ap (round run) (rounds_same k) ∙ round_same (rounds (unbounded_round run) k)

  pub deep_cut : final_cut run ≡ unbounded_cut run
  unfolding final_cut unbounded_cut
  deep_cut = rounds_same (most_events run)
