-- Rounds come to a cut that they no longer change.
use Rattle.std.proofs.Common.{◌≡◌, ℕ, zero, suc, ◌+◌, ◌*◌, ◌<◌, ◌≤◌, List, [], ◌∷◌, ◌++◌, length, sym, ap, arith, Some, None, Option, inl, inr}
use Rattle.std.specs.Prelude.{slice_get, ◌⊎◌, sum_by}
use Rattle.std.proofs.lemmas.Bool.{cases_lt}
use Rattle.std.proofs.lemmas.List.Sums.{sum_by-cons}
use Rattle.std.proofs.Math.Nat.{mul-add}
use mathlib.Core.Path.{fun_ext}
use Rattle.xb_bits.specs.Word.{Word}
use Rattle.xb_value.specs.declared.value.Value.{Value}
use Rattle.net_core.specs.declared.net.Site.{Site}
use Rattle.net_core.specs.declared.event.Event.{Event}
use Rattle.net_core.specs.Behavior.{Behavior, Turn, Skip, Receive, Give}
use Rattle.net_core.specs.Trace.{Histories, without_first, events_from, trace}
use Rattle.net_core.specs.Cuts.{Proc, Run, Cut, IsWithin, trace_of, reach, round, unbounded_round, rounds, most_events, final_cut, unbounded_cut, sites_at, room_at, words_at}
use Rattle.base.proofs.Lemmas.Lists.Prefixes.{IsPrefix-length, IsPrefix-same}
use Rattle.net_core.proofs.Traces.{at_turn, on_word, at_site}
use Rattle.net_core.proofs.Reach.{reach_grows, trace_of_reach_grows, longest_fit-front}

-- how many events a proc makes at most
size_of : ℕ → Option Proc → ℕ
size_of n None = 0
size_of n (Some proc) = n * suc (length proc.behavior.sites)

-- all events of a cut
total : List Proc → Cut → ℕ
total [] cut = 0
total (proc ∷ procs) cut = length (cut 0) + total procs (λ p. cut (suc p))

total_grows : (procs : List Proc) (cut more : Cut) → IsWithin cut more → total procs cut ≤ total procs more
unfolding total
total_grows [] cut more f = omega arith
total_grows (proc ∷ procs) cut more f =
    omega (arith, IsPrefix-length _ _ (f 0), total_grows procs (λ p. cut (suc p)) (λ p. more (suc p)) (λ p. f (suc p)))

total_same : (n : ℕ) (procs : List Proc) (cut more : Cut) → IsWithin cut more → ((p : ℕ) → length (more p) ≤ size_of n (slice_get procs p))
    → total procs more ≤ total procs cut → (p : ℕ) → more p ≡ cut p
unfolding total size_of
total_same n [] cut more f small h p = sym (IsPrefix-same _ _ (f p) (omega (arith, small p)))
total_same n (proc ∷ procs) cut more f small h zero =
    sym (IsPrefix-same _ _ (f 0) (omega (arith, h, IsPrefix-length _ _ (f 0), total_grows procs (λ p. cut (suc p)) (λ p. more (suc p)) (λ p. f (suc p)))))
total_same n (proc ∷ procs) cut more f small h (suc p) =
    total_same n procs (λ q. cut (suc q)) (λ q. more (suc q)) (λ q. f (suc q)) (λ q. small (suc q))
    (omega (arith, h, IsPrefix-length _ _ (f 0))) p

total_bound : (n : ℕ) (procs : List Proc) (cut : Cut) → ((p : ℕ) → length (cut p) ≤ size_of n (slice_get procs p))
    → total procs cut ≤ n * sum_by (λ proc. suc (length proc.behavior.sites)) procs
unfolding total size_of
total_bound n [] cut small = omega arith
total_bound n (proc ∷ procs) cut small =
    let e = sum_by-cons (λ (x : Proc). suc (length x.behavior.sites)) proc procs in
    omega (arith, small 0, total_bound n procs (λ p. cut (suc p)) (λ p. small (suc p)), ap (λ m. n * m) e, mul-add n (suc (length proc.behavior.sites)) (sum_by (λ (x : Proc). suc (length x.behavior.sites)) procs))

module _ (run : Run) (next : Cut → Cut) (grows : (cut more : Cut) → IsWithin cut more → IsWithin (next cut) (next more))
    (small : (cut : Cut) (p : ℕ) → length (next cut p) ≤ size_of run.activations (slice_get run.procs p)) where
  rounds_grow : (k : ℕ) → IsWithin (rounds next k) (rounds next (suc k))
  rounds_grow zero p = tt
  rounds_grow (suc k) p = grows (rounds next k) (rounds next (suc k)) (λ q. rounds_grow k q) p

  -- a round either changes nothing or makes an event
  stop : (k : ℕ) → (rounds next (suc k) ≡ rounds next k) ⊎ (suc k ≤ total run.procs (rounds next (suc k)))
  stop zero = go (cases_lt 0 (total run.procs (rounds next 1)))
    where
      go : (0 < total run.procs (rounds next 1)) ⊎ (total run.procs (rounds next 1) ≤ 0) → (rounds next 1 ≡ rounds next 0) ⊎ (1 ≤ total run.procs (rounds next 1))
      go (inl l) = inr (omega arith)
      go (inr l) = inl (fun_ext (total_same run.activations run.procs (rounds next 0) (rounds next 1) (rounds_grow 0) (small (rounds next 0)) (omega (arith, l))))
  stop (suc k) = go (stop k) (cases_lt (total run.procs (rounds next (suc k))) (total run.procs (rounds next (suc (suc k)))))
    where
      go : (rounds next (suc k) ≡ rounds next k) ⊎ (suc k ≤ total run.procs (rounds next (suc k)))
          → (total run.procs (rounds next (suc k)) < total run.procs (rounds next (suc (suc k)))) ⊎ (total run.procs (rounds next (suc (suc k))) ≤ total run.procs (rounds next (suc k)))
          → (rounds next (suc (suc k)) ≡ rounds next (suc k)) ⊎ (suc (suc k) ≤ total run.procs (rounds next (suc (suc k))))
      go (inl e) _ = inl (ap next e)
      go (inr h) (inl l) = inr (omega (arith, h, l))
      go (inr h) (inr l) = inl (fun_ext (total_same run.activations run.procs (rounds next (suc k)) (rounds next (suc (suc k))) (rounds_grow (suc k)) (small (rounds next (suc k))) l))

  rounds_stop : next (rounds next (most_events run)) ≡ rounds next (most_events run)
  unfolding most_events
  rounds_stop = go (stop (most_events run))
    where
      go : (rounds next (suc (most_events run)) ≡ rounds next (most_events run)) ⊎ (suc (most_events run) ≤ total run.procs (rounds next (suc (most_events run)))) → next (rounds next (most_events run)) ≡ rounds next (most_events run)
      go (inl e) = e
      go (inr h) = absurd (omega (arith, h, total_bound run.activations run.procs (rounds next (suc (most_events run))) (small (rounds next (most_events run)))))

word_small : (b : Behavior) (after : Value → Histories → List Event) (s : Value) (got : List Word) (words : Histories) (i m : ℕ) (site : Site) (sites : List Site) (here : List Word)
    → ((got' : List Word) (words' : Histories) (j : ℕ) → length (events_from b after s got' words' j sites) ≤ suc (length sites) + m)
    → length (on_word b after s got words i site sites here) ≤ suc (suc (length sites)) + m
unfolding on_word
word_small b after s got words i m site sites [] ih = omega arith
word_small b after s got words i m site sites (w ∷ ws) ih = omega (arith, ih (got ++ w ∷ []) (without_first words site.chan) (suc i))

turn_small : (b : Behavior) (after : Value → Histories → List Event) (s : Value) (got : List Word) (words : Histories) (i m : ℕ) (site : Site) (sites : List Site) (turn : Turn)
    → ((got' : List Word) (words' : Histories) (j : ℕ) → length (events_from b after s got' words' j sites) ≤ suc (length sites) + m)
    → length (at_turn b after s got words i site sites turn) ≤ suc (suc (length sites)) + m
unfolding at_turn
turn_small b after s got words i m site sites Skip ih = omega (arith, ih got words (suc i))
turn_small b after s got words i m site sites Receive ih = word_small b after s got words i m site sites (words site.chan) ih
turn_small b after s got words i m site sites (Give w) ih = omega (arith, ih got words (suc i))

-- an activation has at most one event at each site, and its end
events_small : (b : Behavior) (after : Value → Histories → List Event) (s : Value) (m : ℕ) → ((s' : Value) (words : Histories) → length (after s' words) ≤ m)
    → (sites : List Site) (got : List Word) (words : Histories) (i : ℕ) → length (events_from b after s got words i sites) ≤ suc (length sites) + m
events_small b after s m h [] got words i = unfold events_from in omega (arith, h (b.next_state s got) words)
events_small b after s m h (site ∷ sites) got words i =
    let ih = λ (got' : List Word) (words' : Histories) (j : ℕ). events_small b after s m h sites got' words' j in
    rw (at_site b after s got words i site sites) (turn_small b after s got words i m site sites (b.turn s got i) ih)

trace_small : (b : Behavior) (n : ℕ) (s : Value) (words : Histories) → length (trace b n s words) ≤ n * suc (length b.sites)
unfolding trace
trace_small b zero s words = omega arith
trace_small b (suc n) s words = omega (arith, events_small b (trace b n) s (n * suc (length b.sites)) (λ s' words'. trace_small b n s' words') b.sites [] words 0)

trace_of_small : (n : ℕ) (words : Histories) (proc : Option Proc) → length (trace_of n words proc) ≤ size_of n proc
unfolding trace_of size_of
trace_of_small n words None = omega arith
trace_of_small n words (Some proc) = trace_small proc.behavior n proc.opening words

-- what rounds come to, a round no longer changes
pub final_stays : (run : Run) → round run (final_cut run) ≡ final_cut run
unfolding final_cut
final_stays run =
    rounds_stop run (round run) (λ cut more f p. reach_grows run cut more p f)
    (λ cut p. unfold reach in omega (arith, IsPrefix-length _ _ (longest_fit-front (sites_at run p) (room_at run cut) [] (trace_of run.activations (words_at run cut) (slice_get run.procs p))), trace_of_small run.activations (words_at run cut) (slice_get run.procs p)))

pub unbounded_stays : (run : Run) → unbounded_round run (unbounded_cut run) ≡ unbounded_cut run
unfolding unbounded_cut
unbounded_stays run =
    rounds_stop run (unbounded_round run) (λ cut more f p. trace_of_reach_grows run cut more p f)
    (λ cut p. trace_of_small run.activations (words_at run cut) (slice_get run.procs p))
