-- The outcome of a run doesn't depend on the names of its channels.
use Rattle.std.proofs.Common.{◌≡◌, ◌+◌, ℕ, zero, suc, Bool, true, List, [], ◌∷◌, take, length, get_or, Option, Some, None, nat_lt, refl, sym, ap, ◌∙◌}
use Rattle.std.specs.Prelude.{slice_get}
use mathlib.Core.Path.{fun_ext}
use Rattle.base.specs.Lists.Indexed.{indexed}
use Rattle.xb_bits.specs.Word.{Word}
use Rattle.net_core.specs.Cuts.{Cut, Proc, Run, final_cut, longest_fit, most_events, reach, received_at, room_at, room_by, round, rounds, sender, sites_at, trace_of, words_at, words_by, words_sent}
use Rattle.net_core.specs.Outcomes.{count_ends, end_of, next_in, outcome_of, stall_by, stall_in, state_after, stream_of, with_one_more}
use Rattle.net_core.specs.Trace.{Histories, trace}
use Rattle.net_core.specs.declared.net.Chan.{Chan}
use Rattle.net_core.specs.declared.net.Kind.{Kind}
use Rattle.net_core.specs.declared.net.Kind.TheVariants.{Input, Output, Inner}
use Rattle.net_core.specs.declared.outcome.ProcEnd.{ProcEnd}
use Rattle.net_core.specs.declared.outcome.Stream.{Stream}
use Rattle.dslx_total.specs.Nets.Numbered.{numbered_from}

-- channels of the same kinds
abbrev SameKinds : List Chan → List Chan → Type 0
SameKinds [] [] = Unit {0}
SameKinds (x ∷ xs) (y ∷ ys) = (x.kind ≡ y.kind) × SameKinds xs ys
SameKinds [] (y ∷ ys) = ⊥
SameKinds (x ∷ xs) [] = ⊥

abbrev SameKind : Option Chan → Option Chan → Type 0
SameKind None None = Unit {0}
SameKind (Some x) (Some y) = x.kind ≡ y.kind
SameKind None (Some y) = ⊥
SameKind (Some x) None = ⊥

same_there : (xs ys : List Chan) → SameKinds xs ys → (c : ℕ) → SameKind (slice_get xs c) (slice_get ys c)
same_there [] [] h zero = tt
same_there [] [] h (suc c) = tt
same_there [] (y ∷ ys) h c = absurd h
same_there (x ∷ xs) [] h c = absurd h
same_there (x ∷ xs) (y ∷ ys) h zero = h.0
same_there (x ∷ xs) (y ∷ ys) h (suc c) = same_there xs ys h.1 c

unfoldable words_in : Run → Cut → ℕ → Kind → List Word
words_in run cut c k =
    elim k [
      | Input ↦ get_or run.inputs c []
      | Output ↦ words_sent (sites_at run (sender run c)) c (cut (sender run c))
      | Inner ↦ words_sent (sites_at run (sender run c)) c (cut (sender run c))
    ]

words_are : (run : Run) (cut : Cut) (c : ℕ) (x : Chan) → words_by run cut c (Some x) ≡ words_in run cut c x.kind
unfolding words_by words_in
words_are run cut c x = refl

unfoldable room_in : Run → Cut → ℕ → ℕ → Kind → Bool
room_in run cut c j k =
    elim k [
      | Input ↦ true
      | Output ↦ true
      | Inner ↦ nat_lt j (received_at run cut c + get_or run.depths c 0)
    ]

room_is : (run : Run) (cut : Cut) (c j : ℕ) (x : Chan) → room_by run cut c j (Some x) ≡ room_in run cut c j x.kind
unfolding room_by room_in
room_is run cut c j x = refl

unfoldable stream_in : List Word → ℕ → Kind → Stream
stream_in words received k =
    elim k [
      | Input ↦ record { words = take received words; received = received }
      | Output ↦ record { words = words; received = 0 }
      | Inner ↦ record { words = words; received = received }
    ]

stream_is : (run : Run) (cut : Cut) (c : ℕ) (x : Chan) → stream_of run cut c x ≡ stream_in (words_at run cut c) (received_at run cut c) x.kind
unfolding stream_of stream_in
stream_is run cut c x = refl

module _ (ps : List Proc) (xs ys : List Chan) (kinds : SameKinds xs ys) (inputs : List (List Word)) (n : ℕ) (depths : List ℕ) where
  abbrev one : Run
  one = record { procs = ps; chans = xs; inputs = inputs; activations = n; depths = depths }

  abbrev two : Run
  two = record { procs = ps; chans = ys; inputs = inputs; activations = n; depths = depths }

  kind_words : (cut : Cut) (c : ℕ) (k : Kind) → words_in one cut c k ≡ words_in two cut c k
  unfolding words_in
  kind_words cut c k = refl

  received_same : (cut : Cut) (c : ℕ) → received_at one cut c ≡ received_at two cut c
  unfolding received_at
  received_same cut c = refl

  kind_room : (cut : Cut) (c j : ℕ) (k : Kind) → room_in one cut c j k ≡ room_in two cut c j k
  unfolding room_in received_at
  kind_room cut c j k = refl

  words_same : (cut : Cut) (c : ℕ) → words_at one cut c ≡ words_at two cut c
  unfolding words_at words_by
  words_same cut c = by (slice_get xs c) (slice_get ys c) (same_there xs ys kinds c)
    where
      by : (o p : Option Chan) → SameKind o p → words_by one cut c o ≡ words_by two cut c p
      by None None h = refl
      by None (Some y) h = absurd h
      by (Some x) None h = absurd h
      by (Some x) (Some y) h = words_are one cut c x ∙ ap (words_in one cut c) h ∙ kind_words cut c y.kind ∙ sym (words_are two cut c y)

  room_same : (cut : Cut) (c j : ℕ) → room_at one cut c j ≡ room_at two cut c j
  unfolding room_at room_by
  room_same cut c j = by (slice_get xs c) (slice_get ys c) (same_there xs ys kinds c)
    where
      by : (o p : Option Chan) → SameKind o p → room_by one cut c j o ≡ room_by two cut c j p
      by None None h = refl
      by None (Some y) h = absurd h
      by (Some x) None h = absurd h
      by (Some x) (Some y) h = room_is one cut c j x ∙ ap (room_in one cut c j) h ∙ kind_room cut c j y.kind ∙ sym (room_is two cut c j y)

  all_words : (cut : Cut) → words_at one cut ≡ words_at two cut
  all_words cut = fun_ext (words_same cut)

  reach_same : (cut : Cut) (p : ℕ) → reach one cut p ≡ reach two cut p
  unfolding reach
  reach_same cut p =
      let room : room_at one cut ≡ room_at two cut = fun_ext (λ c. fun_ext (room_same cut c)) in
      let words = all_words cut in
      ap (λ (r : ℕ → ℕ → Bool). longest_fit (sites_at one p) r [] (trace_of n (words_at one cut) (slice_get ps p))) room
      ∙ ap (λ (ws : Histories). longest_fit (sites_at one p) (room_at two cut) [] (trace_of n ws (slice_get ps p))) words

  round_same : round one ≡ round two
  round_same = fun_ext (λ cut. fun_ext (reach_same cut))

  final_same : final_cut one ≡ final_cut two
  unfolding final_cut most_events
  final_same = ap (λ (f : Cut → Cut). rounds f (most_events one)) round_same

  stream_same : (cut : Cut) (c : ℕ) (x y : Chan) → x.kind ≡ y.kind → stream_of one cut c x ≡ stream_of two cut c y
  stream_same cut c x y e =
      stream_is one cut c x
      ∙ ap (λ (ws : List Word). stream_in ws (received_at one cut c) x.kind) (words_same cut c)
      ∙ ap (λ k. stream_in (words_at two cut c) k x.kind) (received_same cut c)
      ∙ ap (stream_in (words_at two cut c) (received_at two cut c)) e
      ∙ sym (stream_is two cut c y)

  streams_same : (cut : Cut) (k : ℕ) (as' bs : List Chan) → SameKinds as' bs → indexed (stream_of one cut) k as' ≡ indexed (stream_of two cut) k bs
  streams_same cut k [] [] h = refl
  streams_same cut k [] (b ∷ bs) h = absurd h
  streams_same cut k (a ∷ as') [] h = absurd h
  streams_same cut k (a ∷ as') (b ∷ bs) h = λ i. stream_same cut k a b h.0 i ∷ streams_same cut (suc k) as' bs h.1 i

  stall_same : (cut : Cut) (p : ℕ) (x : Proc) → stall_in one cut p x ≡ stall_in two cut p x
  unfolding stall_in next_in
  stall_same cut p x = ap (λ (ws : Histories). stall_by x.behavior.sites (count_ends (cut p)) (slice_get (trace x.behavior n x.opening (with_one_more ws)) (length (cut p)))) (all_words cut)

  end_same : (cut : Cut) (p : ℕ) (x : Proc) → end_of one cut p x ≡ end_of two cut p x
  end_same cut p x = λ i. record { state = state_after x.opening (cut p); ends = count_ends (cut p); stall = stall_same cut p x i }

  pub outcome_same : outcome_of one (final_cut one) ≡ outcome_of two (final_cut two)
  outcome_same =
      let cut = final_cut one in
      let streams = streams_same cut 0 xs ys kinds in
      let ends : indexed (end_of one cut) 0 ps ≡ indexed (end_of two cut) 0 ps = ap (λ (f : ℕ → Proc → ProcEnd). indexed f 0 ps) (fun_ext (λ p. fun_ext (end_same cut p))) in
      (λ i. record { streams = streams i; procs = ends i }) ∙ ap (outcome_of two) final_same

pub numbered_kinds : (k : ℕ) (xs : List Chan) → SameKinds xs (numbered_from k xs)
numbered_kinds k [] = tt
numbered_kinds k (x ∷ xs) = (refl, numbered_kinds (suc k) xs)
