-- A cut that is known by counts alone: each proc has made a front of its trace over the final words, has sent no more
-- than in the final cut, and has received and sent only what the channels had.
use Rattle.std.proofs.Common.{◌≡◌, ℕ, suc, ◌<◌, ◌≤◌, List, [], ◌∷◌, ◌++◌, length, drop, refl, sym, ap, ◌∙◌, subst, arith, true, false, Bool, cond, eqb, Some, None, Option, inl, inr, append_assoc}
use Rattle.std.specs.Prelude.{slice_get, get_or, nat_lt, ◌+◌, ◌⊎◌}
use Rattle.std.proofs.lemmas.List.{length-drop, length-append, append_cancel_left, append-nil}
use Rattle.xb_bits.specs.Word.{Word}
use Rattle.net_core.specs.declared.net.Site.{Site}
use Rattle.net_core.specs.declared.net.Chan.{Chan}
use Rattle.net_core.specs.declared.net.Kind.{Kind}
use Rattle.net_core.specs.declared.net.Kind.TheVariants.{Input, Output, Inner}
use Rattle.net_core.specs.declared.event.Event.{Event}
use Rattle.net_core.specs.declared.event.Event.TheVariants.{Recv, Send, End}
use Rattle.net_core.specs.Behavior.{Behavior, chan_at}
use Rattle.net_core.specs.Trace.{Histories}
use Rattle.net_core.specs.Cuts.{Proc, Run, Cut, IsWithin, sites_of, sites_at, words_sent, count_received, words_at, received_at, room_by, room_at, fits_after, longest_fit, trace_of, reach, round, final_cut}
use Rattle.base.specs.Lists.Prefix.{IsPrefix}
use mathlib.Core.Path.{fun_ext}
use Rattle.net_core.specs.Machine.{Position, opened, moved, left_after, goes}
use Rattle.net_core.proofs.Steps.{reach_is, reach_none}
use Rattle.net_core.proofs.Confluence.{stuck_is_final}
use Rattle.base.proofs.Lemmas.Lists.Prefixes.{IsPrefix-refl, rest_of}
use Rattle.net_core.proofs.Traces.{IsLonger}
use Rattle.net_core.proofs.Resume.{trace_from, trace_opened, has_word, is_left, goes_on, prefix_goes, left_grows, moved_grows}
use Rattle.net_core.proofs.Reach.{longest_fit-front, longest_fit_resumes, longest_fit_step, words_at_grow}
use Rattle.net_core.proofs.Rounds.{final_stays}
use Rattle.net_core.proofs.Flows.{words_sent-append, eqb-itself}
use Rattle.net_core.specs.Counted.{IsCounted}

-- two fronts of one list: one is a prefix of the other
comparable : {A : Type 0} (xs ys zs : List A) → IsPrefix xs zs → IsPrefix ys zs → IsPrefix xs ys ⊎ IsPrefix ys xs
comparable [] ys zs f g = inl tt
comparable (x ∷ xs) [] zs f g = inr tt
comparable (x ∷ xs) (y ∷ ys) [] f g = absurd f
comparable (x ∷ xs) (y ∷ ys) (z ∷ zs) f g = go (comparable xs ys zs f.1 g.1)
  where
    go : IsPrefix xs ys ⊎ IsPrefix ys xs → IsPrefix (x ∷ xs) (y ∷ ys) ⊎ IsPrefix (y ∷ ys) (x ∷ xs)
    go (inl h) = inl (f.0 ∙ sym g.0, h)
    go (inr h) = inr (g.0 ∙ sym f.0, h)

left_some : (xs : List Word) → 1 ≤ length xs → is_left xs ≡ true
left_some [] h = absurd (omega (arith, h))
left_some (x ∷ xs) h = refl

finds : (sites : List Site) (words : Histories) (e : Event) (t : List Event) → ((c : ℕ) → count_received sites c (e ∷ t) ≤ length (words c)) → has_word sites words e ≡ true
unfolding has_word count_received
finds sites words (Recv i) t h =
    let here = h (chan_at sites i) in
    let same : eqb (chan_at sites i) (chan_at sites i) ≡ true = eqb-itself _ _ refl in
    let some = subst (λ b. cond b (suc (count_received sites (chan_at sites i) t)) (count_received sites (chan_at sites i) t) ≤ length (words (chan_at sites i))) same here in
    left_some (words (chan_at sites i)) (omega (arith, some))
finds sites words (Send i w) t h = refl
finds sites words (End s) t h = refl

left_counts : (sites : List Site) (words : Histories) (e : Event) (t : List Event) → ((c : ℕ) → count_received sites c (e ∷ t) ≤ length (words c))
    → (c : ℕ) → count_received sites c t ≤ length (left_after sites e words c)
unfolding count_received
left_counts sites words (Recv i) t h c = go (eqb (chan_at sites i) c) (h c)
  where
    go : (b : Bool) → cond b (suc (count_received sites c t)) (count_received sites c t) ≤ length (words c) → count_received sites c t ≤ length (cond b (drop 1 (words c)) (words c))
    go true k = omega (arith, k, length-drop 1 (words c))
    go false k = k
left_counts sites words (Send i w) t h c = h c
left_counts sites words (End s) t h c = h c

-- events whose receives find their words in shorter histories are a prefix of the trace over those too
causal : (b : Behavior) (n : ℕ) (t : List Event) (at : Position) (words more : Histories) → IsLonger words more → IsPrefix t (trace_from b n at more)
    → ((c : ℕ) → count_received b.sites c t ≤ length (words c)) → IsPrefix t (trace_from b n at words)
causal b n [] at words more l f h = tt
causal b n (e ∷ t) at words more l f h =
    let g = prefix_goes b n at more e t f in
    let found = finds b.sites words e t h in
    let on = goes_on b n at words g.0.active (subst (λ x. has_word b.sites words x ≡ true) g.0.next found) in
    let rest = subst (λ x. trace_from b n at words ≡ x ∷ trace_from b n (moved b.sites at x words) (left_after b.sites x words)) (sym g.0.next) on.rest in
    let same = moved_grows b.sites at e words more l found in
    let front = subst (λ x. IsPrefix t (trace_from b n x (left_after b.sites e more))) (sym same) g.1 in
    let ih = causal b n t (moved b.sites at e words) (left_after b.sites e words) (left_after b.sites e more) (left_grows b.sites e words more l) front (left_counts b.sites words e t h) in
    subst (λ xs. IsPrefix (e ∷ t) xs) (sym rest) (refl, ih)

send_counts : (sites : List Site) (c : ℕ) (t : List Event) (i : ℕ) (w : Word) → chan_at sites i ≡ c → 1 ≤ length (words_sent sites c (Send i w ∷ t))
unfolding words_sent
send_counts sites c t i w e =
    let same : eqb (chan_at sites i) c ≡ true = eqb-itself _ _ e in
    subst (λ b. 1 ≤ length (cond b (w ∷ words_sent sites c t) (words_sent sites c t))) (sym same) (omega arith)

sends_more : (sites : List Site) (c : ℕ) (before t : List Event) (i : ℕ) (w : Word) → chan_at sites i ≡ c
    → length (words_sent sites c before) < length (words_sent sites c (before ++ Send i w ∷ t))
sends_more sites c before t i w e =
    let whole = ap length (words_sent-append sites c before (Send i w ∷ t)) in
    let sum = length-append (words_sent sites c before) (words_sent sites c (Send i w ∷ t)) in
    omega (arith, whole, sum, here)
  where
    here : 1 ≤ length (words_sent sites c (Send i w ∷ t))
    here = send_counts sites c t i w e

event_fits : (sites : List Site) (room : ℕ → ℕ → Bool) (before : List Event) (e : Event) (t : List Event)
    → ((c j : ℕ) → j < length (words_sent sites c (before ++ e ∷ t)) → room c j ≡ true) → fits_after sites room before e ≡ true
unfolding fits_after
event_fits sites room before (Recv i) t h = refl
event_fits sites room before (Send i w) t h = h (chan_at sites i) _ (sends_more sites (chan_at sites i) before t i w refl)
event_fits sites room before (End s) t h = refl

-- events that have room stay in the longest fit
fits_all : (sites : List Site) (room : ℕ → ℕ → Bool) (t before xs : List Event) → IsPrefix t xs
    → ((c j : ℕ) → j < length (words_sent sites c (before ++ t)) → room c j ≡ true) → IsPrefix t (longest_fit sites room before xs)
fits_all sites room [] before xs f h = tt
fits_all sites room (e ∷ t) before [] f h = absurd f
fits_all sites room (e ∷ t) before (x ∷ xs) f h =
    let fits = event_fits sites room before e t h in
    let ih = fits_all sites room t (before ++ e ∷ []) xs f.1 (λ c j l. h c j (subst (λ ys. j < length (words_sent sites c ys)) (append_assoc before (e ∷ []) t) l)) in
    let step = longest_fit_step sites room before e xs ∙ ap (λ b. cond b (e ∷ longest_fit sites room (before ++ e ∷ []) xs) []) fits in
    subst (λ y. IsPrefix (e ∷ t) (longest_fit sites room before (y ∷ xs))) f.0 (subst (λ ys. IsPrefix (e ∷ t) ys) (sym step) (refl, ih))

-- a send that has no room
abbrev HasNoRoom : List Site → (ℕ → ℕ → Bool) → List Event → Event → Type 0
HasNoRoom sites room before e =
    (i : ℕ) × (w : Word) × (e ≡ Send i w) × (room (chan_at sites i) (length (words_sent sites (chan_at sites i) before)) ≡ false)

no_room : (sites : List Site) (room : ℕ → ℕ → Bool) (before : List Event) (e : Event) → fits_after sites room before e ≡ false → HasNoRoom sites room before e
unfolding fits_after
no_room sites room before (Recv i) h = cc
no_room sites room before (Send i w) h = (i, w, refl, h)
no_room sites room before (End s) h = cc

-- where the longest fit ends, a send stands that has no room
send_behind : (sites : List Site) (room : ℕ → ℕ → Bool) (before : List Event) (e : Event) (xs : List Event) → longest_fit sites room before (e ∷ xs) ≡ []
    → HasNoRoom sites room before e
send_behind sites room before e xs h = go (fits_after sites room before e) refl (sym (longest_fit_step sites room before e xs) ∙ h)
  where
    go : (b : Bool) → fits_after sites room before e ≡ b → cond b (e ∷ longest_fit sites room (before ++ e ∷ []) xs) [] ≡ [] → HasNoRoom sites room before e
    go true k m = cc
    go false k m = no_room sites room before e k

-- a front behind which the trace goes on, though it is the longest fit, has sent less, on a channel without room
longer_sends : (sites : List Site) (room : ℕ → ℕ → Bool) (made rest more xs : List Event) (e : Event) → longest_fit sites room [] xs ≡ made → xs ≡ made ++ e ∷ rest
    → (c : ℕ) × (length (words_sent sites c made) < length (words_sent sites c (made ++ e ∷ more))) × (room c (length (words_sent sites c made)) ≡ false)
longer_sends sites room made rest more xs e fit split =
    let front : IsPrefix made (longest_fit sites room [] (made ++ e ∷ rest)) = subst (λ ys. IsPrefix made (longest_fit sites room [] ys)) split (subst (λ ys. IsPrefix made ys) (sym fit) (IsPrefix-refl made)) in
    let resumed = longest_fit_resumes sites room made [] (e ∷ rest) front in
    let whole : longest_fit sites room [] (made ++ e ∷ rest) ≡ made = ap (λ ys. longest_fit sites room [] ys) (sym split) ∙ fit in
    let none = append_cancel_left made _ [] (sym resumed ∙ (whole ∙ sym (append-nil made))) in
    let send = send_behind sites room made e rest none in
    let c = chan_at sites send.0 in
    (c, subst (λ x. length (words_sent sites c made) < length (words_sent sites c (made ++ x ∷ more))) (sym send.2) (sends_more sites c made more send.0 send.1 refl), send.3)

-- only an inner channel lacks room
lacks_room : (run : Run) (cut : Cut) (c j : ℕ) → room_at run cut c j ≡ false → (chan : Chan) × (slice_get run.chans c ≡ Some chan) × (chan.kind ≡ Inner)
unfolding room_at room_by
lacks_room run cut c j h = go (slice_get run.chans c) refl h
  where
    by_kind : (chan : Chan) → slice_get run.chans c ≡ Some chan → (kind : Kind) → chan.kind ≡ kind
        → ◌≡◌ {A = Bool} (elim kind as (λ _. Bool) [ Input ↦ true | Output ↦ true | Inner ↦ nat_lt j (received_at run cut c + get_or run.depths c 0) ]) false
        → (chan : Chan) × (slice_get run.chans c ≡ Some chan) × (chan.kind ≡ Inner)
    by_kind chan e Input k h = cc
    by_kind chan e Output k h = cc
    by_kind chan e Inner k h = (chan, e, k)

    go : (o : Option Chan) → slice_get run.chans c ≡ o → room_by run cut c j o ≡ false → (chan : Chan) × (slice_get run.chans c ≡ Some chan) × (chan.kind ≡ Inner)
    go None e h = cc
    go (Some chan) e h = by_kind chan e chan.kind refl h

by_prefix : (xs ys : List Event) → IsPrefix xs ys → (ys ≡ xs) ⊎ ((e : Event) × (rest : List Event) × (ys ≡ xs ++ e ∷ rest))
by_prefix [] [] f = inl refl
by_prefix [] (y ∷ ys) f = inr (y, ys, refl)
by_prefix (x ∷ xs) [] f = absurd f
by_prefix (x ∷ xs) (y ∷ ys) f = go (by_prefix xs ys f.1)
  where
    go : (ys ≡ xs) ⊎ ((e : Event) × (rest : List Event) × (ys ≡ xs ++ e ∷ rest)) → (y ∷ ys ≡ x ∷ xs) ⊎ ((e : Event) × (rest : List Event) × (y ∷ ys ≡ x ∷ xs ++ e ∷ rest))
    go (inl e) = inl (let h = f.0 in cc)
    go (inr r) = inr (r.0, r.1, (let h = f.0 in let e = r.2 in cc))

-- the trace that a proc makes by the final words
pub final_trace : Run → ℕ → List Event
final_trace run p = trace_of run.activations (words_at run (final_cut run)) (slice_get run.procs p)

pub final_reach : (run : Run) (p : ℕ) → longest_fit (sites_at run p) (room_at run (final_cut run)) [] (final_trace run p) ≡ final_cut run p
unfolding reach final_trace
final_reach run p = let e = final_stays run in ap (λ (c : Cut). c p) e

-- the final cut is a prefix of the traces that it makes
pub final_in_trace : (run : Run) (p : ℕ) → IsPrefix (final_cut run p) (trace_of run.activations (words_at run (final_cut run)) (slice_get run.procs p))
unfolding final_trace
final_in_trace run p =
    subst (λ xs. IsPrefix xs (final_trace run p)) (final_reach run p) (longest_fit-front (sites_at run p) (room_at run (final_cut run)) [] (final_trace run p))

pub no_trace : (n : ℕ) (words : Histories) (xs : List Event) → IsPrefix xs (trace_of n words None) → IsPrefix xs []
unfolding trace_of
no_trace n words xs f = f

pub some_trace : (n : ℕ) (words : Histories) (proc : Proc) (xs : List Event) → IsPrefix xs (trace_of n words (Some proc)) → IsPrefix xs (trace_from proc.behavior n (opened proc) words)
unfolding trace_of
some_trace n words proc xs f = subst (λ ys. IsPrefix xs ys) (trace_opened proc n words) f

module _ (run : Run) (cut : Cut) (known : IsCounted run cut) where
  made_prefix : (p : ℕ) → IsPrefix (cut p) (final_trace run p)
  unfolding final_trace
  made_prefix p = known.made p

  final_prefix : (p : ℕ) → IsPrefix (final_cut run p) (final_trace run p)
  unfolding final_trace
  final_prefix p = final_in_trace run p

  pub counted_below : IsWithin cut (final_cut run)
  counted_below p = go (comparable (cut p) (final_cut run p) (final_trace run p) (made_prefix p) (final_prefix p))
    where
      past : (e : Event) → (rest : List Event) → cut p ≡ final_cut run p ++ e ∷ rest → IsPrefix (cut p) (final_cut run p)
      past e rest split =
          let all = rest_of (cut p) (final_trace run p) (made_prefix p) in
          let whole : final_trace run p ≡ final_cut run p ++ e ∷ (rest ++ all.0) = all.1 ∙ (ap (λ ys. ys ++ all.0) split ∙ append_assoc (final_cut run p) (e ∷ rest) all.0) in
          let less = longer_sends (sites_at run p) (room_at run (final_cut run)) (final_cut run p) (rest ++ all.0) rest (final_trace run p) e (final_reach run p) whole in
          let inner = lacks_room run (final_cut run) less.0 _ less.2 in
          let sent = known.sent p less.0 inner.0 inner.1 inner.2 in
          let same = ap (λ ys. length (words_sent (sites_at run p) less.0 ys)) split in
          absurd (omega (arith, less.1, sent, same))

      go : IsPrefix (cut p) (final_cut run p) ⊎ IsPrefix (final_cut run p) (cut p) → IsPrefix (cut p) (final_cut run p)
      go (inl f) = f
      go (inr f) = by (by_prefix (final_cut run p) (cut p) f)
        where
          by : (cut p ≡ final_cut run p) ⊎ ((e : Event) × (rest : List Event) × (cut p ≡ final_cut run p ++ e ∷ rest)) → IsPrefix (cut p) (final_cut run p)
          by (inl e) = subst (λ xs. IsPrefix xs (final_cut run p)) (sym e) (IsPrefix-refl (final_cut run p))
          by (inr r) = past r.0 r.1 r.2

  pub longer : IsLonger (words_at run cut) (words_at run (final_cut run))
  longer = words_at_grow run cut (final_cut run) counted_below

  -- each proc is within its own reach
  pub counted_consistent : IsWithin cut (round run cut)
  counted_consistent p = go (slice_get run.procs p) refl
    where
      go : (o : Option Proc) → slice_get run.procs p ≡ o → IsPrefix (cut p) (reach run cut p)
      go None e =
          let none = subst (λ o. IsPrefix (cut p) (trace_of run.activations (words_at run (final_cut run)) o)) e (known.made p) in
          rw (reach_none run cut p e) (no_trace run.activations (words_at run (final_cut run)) (cut p) none)
      go (Some proc) e =
          let made = subst (λ o. IsPrefix (cut p) (trace_of run.activations (words_at run (final_cut run)) o)) e (known.made p) in
          let at = some_trace run.activations (words_at run (final_cut run)) proc (cut p) made in
          let sites = ap sites_of e in
          let received = λ (c : ℕ). subst (λ ss. count_received ss c (cut p) ≤ length (words_at run cut c)) sites (known.received p c) in
          let front = causal proc.behavior run.activations (cut p) (opened proc) (words_at run cut) (words_at run (final_cut run)) longer at received in
          let room = λ (c j : ℕ) (l : j < length (words_sent proc.behavior.sites c (cut p))). known.room p c j (subst (λ ss. j < length (words_sent ss c (cut p))) (sym sites) l) in
          rw (reach_is run cut p proc e) (fits_all proc.behavior.sites (room_at run cut) (cut p) [] (trace_from proc.behavior run.activations (opened proc) (words_at run cut)) front room)

  -- where no proc can go it is the final cut
  pub counted_final : ((p : ℕ) → p < length run.procs → goes run cut p ≡ false) → cut ≡ final_cut run
  counted_final stuck = fun_ext (stuck_is_final run cut counted_consistent counted_below stuck)
