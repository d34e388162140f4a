-- Procs that have stopped within the final cut, and whose channels' counts were compared, are counted.
use Rattle.std.proofs.Common.{◌≡◌, ◌≢◌, ℕ, zero, suc, ◌+◌, ◌<◌, ◌≤◌, List, [], ◌∷◌, ◌++◌, length, drop, get_or, refl, sym, ap, ◌∙◌, subst, arith, cond, true, false, Bool, eqb, Some, None, Option, inl, inr, append_assoc}
use Rattle.std.specs.Prelude.{slice_get, nat_lt, ◌⊎◌}
use Rattle.std.proofs.lemmas.Bool.Decides.{nat_tests}
use Rattle.std.proofs.lemmas.List.{length-append}
use Rattle.base.specs.Lists.Prefix.{IsPrefix}
use Rattle.base.proofs.Lemmas.Lists.Prefixes.{rest_of, IsPrefix-trans}
use Rattle.xb_bits.specs.Word.{Word}
use Rattle.xb_value.specs.declared.value.Value.{Value}
use Rattle.net_core.specs.declared.net.Site.{Site}
use Rattle.net_core.specs.declared.net.Chan.{Chan}
use Rattle.net_core.specs.declared.net.Kind.{Kind}
use Rattle.net_core.specs.declared.net.Kind.TheVariants.{Input, Output, Inner}
use Rattle.net_core.specs.declared.event.Event.{Event}
use Rattle.net_core.specs.declared.event.Event.TheVariants.{Recv, Send, End}
use Rattle.net_core.specs.Behavior.{Behavior, Turn, Skip, Receive, Give, IsInDirection, KeepsTypes, chan_at, event_from, next_event}
use Rattle.net_core.specs.Trace.{Histories}
use Rattle.net_core.specs.Cuts.{Proc, Run, Cut, sites_of, sites_at, sender, receiver, words_sent, count_received, words_by, words_at, received_at, room_by, room_at, trace_of, final_cut}
use Rattle.net_core.specs.Machine.{Position, opened, position_after, next_of, goes}
use Rattle.net_core.specs.WellFormed.{IsRun}
use Rattle.net_core.specs.Counted.{IsCounted}
use Rattle.net_core.proofs.Lemmas.{event_turn, event_site, next_is_the_traces, only_sent_words_are_received, counted_cuts_end_at_the_final_cut}
use Rattle.chan_queue.specs.Streams.Streams.{AreStopped}
use Rattle.chan_queue.proofs.OnStreams.Within.{final_prefix, final_in_trace, chan_there, sent_append, received_append, inner_room}

-- the site of a proc's event, in the event's direction
abbrev HasSite : Behavior → Event → Type 0
HasSite b (Recv i) = (site : Site) × (slice_get b.sites i ≡ Some site) × (site.sends ≡ false)
HasSite b (Send i w) = (site : Site) × (slice_get b.sites i ≡ Some site) × (site.sends ≡ true)
HasSite b (End s) = Unit {0}

pub behind : (sites : List Site) (i : ℕ) (site : Site) (rest : List Site) → drop i sites ≡ site ∷ rest → (slice_get sites i ≡ Some site) × (drop (suc i) sites ≡ rest)
behind [] zero site rest e = cc
behind [] (suc i) site rest e = cc
behind (x ∷ xs) zero site rest e = let h : x ≡ site = cc in let r : xs ≡ rest = cc in (ap Some h, r)
behind (x ∷ xs) (suc i) site rest e = behind xs i site rest e

located : (b : Behavior) → KeepsTypes b → (s : Value) (got : List Word) (sites : List Site) (i : ℕ) → drop i b.sites ≡ sites → HasSite b (event_from b s got i sites)
unfolding event_turn
located b keep s got [] i e = unfold event_from in tt
located b keep s got (site ∷ rest) i e =
    let here = behind b.sites i site rest e in
    rw (event_site b s got i site rest) (go (b.turn s got i) refl here.0 (located b keep s got rest (suc i) here.1))
  where
    go : (turn : Turn) → b.turn s got i ≡ turn → slice_get b.sites i ≡ Some site → HasSite b (event_from b s got (suc i) rest) → HasSite b (event_turn b s got i rest turn)
    go Skip t place later = later
    go Receive t place later = (site, place, subst (λ u. IsInDirection site u) t (keep.directions s got i site place))
    go (Give w) t place later = (site, place, subst (λ u. IsInDirection site u) t (keep.directions s got i site place))

next_located : (b : Behavior) → KeepsTypes b → (at : Position) → HasSite b (next_of b at)
unfolding next_event
next_located b keep at = located b keep at.state at.got (drop at.done b.sites) at.done refl

-- each event that a proc makes is at a site of its direction
placed : (run : Run) → IsRun run → (p : ℕ) (proc : Proc) → slice_get run.procs p ≡ Some proc → (made : List Event) → IsPrefix made (final_cut run p)
    → (xs : List Event) (e : Event) (ys : List Event) → made ≡ xs ++ e ∷ ys → HasSite proc.behavior e
placed run fits p proc proc_is made within xs e ys split =
    let more = rest_of made (final_cut run p) within in
    let all = rest_of (final_cut run p) _ (final_in_trace run p proc proc_is) in
    let whole = all.1 ∙ (ap (λ (zs : List Event). zs ++ all.0) (more.1 ∙ (ap (λ (zs : List Event). zs ++ more.0) split ∙ append_assoc xs (e ∷ ys) more.0)) ∙ append_assoc xs (e ∷ (ys ++ more.0)) all.0) in
    let next = next_is_the_traces proc run.activations (words_at run (final_cut run)) xs ((ys ++ more.0) ++ all.0) e whole in
    subst (λ x. HasSite proc.behavior x) (sym next) (next_located proc.behavior (fits.keeps_types p proc proc_is) (position_after proc.behavior.sites (opened proc) xs (words_at run (final_cut run))))

abbrev FindsReceive : List Site → ℕ → List Event → Type 0
FindsReceive sites c es = (xs : List Event) × (i : ℕ) × (ys : List Event) × (es ≡ xs ++ Recv i ∷ ys) × (chan_at sites i ≡ c)

abbrev FindsSend : List Site → ℕ → List Event → Type 0
FindsSend sites c es = (xs : List Event) × (i : ℕ) × (w : Word) × (ys : List Event) × (es ≡ xs ++ Send i w ∷ ys) × (chan_at sites i ≡ c)

later_receive : (sites : List Site) (c : ℕ) (e : Event) (es : List Event) → FindsReceive sites c es → FindsReceive sites c (e ∷ es)
later_receive sites c e es f = (e ∷ f.0, f.1, f.2, ap (λ (zs : List Event). e ∷ zs) f.3, f.4)

later_send : (sites : List Site) (c : ℕ) (e : Event) (es : List Event) → FindsSend sites c es → FindsSend sites c (e ∷ es)
later_send sites c e es f = (e ∷ f.0, f.1, f.2, f.3, ap (λ (zs : List Event). e ∷ zs) f.4, f.5)

find_receive : (sites : List Site) (c : ℕ) (es : List Event) → 1 ≤ count_received sites c es → FindsReceive sites c es
unfolding count_received
find_receive sites c [] l = absurd (omega (arith, l))
find_receive sites c (Recv i ∷ es) l = go (eqb (chan_at sites i) c) refl l (λ m. find_receive sites c es m)
  where
    go : (b : Bool) → eqb (chan_at sites i) c ≡ b → 1 ≤ cond b (suc (count_received sites c es)) (count_received sites c es) → (1 ≤ count_received sites c es → FindsReceive sites c es) → FindsReceive sites c (Recv i ∷ es)
    go true e l ih = let same : chan_at sites i ≡ c = grind (arith, nat_tests) in ([], i, es, refl, same)
    go false e l ih = later_receive sites c (Recv i) es (ih l)
find_receive sites c (Send i w ∷ es) l = later_receive sites c (Send i w) es (find_receive sites c es l)
find_receive sites c (End s ∷ es) l = later_receive sites c (End s) es (find_receive sites c es l)

find_send : (sites : List Site) (c : ℕ) (es : List Event) → 1 ≤ length (words_sent sites c es) → FindsSend sites c es
unfolding words_sent
find_send sites c [] l = absurd (omega (arith, l))
find_send sites c (Recv i ∷ es) l = later_send sites c (Recv i) es (find_send sites c es l)
find_send sites c (Send i w ∷ es) l = go (eqb (chan_at sites i) c) refl l (λ m. find_send sites c es m)
  where
    go : (b : Bool) → eqb (chan_at sites i) c ≡ b → 1 ≤ length (cond b (w ∷ words_sent sites c es) (words_sent sites c es)) → (1 ≤ length (words_sent sites c es) → FindsSend sites c es) → FindsSend sites c (Send i w ∷ es)
    go true e l ih = let same : chan_at sites i ≡ c = grind (arith, nat_tests) in ([], i, w, es, refl, same)
    go false e l ih = later_send sites c (Send i w) es (ih l)
find_send sites c (End s ∷ es) l = later_send sites c (End s) es (find_send sites c es l)

lt_is : (m n : ℕ) → m < n → nat_lt m n ≡ true
lt_is m n h = grind (arith, nat_tests)

zero_or_more : (k : ℕ) → (k ≡ 0) ⊎ (1 ≤ k)
zero_or_more zero = inl refl
zero_or_more (suc k) = inr (omega arith)

no_count : (c : ℕ) (es : List Event) → es ≡ [] → count_received [] c es ≡ 0
unfolding count_received
no_count c es e = ap (λ xs. count_received [] c xs) e

no_words : (c : ℕ) (es : List Event) → es ≡ [] → length (words_sent [] c es) ≡ 0
unfolding words_sent
no_words c es e = ap (λ xs. length (words_sent [] c xs)) e

no_trace : (n : ℕ) (words : Histories) (es : List Event) → IsPrefix es (trace_of n words None) → es ≡ []
unfolding trace_of
no_trace n words [] f = refl
no_trace n words (x ∷ xs) f = absurd f

-- the words of the outside are there from the start
pub input_words : (run : Run) (cut : Cut) (c : ℕ) (chan : Chan) → slice_get run.chans c ≡ Some chan → chan.kind ≡ Input → words_at run cut c ≡ get_or run.inputs c []
unfolding words_at words_by
input_words run cut c chan e is = ap (λ o. words_by run cut c o) e ∙ by_kind chan.kind is
  where
    by_kind : (kind : Kind) → kind ≡ Input
        → ◌≡◌ {A = List Word} (elim kind as (λ _. List Word) [ Input ↦ get_or run.inputs c [] | Output ↦ words_sent (sites_at run (sender run c)) c (cut (sender run c)) | Inner ↦ words_sent (sites_at run (sender run c)) c (cut (sender run c)) ]) (get_or run.inputs c [])
    by_kind Input k = refl
    by_kind Output k = cc
    by_kind Inner k = cc

sent_words : (run : Run) (cut : Cut) (c : ℕ) (chan : Chan) → slice_get run.chans c ≡ Some chan → chan.kind ≡ Inner → words_at run cut c ≡ words_sent (sites_at run (sender run c)) c (cut (sender run c))
unfolding words_at words_by
sent_words run cut c chan e is = ap (λ o. words_by run cut c o) e ∙ by_kind chan.kind is
  where
    by_kind : (kind : Kind) → kind ≡ Inner
        → ◌≡◌ {A = List Word} (elim kind as (λ _. List Word) [ Input ↦ get_or run.inputs c [] | Output ↦ words_sent (sites_at run (sender run c)) c (cut (sender run c)) | Inner ↦ words_sent (sites_at run (sender run c)) c (cut (sender run c)) ])
        (words_sent (sites_at run (sender run c)) c (cut (sender run c)))
    by_kind Input k = cc
    by_kind Output k = cc
    by_kind Inner k = refl

-- a channel that isn't inner always has room
outer_room : (run : Run) (cut : Cut) (c j : ℕ) → ((chan : Chan) → slice_get run.chans c ≡ Some chan → chan.kind ≡ Inner → room_at run cut c j ≡ true) → room_at run cut c j ≡ true
unfolding room_at room_by
outer_room run cut c j inner = go (slice_get run.chans c) refl
  where
    by_kind : (chan : Chan) → slice_get run.chans c ≡ Some chan → (kind : Kind) → chan.kind ≡ kind
        → ◌≡◌ {A = Bool} (elim kind as (λ _. Bool) [ Input ↦ true | Output ↦ true | Inner ↦ nat_lt j (received_at run cut c + get_or run.depths c 0) ]) true
    by_kind chan e Input k = refl
    by_kind chan e Output k = refl
    by_kind chan e Inner k = sym (inner_room run cut c j chan e k) ∙ inner chan e k

    go : (o : Option Chan) → slice_get run.chans c ≡ o → room_by run cut c j o ≡ true
    go None e = refl
    go (Some chan) e = by_kind chan e chan.kind refl

sent_grows : (sites : List Site) (c : ℕ) (xs ys : List Event) → IsPrefix xs ys → length (words_sent sites c xs) ≤ length (words_sent sites c ys)
sent_grows sites c xs ys f =
    let r = rest_of xs ys f in
    omega (arith, ap (λ es. length (words_sent sites c es)) r.1, ap length (sent_append sites c xs r.0), length-append (words_sent sites c xs) (words_sent sites c r.0))

received_grows : (sites : List Site) (c : ℕ) (xs ys : List Event) → IsPrefix xs ys → count_received sites c xs ≤ count_received sites c ys
received_grows sites c xs ys f =
    let r = rest_of xs ys f in
    omega (arith, ap (λ es. count_received sites c es) r.1, received_append sites c xs r.0)

module _ (run : Run) (fits : IsRun run) (cut : Cut) (stopped : AreStopped run cut) where
  no_events : (p : ℕ) → slice_get run.procs p ≡ None → cut p ≡ []
  no_events p e =
      no_trace run.activations (words_at run (final_cut run)) (cut p)
      (IsPrefix-trans _ _ _ (stopped.within p) (subst (λ o. IsPrefix (final_cut run p) (trace_of run.activations (words_at run (final_cut run)) o)) e (final_prefix run p)))

  -- who receives from a channel is its receiver
  receives_there : (p c : ℕ) → 1 ≤ count_received (sites_at run p) c (cut p) → (receiver run c ≡ p) × ((chan : Chan) × (slice_get run.chans c ≡ Some chan) × (chan.kind ≢ Output))
  receives_there p c l = go (slice_get run.procs p) refl l
    where
      go : (o : Option Proc) → slice_get run.procs p ≡ o → 1 ≤ count_received (sites_of o) c (cut p) → (receiver run c ≡ p) × ((chan : Chan) × (slice_get run.chans c ≡ Some chan) × (chan.kind ≢ Output))
      go None e m = absurd (omega (arith, m, no_count c (cut p) (no_events p e)))
      go (Some proc) e m =
          let found = find_receive proc.behavior.sites c (cut p) m in
          let site = placed run fits p proc e (cut p) (stopped.within p) found.0 (Recv found.1) found.2 found.3 in
          let here : site.0.chan ≡ c = sym (chan_there proc.behavior.sites found.1 site.0 site.1) ∙ found.4 in
          let f = fits.sites p found.1 proc site.0 (record { proc_is = e; place = site.1 }) in
          (ap (λ d. receiver run d) (sym here) ∙ f.receives site.2, (f.chan, ap (λ d. slice_get run.chans d) (sym here) ∙ f.chan_is, f.no_receive site.2))

  -- who sends on it is its sender
  sends_there : (p c : ℕ) → 1 ≤ length (words_sent (sites_at run p) c (cut p)) → sender run c ≡ p
  sends_there p c l = go (slice_get run.procs p) refl l
    where
      go : (o : Option Proc) → slice_get run.procs p ≡ o → 1 ≤ length (words_sent (sites_of o) c (cut p)) → sender run c ≡ p
      go None e m = absurd (omega (arith, m, no_words c (cut p) (no_events p e)))
      go (Some proc) e m =
          let found = find_send proc.behavior.sites c (cut p) m in
          let site = placed run fits p proc e (cut p) (stopped.within p) found.0 (Send found.1 found.2) found.3 found.4 in
          let here : site.0.chan ≡ c = sym (chan_there proc.behavior.sites found.1 site.0 site.1) ∙ found.5 in
          let f = fits.sites p found.1 proc site.0 (record { proc_is = e; place = site.1 }) in
          ap (λ d. sender run d) (sym here) ∙ f.sends site.2

  received_is : (p c : ℕ) → receiver run c ≡ p → received_at run cut c ≡ count_received (sites_at run p) c (cut p)
  unfolding received_at
  received_is p c ours = ap (λ q. count_received (sites_at run q) c (cut q)) ours

  received_fits : (p c : ℕ) → count_received (sites_at run p) c (cut p) ≤ length (words_at run cut c)
  received_fits p c = go (zero_or_more (count_received (sites_at run p) c (cut p)))
    where
      by_kind : (chan : Chan) → slice_get run.chans c ≡ Some chan → chan.kind ≢ Output → receiver run c ≡ p → (kind : Kind) → chan.kind ≡ kind → count_received (sites_at run p) c (cut p) ≤ length (words_at run cut c)
      by_kind chan e not_out ours Input k =
          let same = input_words run cut c chan e k ∙ sym (input_words run (final_cut run) c chan e k) in
          omega (arith, ap length same, received_grows (sites_at run p) c (cut p) (final_cut run p) (stopped.within p), only_sent_words_are_received run p c)
      by_kind chan e not_out ours Output k = absurd (not_out k)
      by_kind chan e not_out ours Inner k = omega (arith, stopped.received c chan e k, received_is p c ours)

      go : (count_received (sites_at run p) c (cut p) ≡ 0) ⊎ (1 ≤ count_received (sites_at run p) c (cut p)) → count_received (sites_at run p) c (cut p) ≤ length (words_at run cut c)
      go (inl e) = omega (arith, e)
      go (inr l) = let there = receives_there p c l in by_kind there.1.0 there.1.1 there.1.2 there.0 there.1.0.kind refl

  room_fits : (p c j : ℕ) → j < length (words_sent (sites_at run p) c (cut p)) → room_at run cut c j ≡ true
  room_fits p c j l =
      outer_room run cut c j (λ chan e k.
      let ours = sends_there p c (omega (arith, l)) in
      let words = sent_words run cut c chan e k ∙ ap (λ q. words_sent (sites_at run q) c (cut q)) ours in
      inner_room run cut c j chan e k ∙ lt_is _ _ (omega (arith, l, ap length words, stopped.room c chan e k)))

  pub counted : IsCounted run cut
  counted = record {
    made = λ p. IsPrefix-trans _ _ _ (stopped.within p) (final_prefix run p);
    sent = λ p c chan e k. sent_grows (sites_at run p) c (cut p) (final_cut run p) (stopped.within p);
    received = received_fits;
    room = room_fits;
  }

  pub come_to_the_end : ((p : ℕ) → p < length run.procs → goes run cut p ≡ false) → cut ≡ final_cut run
  come_to_the_end stuck = counted_cuts_end_at_the_final_cut run cut counted stuck
