-- A proc within the final cut makes the next event of the final cut, or has made all of them and can't go.
use Rattle.std.proofs.Common.{◌≡◌, ℕ, zero, suc, ◌+◌, ◌<◌, ◌≤◌, List, [], ◌∷◌, ◌++◌, length, get_or, refl, sym, ap, ◌∙◌, subst, arith, cond, true, false, Bool, eqb, Some, inl, inr, append_assoc}
use Rattle.std.specs.Prelude.{slice_get, nat_lt, ◌&&◌, ◌⊎◌}
use Rattle.std.proofs.lemmas.Bool.Decides.{nat_tests}
use Rattle.std.proofs.lemmas.List.{append-nil}
use Rattle.base.specs.Lists.Prefix.{IsPrefix}
use Rattle.base.proofs.Lemmas.Lists.Prefixes.{rest_of, IsPrefix-append_both}
use Rattle.base.proofs.Lemmas.Lists.Indices.{slice_get-append_right}
use Rattle.xb_bits.specs.Word.{Word}
use Rattle.xb_value.specs.declared.value.Value.{Value}
use Rattle.net_core.specs.declared.net.Site.{Site}
use Rattle.net_core.specs.declared.net.Chan.{Chan}
use Rattle.net_core.specs.declared.net.Kind.{Kind}
use Rattle.net_core.specs.declared.net.Kind.TheVariants.{Input, Output, Inner}
use Rattle.net_core.specs.declared.event.Event.{Event}
use Rattle.net_core.specs.declared.event.Event.TheVariants.{Recv, Send, End}
use Rattle.net_core.specs.Behavior.{chan_at}
use Rattle.net_core.specs.Trace.{trace}
use Rattle.net_core.specs.Cuts.{Proc, Run, Cut, sites_of, sites_at, sender, receiver, words_sent, count_received, words_by, words_at, received_at, room_by, room_at, fits_after, longest_fit, trace_of, reach, final_cut}
use Rattle.net_core.specs.Machine.{opened, position_after, next_of, finds_word, goes_by}
use Rattle.net_core.specs.WellFormed.{IsRun}
use Rattle.net_core.proofs.Lemmas.{rounds_settle, next_is_the_traces, no_proc_can_go_at_the_end, only_sent_words_are_received, each_sent_word_had_room}
use Rattle.chan_queue.specs.Streams.Streams.{StandsBefore, IsSiteOn}

fit_prefix : (sites : List Site) (room : ℕ → ℕ → Bool) (before xs : List Event) → IsPrefix (longest_fit sites room before xs) xs
unfolding longest_fit
fit_prefix sites room before [] = tt
fit_prefix sites room before (x ∷ xs) = go (fits_after sites room before x) (fit_prefix sites room (before ++ x ∷ []) xs)
  where
    go : (b : Bool) → IsPrefix (longest_fit sites room (before ++ x ∷ []) xs) xs → IsPrefix (cond b (x ∷ longest_fit sites room (before ++ x ∷ []) xs) []) (x ∷ xs)
    go true f = (refl, f)
    go false f = tt

-- the final cut is a prefix of the traces over its words
pub final_prefix : (run : Run) (p : ℕ) → IsPrefix (final_cut run p) (trace_of run.activations (words_at run (final_cut run)) (slice_get run.procs p))
unfolding reach
final_prefix run p =
    let settled = ap (λ (c : Cut). c p) (rounds_settle run) in
    subst (λ xs. IsPrefix xs (trace_of run.activations (words_at run (final_cut run)) (slice_get run.procs p))) settled
    (fit_prefix (sites_at run p) (room_at run (final_cut run)) [] (trace_of run.activations (words_at run (final_cut run)) (slice_get run.procs p)))

pub final_in_trace : (run : Run) (p : ℕ) (proc : Proc) → slice_get run.procs p ≡ Some proc
    → IsPrefix (final_cut run p) (trace proc.behavior run.activations proc.opening (words_at run (final_cut run)))
unfolding trace_of
final_in_trace run p proc e = subst (λ o. IsPrefix (final_cut run p) (trace_of run.activations (words_at run (final_cut run)) o)) e (final_prefix run p)

pub chan_there : (sites : List Site) (i : ℕ) (site : Site) → slice_get sites i ≡ Some site → chan_at sites i ≡ site.chan
chan_there [] i site e = cc
chan_there (x ∷ xs) zero site e = let h : x ≡ site = cc in ap (λ (y : Site). y.chan) h
chan_there (x ∷ xs) (suc i) site e = chan_there xs i site e

pub sent_append : (sites : List Site) (c : ℕ) (xs ys : List Event) → words_sent sites c (xs ++ ys) ≡ words_sent sites c xs ++ words_sent sites c ys
unfolding words_sent
sent_append sites c [] ys = refl
sent_append sites c (Recv i ∷ xs) ys = sent_append sites c xs ys
sent_append sites c (Send i w ∷ xs) ys = go (eqb (chan_at sites i) c) (sent_append sites c xs ys)
  where
    go : (b : Bool) → words_sent sites c (xs ++ ys) ≡ words_sent sites c xs ++ words_sent sites c ys
        → cond b (w ∷ words_sent sites c (xs ++ ys)) (words_sent sites c (xs ++ ys)) ≡ cond b (w ∷ words_sent sites c xs) (words_sent sites c xs) ++ words_sent sites c ys
    go true e = ap (λ (zs : List Word). w ∷ zs) e
    go false e = e
sent_append sites c (End s ∷ xs) ys = sent_append sites c xs ys

pub received_append : (sites : List Site) (c : ℕ) (xs ys : List Event) → count_received sites c (xs ++ ys) ≡ count_received sites c xs + count_received sites c ys
unfolding count_received
received_append sites c [] ys = omega arith
received_append sites c (Recv i ∷ xs) ys = go (eqb (chan_at sites i) c) (received_append sites c xs ys)
  where
    go : (b : Bool) → count_received sites c (xs ++ ys) ≡ count_received sites c xs + count_received sites c ys
        → cond b (suc (count_received sites c (xs ++ ys))) (count_received sites c (xs ++ ys)) ≡ cond b (suc (count_received sites c xs)) (count_received sites c xs) + count_received sites c ys
    go true e = omega (arith, e)
    go false e = e
received_append sites c (Send i w ∷ xs) ys = received_append sites c xs ys
received_append sites c (End s ∷ xs) ys = received_append sites c xs ys

pub same_number : (m n : ℕ) → m ≡ n → eqb m n ≡ true
same_number m n h = grind (arith, nat_tests)

sent_here : (sites : List Site) (c i : ℕ) (w : Word) (rest : List Event) → chan_at sites i ≡ c → words_sent sites c (Send i w ∷ rest) ≡ w ∷ words_sent sites c rest
unfolding words_sent
sent_here sites c i w rest e = ap (λ b. cond b (w ∷ words_sent sites c rest) (words_sent sites c rest)) (same_number _ _ e)

received_here : (sites : List Site) (c i : ℕ) (rest : List Event) → chan_at sites i ≡ c → count_received sites c (Recv i ∷ rest) ≡ suc (count_received sites c rest)
unfolding count_received
received_here sites c i rest e = ap (λ b. cond b (suc (count_received sites c rest)) (count_received sites c rest)) (same_number _ _ e)

-- of an inner channel the words are those of its sender
pub inner_words : (run : Run) (cut : Cut) (p c : ℕ) (proc : Proc) (chan : Chan) → slice_get run.procs p ≡ Some proc → slice_get run.chans c ≡ Some chan → chan.kind ≡ Inner → sender run c ≡ p
    → words_at run cut c ≡ words_sent proc.behavior.sites c (cut p)
unfolding words_at words_by
inner_words run cut p c proc chan e chan_is inner ours =
    ap (λ o. words_by run cut c o) chan_is ∙ (by_kind chan.kind inner
    ∙ (ap (λ q. words_sent (sites_at run q) c (cut q)) ours ∙ ap (λ o. words_sent (sites_of o) c (cut p)) e))
  where
    by_kind : (kind : Kind) → kind ≡ Inner
        → ◌≡◌ {A = List Word} (elim kind as (λ _. List Word) [ Input ↦ get_or run.inputs c [] | Output ↦ words_sent (sites_at run (sender run c)) c (cut (sender run c)) | Inner ↦ words_sent (sites_at run (sender run c)) c (cut (sender run c)) ])
        (words_sent (sites_at run (sender run c)) c (cut (sender run c)))
    by_kind Input k = cc
    by_kind Output k = cc
    by_kind Inner k = refl

pub received_by : (run : Run) (cut : Cut) (p c : ℕ) (proc : Proc) → slice_get run.procs p ≡ Some proc → receiver run c ≡ p → received_at run cut c ≡ count_received proc.behavior.sites c (cut p)
unfolding received_at
received_by run cut p c proc e ours = ap (λ q. count_received (sites_at run q) c (cut q)) ours ∙ ap (λ o. count_received (sites_of o) c (cut p)) e

pub inner_room : (run : Run) (cut : Cut) (c j : ℕ) (chan : Chan) → slice_get run.chans c ≡ Some chan → chan.kind ≡ Inner → room_at run cut c j ≡ nat_lt j (received_at run cut c + get_or run.depths c 0)
unfolding room_at room_by
inner_room run cut c j chan chan_is inner = ap (λ o. room_by run cut c j o) chan_is ∙ by_kind chan.kind inner
  where
    by_kind : (kind : Kind) → kind ≡ Inner
        → ◌≡◌ {A = Bool} (elim kind as (λ _. Bool) [ Input ↦ true | Output ↦ true | Inner ↦ nat_lt j (received_at run cut c + get_or run.depths c 0) ]) (nat_lt j (received_at run cut c + get_or run.depths c 0))
    by_kind Input k = cc
    by_kind Output k = cc
    by_kind Inner k = refl

lt_true : (m n : ℕ) → nat_lt m n ≡ true → m < n
lt_true m n h = grind (arith, nat_tests)

lt_false : (m n : ℕ) → nat_lt m n ≡ false → n ≤ m
lt_false m n h = grind (arith, nat_tests)

lt_is : (m n : ℕ) → m < n → nat_lt m n ≡ true
lt_is m n h = grind (arith, nat_tests)

active_tests : (a b : Bool) → a ≡ true → a && b ≡ false → b ≡ false
active_tests true b e h = h
active_tests false b e h = cc

module _ (run : Run) (p : ℕ) (proc : Proc) (made : List Event) (event : Event) (before : StandsBefore run p proc made event) where
  -- what of the final cut is left
  left : (rest : List Event) × (final_cut run p ≡ made ++ rest)
  left = rest_of made (final_cut run p) before.within

  -- the event of the final cut that comes next is the proc's
  comes_next : (e : Event) (rest : List Event) → final_cut run p ≡ made ++ e ∷ rest → e ≡ event
  comes_next e rest split =
      let all = rest_of (final_cut run p) _ (final_in_trace run p proc before.proc_is) in
      let whole = all.1 ∙ (ap (λ (xs : List Event). xs ++ all.0) split ∙ append_assoc made (e ∷ rest) all.0) in
      next_is_the_traces proc run.activations (words_at run (final_cut run)) made (rest ++ all.0) e whole ∙ before.next

  -- and leaves it within the final cut
  stays : (rest : List Event) → final_cut run p ≡ made ++ event ∷ rest → IsPrefix (made ++ event ∷ []) (final_cut run p)
  stays rest split = subst (λ xs. IsPrefix (made ++ event ∷ []) xs) (sym split) (IsPrefix-append_both made (event ∷ []) (event ∷ rest) (refl, tt))

  -- where it has made all of the final cut, it can't go
  pub tests : final_cut run p ≡ made → finds_word proc.behavior.sites (words_at run (final_cut run)) made event && fits_after proc.behavior.sites (room_at run (final_cut run)) made event ≡ false
  unfolding goes_by
  tests same =
      let b = proc.behavior in
      let words = words_at run (final_cut run) in
      let room = room_at run (final_cut run) in
      let stuck = subst (λ o. goes_by run (final_cut run) p o ≡ false) before.proc_is (no_proc_can_go_at_the_end run p) in
      let here = subst (λ es. nat_lt (position_after b.sites (opened proc) es words).ends run.activations
      && (finds_word b.sites words es (next_of b (position_after b.sites (opened proc) es words)) && fits_after b.sites room es (next_of b (position_after b.sites (opened proc) es words))) ≡ false) same stuck in
      let waits = active_tests _ _ (lt_is _ _ before.active) here in
      subst (λ e. finds_word b.sites words made e && fits_after b.sites room made e ≡ false) before.next waits

  -- the one or the other
  pub made_or_next : (final_cut run p ≡ made) ⊎ ((rest : List Event) × (final_cut run p ≡ made ++ event ∷ rest))
  made_or_next = go left.0 left.1
    where
      go : (rest : List Event) → final_cut run p ≡ made ++ rest → (final_cut run p ≡ made) ⊎ ((rest : List Event) × (final_cut run p ≡ made ++ event ∷ rest))
      go [] e = inl (e ∙ append-nil made)
      go (x ∷ xs) e = inr (xs, e ∙ ap (λ (y : Event). made ++ y ∷ xs) (comes_next x xs e))

pub ends_within : (run : Run) (p : ℕ) (proc : Proc) (made : List Event) (state : Value) → StandsBefore run p proc made (End state) → IsPrefix (made ++ End state ∷ []) (final_cut run p)
unfolding finds_word fits_after
ends_within run p proc made state before = go (made_or_next run p proc made (End state) before)
  where
    go : (final_cut run p ≡ made) ⊎ ((rest : List Event) × (final_cut run p ≡ made ++ End state ∷ rest)) → IsPrefix (made ++ End state ∷ []) (final_cut run p)
    go (inl same) = let wrong = tests run p proc made (End state) before same in cc
    go (inr next) = stays run p proc made (End state) before next.0 next.1

no_less : (k limit : ℕ) → (k ≡ 0) ⊎ ((j : ℕ) × (k ≡ suc j) × (j < limit)) → k ≤ limit
no_less k limit (inl e) = omega (arith, e)
no_less k limit (inr s) = omega (arith, s.1, s.2)

zero_or_more : (k : ℕ) → (k ≡ 0) ⊎ ((j : ℕ) × (k ≡ suc j))
zero_or_more zero = inl refl
zero_or_more (suc k) = inr (k, refl)

pub sends_within : (run : Run) (p : ℕ) (proc : Proc) (made : List Event) (i : ℕ) (word : Word) (site : Site) → IsRun run → StandsBefore run p proc made (Send i word) → IsSiteOn run proc i site true
    → ((slice_get (words_at run (final_cut run) site.chan) (length (words_sent proc.behavior.sites site.chan made)) ≡ Some word) × IsPrefix (made ++ Send i word ∷ []) (final_cut run p))
    ⊎ ((length (words_sent proc.behavior.sites site.chan made) ≡ length (words_at run (final_cut run) site.chan))
    × (length (words_sent proc.behavior.sites site.chan made) ≡ received_at run (final_cut run) site.chan + get_or run.depths site.chan 0))
unfolding finds_word fits_after
sends_within run p proc made i word site fits before on = go (made_or_next run p proc made (Send i word) before)
  where
    c : ℕ
    c = site.chan

    sites : List Site
    sites = proc.behavior.sites

    here : chan_at sites i ≡ c
    here = chan_there sites i site on.place

    words : words_at run (final_cut run) c ≡ words_sent sites c (final_cut run p)
    words = inner_words run (final_cut run) p c proc on.chan before.proc_is on.chan_is on.inner ((fits.sites p i proc site (record { proc_is = before.proc_is; place = on.place })).sends on.direction)

    had_room : (j : ℕ) → j < length (words_sent sites c (final_cut run p)) → j < received_at run (final_cut run) c + get_or run.depths c 0
    had_room j l =
        lt_true _ _ (sym (inner_room run (final_cut run) c j on.chan on.chan_is on.inner)
        ∙ each_sent_word_had_room run p c j (subst (λ ss. j < length (words_sent ss c (final_cut run p))) (sym (ap sites_of before.proc_is)) l))

    go : (final_cut run p ≡ made) ⊎ ((rest : List Event) × (final_cut run p ≡ made ++ Send i word ∷ rest))
        → ((slice_get (words_at run (final_cut run) c) (length (words_sent sites c made)) ≡ Some word) × IsPrefix (made ++ Send i word ∷ []) (final_cut run p))
        ⊎ ((length (words_sent sites c made) ≡ length (words_at run (final_cut run) c)) × (length (words_sent sites c made) ≡ received_at run (final_cut run) c + get_or run.depths c 0))
    go (inl same) =
        let sent = ap (λ es. length (words_sent sites c es)) same in
        let none = tests run p proc made (Send i word) before same in
        let full = sym (inner_room run (final_cut run) c (length (words_sent sites c made)) on.chan on.chan_is on.inner)
        ∙ subst (λ d. room_at run (final_cut run) d (length (words_sent sites d made)) ≡ false) here none in
        let most = lt_false _ _ full in
        inr (omega (arith, sent, ap length words), up sent most (zero_or_more (length (words_sent sites c made))))
      where
        up : length (words_sent sites c (final_cut run p)) ≡ length (words_sent sites c made) → received_at run (final_cut run) c + get_or run.depths c 0 ≤ length (words_sent sites c made)
            → (length (words_sent sites c made) ≡ 0) ⊎ ((j : ℕ) × (length (words_sent sites c made) ≡ suc j))
            → length (words_sent sites c made) ≡ received_at run (final_cut run) c + get_or run.depths c 0
        up sent most (inl z) = omega (arith, most, z)
        up sent most (inr s) = omega (arith, most, s.1, had_room s.0 (omega (arith, sent, s.1)))
    go (inr next) =
        let split = words ∙ (ap (λ es. words_sent sites c es) next.1 ∙ (sent_append sites c made (Send i word ∷ next.0) ∙ ap (λ (ws : List Word). words_sent sites c made ++ ws) (sent_here sites c i word next.0 here))) in
        let got = ap (λ (ws : List Word). slice_get ws (length (words_sent sites c made))) split
        ∙ slice_get-append_right (words_sent sites c made) (word ∷ words_sent sites c next.0) (length (words_sent sites c made)) 0 (omega arith) in
        inl (got, stays run p proc made (Send i word) before next.0 next.1)

pub receives_within : (run : Run) (p : ℕ) (proc : Proc) (made : List Event) (i : ℕ) (site : Site) → IsRun run → StandsBefore run p proc made (Recv i) → IsSiteOn run proc i site false
    → ((count_received proc.behavior.sites site.chan made < received_at run (final_cut run) site.chan) × IsPrefix (made ++ Recv i ∷ []) (final_cut run p))
    ⊎ ((count_received proc.behavior.sites site.chan made ≡ received_at run (final_cut run) site.chan) × (received_at run (final_cut run) site.chan ≡ length (words_at run (final_cut run) site.chan)))
unfolding finds_word fits_after
receives_within run p proc made i site fits before on = go (made_or_next run p proc made (Recv i) before)
  where
    c : ℕ
    c = site.chan

    sites : List Site
    sites = proc.behavior.sites

    here : chan_at sites i ≡ c
    here = chan_there sites i site on.place

    count : received_at run (final_cut run) c ≡ count_received sites c (final_cut run p)
    count = received_by run (final_cut run) p c proc before.proc_is ((fits.sites p i proc site (record { proc_is = before.proc_is; place = on.place })).receives on.direction)

    most : count_received sites c (final_cut run p) ≤ length (words_at run (final_cut run) c)
    most = subst (λ ss. count_received ss c (final_cut run p) ≤ length (words_at run (final_cut run) c)) (ap sites_of before.proc_is) (only_sent_words_are_received run p c)

    and_left : (a : Bool) → a && true ≡ false → a ≡ false
    and_left true h = cc
    and_left false h = refl

    go : (final_cut run p ≡ made) ⊎ ((rest : List Event) × (final_cut run p ≡ made ++ Recv i ∷ rest))
        → ((count_received sites c made < received_at run (final_cut run) c) × IsPrefix (made ++ Recv i ∷ []) (final_cut run p))
        ⊎ ((count_received sites c made ≡ received_at run (final_cut run) c) × (received_at run (final_cut run) c ≡ length (words_at run (final_cut run) c)))
    go (inl same) =
        let all = ap (λ es. count_received sites c es) same in
        let none = and_left _ (tests run p proc made (Recv i) before same) in
        let missed = lt_false _ _ (subst (λ d. nat_lt (count_received sites d made) (length (words_at run (final_cut run) d)) ≡ false) here none) in
        inr (omega (arith, all, count), omega (arith, all, count, most, missed))
    go (inr next) =
        let split = ap (λ es. count_received sites c es) next.1 ∙ received_append sites c made (Recv i ∷ next.0) in
        inl (omega (arith, count, split, received_here sites c i next.0 here), stays run p proc made (Recv i) before next.0 next.1)
