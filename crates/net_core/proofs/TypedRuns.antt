-- What a run sends has its channels' widths, and its procs stand where an activation can.
use Rattle.std.proofs.Common.{◌≡◌, ℕ, zero, suc, ◌<◌, ◌^◌, List, [], ◌∷◌, ◌++◌, length, take, drop, get_or, refl, sym, ap, ◌∙◌, subst, arith, cond, true, false, Bool, eqb, Some, None, Option, inl, inr}
use Rattle.std.specs.Prelude.{slice_get, option_map, nat_lt, ◌⊎◌}
use Rattle.std.proofs.lemmas.List.{length-map}
use Rattle.std.proofs.lemmas.Option.{slice_get_within}
use Rattle.base.specs.Lists.Prefix.{IsPrefix}
use Rattle.base.proofs.Lemmas.Lists.Indexed.{indexed_get, length-indexed}
use Rattle.xb_bits.specs.Word.{Word}
use Rattle.xb_value.specs.declared.ty.Ty.{Ty}
use Rattle.xb_value.specs.declared.value.Value.{Value}
use Rattle.xb_value.specs.Typing.{IsOfType}
use Rattle.xb_value.specs.Width.{width_of}
use Rattle.net_core.specs.declared.net.Net.{Net}
use Rattle.net_core.specs.declared.net.ProcHead.{ProcHead}
use Rattle.net_core.specs.declared.net.Site.{Site}
use Rattle.net_core.specs.declared.net.Chan.{Chan}
use Rattle.net_core.specs.declared.net.Kind.{Kind}
use Rattle.net_core.specs.declared.net.Kind.TheVariants.{Input, Output, Inner}
use Rattle.net_core.specs.declared.event.Event.{Event}
use Rattle.net_core.specs.declared.event.Event.TheVariants.{Recv, Send, End}
use Rattle.net_core.specs.declared.outcome.Stream.{Stream}
use Rattle.net_core.specs.declared.outcome.ProcEnd.{ProcEnd}
use Rattle.net_core.specs.declared.outcome.Stall.{Stall}
use Rattle.net_core.specs.Behavior.{Behavior, TurnFits, IsOpen, IsWordOf, KeepsTypes, chan_at}
use Rattle.net_core.specs.Trace.{Histories, without_first}
use Rattle.net_core.specs.Cuts.{Proc, Run, Cut, sites_of, sites_at, sender, words_sent, words_at, received_at, room_at, trace_of, reach, round, rounds, most_events, empty_cut, final_cut}
use Rattle.net_core.specs.Machine.{Position, opened, moved, left_after, position_after, position_in, next_of}
use Rattle.net_core.specs.WellFormed.{IsNet, IsInputs, IsOutcome, AreWordsOf, AreBehaviorsOf, EachKeepsTypes, IsRun, procs_of, run_of}
use Rattle.net_core.specs.Outcomes.{stream_of, stall_for, stall_in, end_of, outcome_of}
use Rattle.net_core.specs.Nexts.{EventFits}
use Rattle.net_core.proofs.Resume.{trace_from, has_word, is_left, prefix_goes}
use Rattle.net_core.proofs.Reach.{longest_fit-front}
use Rattle.net_core.proofs.Steps.{reach_is, reach_none}
use Rattle.net_core.proofs.Confluence.{eqb-same}
use Rattle.net_core.proofs.Flows.{words_sent-append, words_either, same_there}
use Rattle.net_core.proofs.Bodies.{behaviors_zipped}
use Rattle.net_core.proofs.Openings.{EventAt, receives_at, sends_at, ends_with, next_at, open_first, open_send, open_receive}
use Rattle.net_core.proofs.Shown.{chan_at-there}
use Rattle.net_core.proofs.Nexts.{event_fits}
use Rattle.net_core.proofs.Counted.{final_in_trace, some_trace}
use Rattle.net_core.proofs.Ends.{state_is, stall_is}
use Rattle.net_core.proofs.Starts.{run_fits, opening_typed, head_of}

-- an activation stands at a position
abbrev StandsAt : Behavior → Position → Type 0
StandsAt b at = IsOpen b at.state at.got at.done

-- the words of a behavior's channels have their widths
abbrev AreTyped : Behavior → Histories → Type 0
AreTyped b words = (i : ℕ) (site : Site) → slice_get b.sites i ≡ Some site → AreWordsOf (b.width site.chan) (words site.chan)

-- a word that was sent on a channel has the width that its site takes it to have
abbrev SentFits : Behavior → ℕ → Word → Type 0
SentFits b c w = (i : ℕ) × (site : Site) × (slice_get b.sites i ≡ Some site) × (site.chan ≡ c) × IsWordOf (b.width c) w

abbrev AllSentFit : Behavior → List Event → Type 0
AllSentFit b t = (c k : ℕ) (w : Word) → slice_get (words_sent b.sites c t) k ≡ Some w → SentFits b c w

typed_drop : (width : ℕ) (words : List Word) → AreWordsOf width words → AreWordsOf width (drop 1 words)
typed_drop width [] h k w e = cc
typed_drop width (x ∷ xs) h k w e = h (suc k) w e

typed_take : (width n : ℕ) (words : List Word) → AreWordsOf width words → AreWordsOf width (take n words)
typed_take width zero words h k w e = cc
typed_take width (suc n) [] h k w e = cc
typed_take width (suc n) (x ∷ xs) h zero w e = h 0 w e
typed_take width (suc n) (x ∷ xs) h (suc k) w e = typed_take width n xs (λ j v f. h (suc j) v f) k w e

typed_without : (b : Behavior) (words : Histories) (c : ℕ) → AreTyped b words → AreTyped b (without_first words c)
typed_without b words c h i site place = go (eqb c site.chan)
  where
    go : (t : Bool) → AreWordsOf (b.width site.chan) (cond t (drop 1 (words site.chan)) (words site.chan))
    go true = typed_drop (b.width site.chan) (words site.chan) (h i site place)
    go false = h i site place

typed_left : (b : Behavior) (e : Event) (words : Histories) → AreTyped b words → AreTyped b (left_after b.sites e words)
typed_left b (Recv i) words h = typed_without b words (chan_at b.sites i) h
typed_left b (Send i w) words h = h
typed_left b (End s) words h = h

first_word : (width : ℕ) (words : List Word) → is_left words ≡ true → AreWordsOf width words → (w : Word) × (take 1 words ≡ w ∷ []) × IsWordOf width w
first_word width [] h typed = cc
first_word width (x ∷ xs) h typed = (x, refl, typed 0 x refl)

-- past its next event an activation stands again
stands_moved : (b : Behavior) → KeepsTypes b → (at : Position) (words : Histories) → AreTyped b words → (e : Event) → EventAt b at.state at.got at.done e
    → has_word b.sites words e ≡ true → StandsAt b (moved b.sites at e words)
unfolding has_word
stands_moved b keep at words typed _ (receives_at i site later place stands turn) found =
    let chan = chan_at-there b.sites i site place in
    let here = ap (λ c. is_left (words c)) (sym chan) ∙ found in
    let word = first_word (b.width site.chan) (words site.chan) here (typed i site place) in
    let got = ap (λ c. take 1 (words c)) chan ∙ word.1 in
    subst (λ ws. IsOpen b at.state (at.got ++ ws) (suc i)) (sym got) (open_receive b at.state at.got i site word.0 stands place turn word.2)
stands_moved b keep at words typed _ (sends_at i site w later place stands turn) found = open_send b at.state at.got i site w stands place turn
stands_moved b keep at words typed _ (ends_with stands) found = open_first b (b.next_state at.state at.got) (keep.state at.state at.got stands)

sent_one : (sites : List Site) (c i k : ℕ) (w v : Word) → slice_get (words_sent sites c (Send i w ∷ [])) k ≡ Some v → (chan_at sites i ≡ c) × (v ≡ w)
unfolding words_sent
sent_one sites c i k w v e = go (eqb (chan_at sites i) c) refl e
  where
    first : (k : ℕ) → slice_get (w ∷ []) k ≡ Some v → v ≡ w
    first zero e = cc
    first (suc k) e = cc

    go : (b : Bool) → eqb (chan_at sites i) c ≡ b → slice_get (cond b (w ∷ []) []) k ≡ Some v → (chan_at sites i ≡ c) × (v ≡ w)
    go true t e = (eqb-same (chan_at sites i) c t, first k e)
    go false t e = cc

-- what one event sends fits
sends_fit : (b : Behavior) → KeepsTypes b → (s : Value) (got : List Word) (done : ℕ) (e : Event) → EventAt b s got done e → AllSentFit b (e ∷ [])
unfolding words_sent
sends_fit b keep s got done _ (receives_at i site later place stands turn) c k v e = cc
sends_fit b keep s got done _ (sends_at i site w later place stands turn) c k v e =
    let one = sent_one b.sites c i k w v e in
    let chan = sym (chan_at-there b.sites i site place) ∙ one.0 in
    let fits = subst (λ t. TurnFits b site t) turn (keep.turns s got i site stands place) in
    (i, site, place, chan, subst (λ x. IsWordOf (b.width c) x) (sym one.1) (subst (λ d. IsWordOf (b.width d) w) chan fits))
sends_fit b keep s got done _ (ends_with stands) c k v e = cc

one_of_both : (xs ys : List Word) (k : ℕ) (w : Word) → slice_get (xs ++ ys) k ≡ Some w → (slice_get xs k ≡ Some w) ⊎ ((j : ℕ) × (slice_get ys j ≡ Some w))
one_of_both [] ys k w e = inr (k, e)
one_of_both (x ∷ xs) ys zero w e = inl e
one_of_both (x ∷ xs) ys (suc k) w e = one_of_both xs ys k w e

sent_more : (b : Behavior) (e : Event) (t : List Event) → AllSentFit b (e ∷ []) → AllSentFit b t → AllSentFit b (e ∷ t)
sent_more b e t f g c k w h = go (one_of_both _ _ k w (subst (λ ws. slice_get ws k ≡ Some w) (words_sent-append b.sites c (e ∷ []) t) h))
  where
    go : (slice_get (words_sent b.sites c (e ∷ [])) k ≡ Some w) ⊎ ((j : ℕ) × (slice_get (words_sent b.sites c t) j ≡ Some w)) → SentFits b c w
    go (inl x) = f c k w x
    go (inr x) = g c x.0 w x.1

none_sent : (b : Behavior) → AllSentFit b []
unfolding words_sent
none_sent b c k w e = cc

-- what the events of a trace over words of their widths send fits, and behind them an activation stands
trace_fits : (b : Behavior) → KeepsTypes b → (n : ℕ) (t : List Event) (at : Position) (words : Histories) → IsPrefix t (trace_from b n at words) → StandsAt b at → AreTyped b words
    → AllSentFit b t × StandsAt b (position_after b.sites at t words)
unfolding position_after
trace_fits b keep n [] at words f stands typed = (none_sent b, stands)
trace_fits b keep n (e ∷ t) at words f stands typed =
    let g = prefix_goes b n at words e t f in
    let next = subst (λ x. EventAt b at.state at.got at.done x) (sym g.0.next) (next_at b at.state at.got at.done stands) in
    let ih = trace_fits b keep n t (moved b.sites at e words) (left_after b.sites e words) g.1 (stands_moved b keep at words typed e next g.0.found) (typed_left b e words typed) in
    (sent_more b e t (sends_fit b keep at.state at.got at.done e next) ih.0, ih.1)

-- the words of each channel have its width
abbrev IsTypedCut : Run → Cut → Type 0
IsTypedCut run cut = (c : ℕ) (chan : Chan) → slice_get run.chans c ≡ Some chan → AreWordsOf (width_of chan.ty) (words_at run cut c)

empty_typed : (width : ℕ) (sites : List Site) (c : ℕ) → AreWordsOf width (words_sent sites c [])
unfolding words_sent
empty_typed width sites c k w e = cc

-- a stall is at the channel of a site
stall_site : (b : Behavior) (activation : ℕ) (e : Event) (stall : Stall) → EventFits b e → stall_for b.sites activation e ≡ Some stall
    → (i : ℕ) × (site : Site) × (slice_get b.sites i ≡ Some site) × (stall.chan ≡ site.chan)
stall_site b activation (Recv i) stall fits e =
    let same : record { activation = activation; sends = false; chan = chan_at b.sites i } ≡ stall = cc in
    (i, fits.0, fits.1, ap (λ (x : Stall). x.chan) (sym same) ∙ chan_at-there b.sites i fits.0 fits.1)
stall_site b activation (Send i w) stall fits e =
    let same : record { activation = activation; sends = true; chan = chan_at b.sites i } ≡ stall = cc in
    (i, fits.0, fits.1, ap (λ (x : Stall). x.chan) (sym same) ∙ chan_at-there b.sites i fits.0 fits.1)
stall_site b activation (End s) stall fits e = cc

module _ (run : Run) (fits : IsRun run) (opens : (p : ℕ) (proc : Proc) → slice_get run.procs p ≡ Some proc → IsOfType proc.behavior.state proc.opening)
    (given : (c : ℕ) (chan : Chan) → slice_get run.chans c ≡ Some chan → AreWordsOf (width_of chan.ty) (get_or run.inputs c [])) where
  typed_for : (cut : Cut) → IsTypedCut run cut → (p : ℕ) (proc : Proc) → slice_get run.procs p ≡ Some proc → AreTyped proc.behavior (words_at run cut)
  typed_for cut typed p proc e i site place =
      let f = fits.sites p i proc site (record { proc_is = e; place = place }) in
      subst (λ k. AreWordsOf k (words_at run cut site.chan)) (sym f.width) (typed site.chan f.chan f.chan_is)

  -- what a proc makes over typed words
  made_fits : (cut : Cut) → IsTypedCut run cut → (p : ℕ) (proc : Proc) → slice_get run.procs p ≡ Some proc → (t : List Event)
      → IsPrefix t (trace_from proc.behavior run.activations (opened proc) (words_at run cut))
      → AllSentFit proc.behavior t × StandsAt proc.behavior (position_after proc.behavior.sites (opened proc) t (words_at run cut))
  made_fits cut typed p proc e t f =
      trace_fits proc.behavior (fits.keeps_types p proc e) run.activations t (opened proc) (words_at run cut) f (open_first proc.behavior proc.opening (opens p proc e)) (typed_for cut typed p proc e)

  sent_typed : (cut : Cut) → IsTypedCut run cut → (p : ℕ) (proc : Proc) → slice_get run.procs p ≡ Some proc → (t : List Event)
      → IsPrefix t (trace_from proc.behavior run.activations (opened proc) (words_at run cut))
      → (c : ℕ) (chan : Chan) → slice_get run.chans c ≡ Some chan → AreWordsOf (width_of chan.ty) (words_sent proc.behavior.sites c t)
  sent_typed cut typed p proc e t f c chan chan_is k w get =
      let s = (made_fits cut typed p proc e t f).0 c k w get in
      let site = fits.sites p s.0 proc s.1 (record { proc_is = e; place = s.2 }) in
      let same = same_there (slice_get run.chans c) site.chan chan (ap (λ d. slice_get run.chans d) (sym s.3) ∙ site.chan_is) chan_is in
      let width = ap proc.behavior.width (sym s.3) ∙ (site.width ∙ ap (λ (x : Chan). width_of x.ty) same) in
      subst (λ n. IsWordOf n w) width s.4

  sender_typed : (cut : Cut) → IsTypedCut run cut → (q c : ℕ) (chan : Chan) → slice_get run.chans c ≡ Some chan → AreWordsOf (width_of chan.ty) (words_sent (sites_at run q) c (reach run cut q))
  sender_typed cut typed q c chan chan_is = go (slice_get run.procs q) refl
    where
      go : (o : Option Proc) → slice_get run.procs q ≡ o → AreWordsOf (width_of chan.ty) (words_sent (sites_of o) c (reach run cut q))
      go None e = subst (λ es. AreWordsOf (width_of chan.ty) (words_sent [] c es)) (sym (reach_none run cut q e)) (empty_typed (width_of chan.ty) [] c)
      go (Some proc) e =
          let front = subst (λ es. IsPrefix es (trace_from proc.behavior run.activations (opened proc) (words_at run cut))) (sym (reach_is run cut q proc e))
          (longest_fit-front proc.behavior.sites (room_at run cut) [] (trace_from proc.behavior run.activations (opened proc) (words_at run cut))) in
          sent_typed cut typed q proc e (reach run cut q) front c chan chan_is

  rounds_typed : (k : ℕ) → IsTypedCut run (rounds (round run) k)
  rounds_typed zero c chan e =
      words_either run empty_cut c chan e (λ ws. AreWordsOf (width_of chan.ty) ws) (given c chan e) (empty_typed (width_of chan.ty) (sites_at run (sender run c)) c)
  rounds_typed (suc k) c chan e =
      words_either run (round run (rounds (round run) k)) c chan e (λ ws. AreWordsOf (width_of chan.ty) ws) (given c chan e)
      (sender_typed (rounds (round run) k) (rounds_typed k) (sender run c) c chan e)

  pub final_typed : IsTypedCut run (final_cut run)
  unfolding final_cut
  final_typed = rounds_typed (most_events run)

  final_made : (p : ℕ) (proc : Proc) → slice_get run.procs p ≡ Some proc → IsPrefix (final_cut run p) (trace_from proc.behavior run.activations (opened proc) (words_at run (final_cut run)))
  final_made p proc e =
      let f = subst (λ o. IsPrefix (final_cut run p) (trace_of run.activations (words_at run (final_cut run)) o)) e (final_in_trace run p) in
      some_trace run.activations (words_at run (final_cut run)) proc (final_cut run p) f

  pub final_stands : (p : ℕ) (proc : Proc) → slice_get run.procs p ≡ Some proc → StandsAt proc.behavior (position_in run (final_cut run) p proc)
  final_stands p proc e = (made_fits (final_cut run) final_typed p proc e (final_cut run p) (final_made p proc e)).1

  stall_there : (p : ℕ) (proc : Proc) → slice_get run.procs p ≡ Some proc → (stall : Stall) → stall_in run (final_cut run) p proc ≡ Some stall → stall.chan < length run.chans
  stall_there p proc e stall h = go (nat_lt at.ends run.activations) (sym (stall_is run (final_cut run) p proc (final_made p proc e)) ∙ h)
    where
      at : Position
      at = position_in run (final_cut run) p proc

      go : (b : Bool) → cond b (stall_for proc.behavior.sites at.ends (next_of proc.behavior at)) None ≡ Some stall → stall.chan < length run.chans
      go true h =
          let typed = event_fits proc.behavior (fits.keeps_types p proc e) at.state at.got at.done (final_stands p proc e) in
          let found = stall_site proc.behavior at.ends (next_of proc.behavior at) stall typed h in
          let site = fits.sites p found.0 proc found.1 (record { proc_is = e; place = found.2 }) in
          let within = slice_get_within run.chans found.1.chan site.chan site.chan_is in
          omega (arith, within, found.3)
      go false h = cc

  stream_typed : (c : ℕ) (chan : Chan) → slice_get run.chans c ≡ Some chan → AreWordsOf (width_of chan.ty) (stream_of run (final_cut run) c chan).words
  unfolding stream_of
  stream_typed c chan e = go chan.kind
    where
      words : AreWordsOf (width_of chan.ty) (words_at run (final_cut run) c)
      words = final_typed c chan e

      go : (kind : Kind) → AreWordsOf (width_of chan.ty) (elim kind as (λ _. Stream) [
        | Input ↦ record { words = take (received_at run (final_cut run) c) (words_at run (final_cut run) c); received = received_at run (final_cut run) c }
        | Output ↦ record { words = words_at run (final_cut run) c; received = 0 }
        | Inner ↦ record { words = words_at run (final_cut run) c; received = received_at run (final_cut run) c }
      ]).words
      go Input = typed_take (width_of chan.ty) (received_at run (final_cut run) c) (words_at run (final_cut run) c) words
      go Output = words
      go Inner = words

has_value : {A B : Type 0} (f : A → B) (o : Option A) (y : B) → option_map f o ≡ Some y → (x : A) × (o ≡ Some x) × (f x ≡ y)
has_value f None y e = cc
has_value f (Some x) y e = (x, refl, cc)

module _ (net : Net) (well : IsNet net) (bs : List Behavior) (fit : AreBehaviorsOf net bs) (keep : EachKeepsTypes bs) (inputs : List (List Word)) (given : IsInputs net inputs)
    (n : ℕ) (small : n < 2 ^ 32) (depths : List ℕ) where
  run_is : IsRun (run_of net bs inputs n depths)
  run_is = run_fits net well bs fit keep inputs given n small depths

  opens_is : (p : ℕ) (proc : Proc) → slice_get (procs_of net.procs bs) p ≡ Some proc → IsOfType proc.behavior.state proc.opening
  opens_is = opening_typed net well bs fit keep inputs given n small depths

  count_is : length (procs_of net.procs bs) ≡ length net.procs
  count_is =
      let zipped = behaviors_zipped net.procs bs fit.count in
      sym (length-map (procs_of net.procs bs) (λ (proc : Proc). proc.behavior)) ∙ (ap length zipped ∙ fit.count)

  pub outcome_fits : IsOutcome net (outcome_of (run_of net bs inputs n depths) (final_cut (run_of net bs inputs n depths)))
  outcome_fits =
      let run = run_of net bs inputs n depths in
      let cut : Cut = final_cut run in
      record {
        streams = length-indexed (stream_of run cut) 0 net.chans;
        words = λ c chan stream e f.
            let there = sym (indexed_get (stream_of run cut) 0 c c net.chans (omega arith)) ∙ f in
            let found = has_value (stream_of run cut c) (slice_get net.chans c) stream there in
            let same = same_there (slice_get net.chans c) found.0 chan found.1 e in
            subst (λ (s : Stream). AreWordsOf (width_of chan.ty) s.words) (ap (stream_of run cut c) (sym same) ∙ found.2)
            (stream_typed run run_is opens_is given.words c chan e);
        procs = length-indexed (end_of run cut) 0 run.procs ∙ count_is;
        states = λ p head stand e f.
            let there = sym (indexed_get (end_of run cut) 0 p p run.procs (omega arith)) ∙ f in
            let found = has_value (end_of run cut p) (slice_get run.procs p) stand there in
            let own = head_of net well bs fit keep inputs given n small depths p found.0 found.1 in
            let same = same_there (slice_get net.procs p) own.0 head own.1 e in
            let open_there = final_stands run run_is opens_is given.words p found.0 found.1 in
            subst (λ (s : ProcEnd). IsOfType head.state s.state) found.2
            (subst (λ v. IsOfType head.state v) (state_is found.0 (cut p) (words_at run cut))
            (subst (λ (t : Ty). IsOfType t (position_in run cut p found.0).state) (own.2 ∙ ap (λ (h : ProcHead). h.state) same) open_there.state));
        stalls = λ p stand stall f g.
            let there = sym (indexed_get (end_of run cut) 0 p p run.procs (omega arith)) ∙ f in
            let found = has_value (end_of run cut p) (slice_get run.procs p) stand there in
            stall_there run run_is opens_is given.words p found.0 found.1 stall (ap (λ (s : ProcEnd). s.stall) found.2 ∙ g);
      }
