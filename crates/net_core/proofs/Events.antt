-- After an event that a proc makes, the configuration shows the cut with that event.
use Rattle.std.proofs.Common.{◌≡◌, ◌≢◌, ℕ, zero, suc, ◌≤◌, List, [], ◌∷◌, ◌++◌, length, drop, take, get_or, refl, sym, ap, ◌∙◌, subst, arith, true, Some, None, Option, inl, inr}
use Rattle.std.proofs.lemmas.Option.{slice_get_within}
use Rattle.std.specs.Prelude.{slice_get, slice_set, option_map, ◌⊎◌}
use Rattle.std.proofs.lemmas.Bool.{cases_eq}
use Rattle.xb_bits.specs.Word.{Word}
use Rattle.xb_value.specs.declared.value.Value.{Value}
use Rattle.xb_value.specs.Width.{width_of}
use Rattle.net_core.specs.declared.net.Site.{Site}
use Rattle.net_core.specs.declared.net.Chan.{Chan}
use Rattle.net_core.specs.declared.net.Kind.TheVariants.{Input}
use Rattle.net_core.specs.declared.event.Event.{Event}
use Rattle.net_core.specs.declared.event.Event.TheVariants.{Recv, Send, End}
use Rattle.net_core.specs.declared.config.Config.{Config}
use Rattle.net_core.specs.declared.progress.Progress.{Progress}
use Rattle.net_core.specs.declared.channel.Channel.{Channel}
use Rattle.net_core.specs.Behavior.{Receive, Give, chan_at, IsOpen, IsWordOf}
use Rattle.net_core.specs.Cuts.{Proc, Run, Cut, sender, receiver, IsWithin, count_received, words_at, received_at, round, final_cut}
use Rattle.net_core.specs.Machine.{Position, opened, moved, position_after, position_in, next_of, goes_by, with_event, stepped}
use Rattle.net_core.specs.WellFormed.{AreWordsOf}
use Rattle.net_core.specs.Shows.{Shows, progress_at, progress_of, channel_of}
use Rattle.net_core.specs.Inner.Making.{IsReceiveMade, IsSendMade, IsEndMade}
use Rattle.base.proofs.Lemmas.Lists.Prefixes.{IsPrefix-length}
use Rattle.net_core.proofs.Reach.{words_at_grow}
use Rattle.xb_value.specs.Typing.{IsOfType}
use Rattle.net_core.proofs.Resume.{words_after, words_after-drop, position_after-push}
use Rattle.net_core.proofs.Steps.{position_stays}
use Rattle.net_core.proofs.Confluence.{final_fixed, step_grows, step_consistent, step_below}
use Rattle.net_core.proofs.Openings.{open_send, open_receive, open_first}
use Rattle.net_core.proofs.Flows.{words_at-receive, words_at-end, words_at-send_other, words_at-send, received_at-send, received_at-end, received_at-receive_other, received_at-receive, received_at-by, with_event-here, with_event-other}
use Rattle.base.proofs.Lemmas.Lists.Indices.{slice_get-set, slice_get-set_other}
use Rattle.net_core.proofs.Flows.{same_there}
use Rattle.net_core.proofs.Shown.{site_data, stepped_is, chan_at-there}

-- what every event leaves: the parts of `Shows` that don't depend on which event it is
module _ (run : Run) (cut : Cut) (old : Config) (sh : Shows run cut old) (p : ℕ) (proc : Proc) (proc_is : slice_get run.procs p ≡ Some proc)
    (event : Event) (next : next_of proc.behavior (position_in run cut p proc) ≡ event) (goes : goes_by run cut p (Some proc) ≡ true) where
  more_is : stepped run cut p ≡ with_event cut p event
  more_is = stepped_is run cut p proc proc_is goes ∙ ap (λ e. with_event cut p e) next

  more_grows : IsWithin cut (with_event cut p event)
  more_grows = subst (λ (m : Cut). IsWithin cut m) more_is (step_grows run cut p sh.consistent)

  more_consistent : IsWithin (with_event cut p event) (round run (with_event cut p event))
  more_consistent = subst (λ (m : Cut). IsWithin m (round run m)) more_is (step_consistent run cut p sh.consistent)

  more_below : IsWithin (with_event cut p event) (final_cut run)
  more_below = subst (λ (m : Cut). IsWithin m (final_cut run)) more_is (step_below run cut (final_cut run) p sh.consistent sh.below (final_fixed run))

  -- another proc stands where it stood
  other_stands : (q : ℕ) (other : Proc) → slice_get run.procs q ≡ Some other → q ≢ p → position_in run (with_event cut p event) q other ≡ position_in run cut q other
  other_stands q other e h =
      ap (λ es. position_after other.behavior.sites (opened other) es (words_at run (with_event cut p event))) (with_event-other cut p q event h)
      ∙ sym (position_stays run cut (with_event cut p event) q other e (sh.consistent q) more_grows)

  -- the proc stands past the event
  own_stands : position_in run (with_event cut p event) p proc
      ≡ moved proc.behavior.sites (position_in run cut p proc) event (words_after proc.behavior.sites (cut p) (words_at run (with_event cut p event)))
  own_stands =
      ap (λ es. position_after proc.behavior.sites (opened proc) es (words_at run (with_event cut p event))) (with_event-here cut p event)
      ∙ (position_after-push proc.behavior.sites (cut p) event (opened proc) (words_at run (with_event cut p event))
      ∙ ap (λ at. moved proc.behavior.sites at event (words_after proc.behavior.sites (cut p) (words_at run (with_event cut p event)))) (sym (position_stays run cut (with_event cut p event) p proc proc_is (sh.consistent p) more_grows)))

  other_by : (q : ℕ) (o : Option Proc) → slice_get run.procs q ≡ o → q ≢ p → option_map (progress_of run cut q) o ≡ option_map (progress_of run (with_event cut p event) q) o
  other_by q None e h = refl
  other_by q (Some other) e h = ap (λ at. Some (progress_at other at)) (sym (other_stands q other e h))

  -- all procs, where the configuration has the proc past the event
  procs_after : (new : Config) (progress : Progress) → new.procs.items ≡ slice_set old.procs.items p progress
      → progress ≡ progress_of run (with_event cut p event) p proc
      → (q : ℕ) → slice_get new.procs.items q ≡ option_map (progress_of run (with_event cut p event) q) (slice_get run.procs q)
  procs_after new progress set same q = go (cases_eq q p)
    where
      go : (q ≡ p) ⊎ (q ≢ p) → slice_get new.procs.items q ≡ option_map (progress_of run (with_event cut p event) q) (slice_get run.procs q)
      go (inl e) =
          let there = sh.procs p ∙ ap (λ o. option_map (progress_of run cut p) o) proc_is in
          let read = ap (λ ps. slice_get ps p) set ∙ slice_get-set old.procs.items p _ progress there in
          let want = ap (λ o. option_map (progress_of run (with_event cut p event) p) o) proc_is in
          subst (λ k. slice_get new.procs.items k ≡ option_map (progress_of run (with_event cut p event) k) (slice_get run.procs k)) (sym e) (read ∙ (ap Some same ∙ sym want))
      go (inr h) =
          ap (λ ps. slice_get ps q) set ∙ (slice_get-set_other old.procs.items p q progress h ∙ (sh.procs q ∙ other_by q (slice_get run.procs q) refl h))

  -- all procs stand where an activation can, if the proc does
  stands_after : IsOpen proc.behavior (position_in run (with_event cut p event) p proc).state (position_in run (with_event cut p event) p proc).got (position_in run (with_event cut p event) p proc).done
      → (q : ℕ) (other : Proc) → slice_get run.procs q ≡ Some other
      → let at = position_in run (with_event cut p event) q other in IsOpen other.behavior at.state at.got at.done
  stands_after here q other e = go (cases_eq q p)
    where
      go : (q ≡ p) ⊎ (q ≢ p) → IsOpen other.behavior (position_in run (with_event cut p event) q other).state (position_in run (with_event cut p event) q other).got (position_in run (with_event cut p event) q other).done
      go (inl h) =
          let same : other ≡ proc = same_there (slice_get run.procs q) other proc e (ap (λ k. slice_get run.procs k) h ∙ proc_is) in
          subst (λ (x : Proc). IsOpen x.behavior (position_in run (with_event cut p event) q x).state (position_in run (with_event cut p event) q x).got (position_in run (with_event cut p event) q x).done) (sym same)
          (subst (λ k. IsOpen proc.behavior (position_in run (with_event cut p event) k proc).state (position_in run (with_event cut p event) k proc).got (position_in run (with_event cut p event) k proc).done) (sym h) here)
      go (inr h) =
          subst (λ (at : Position). IsOpen other.behavior at.state at.got at.done) (sym (other_stands q other e h)) (sh.stands q other e)

  channel_same : (more : Cut) (c : ℕ) (o : Option Chan) → words_at run more c ≡ words_at run cut c → received_at run more c ≡ received_at run cut c
      → option_map (channel_of run cut c) o ≡ option_map (channel_of run more c) o
  channel_same more c None e f = refl
  channel_same more c (Some chan) e f =
      ap (λ ws. Some (record { kind = chan.kind; depth = get_or run.depths c 0; words = ws; received = received_at run cut c })) (sym e)
      ∙ ap (λ r. Some (record { kind = chan.kind; depth = get_or run.depths c 0; words = words_at run more c; received = r })) (sym f)

  -- all channels, where the configuration has one of them past the event
  channels_after : (new : Config) (ch : ℕ) (chan : Chan) (channel : Channel) → slice_get run.chans ch ≡ Some chan
      → new.channels.items ≡ slice_set old.channels.items ch channel → channel ≡ channel_of run (with_event cut p event) ch chan
      → ((c : ℕ) → c ≢ ch → words_at run (with_event cut p event) c ≡ words_at run cut c)
      → ((c : ℕ) → c ≢ ch → received_at run (with_event cut p event) c ≡ received_at run cut c)
      → (c : ℕ) → slice_get new.channels.items c ≡ option_map (channel_of run (with_event cut p event) c) (slice_get run.chans c)
  channels_after new ch chan channel chan_is set same words received c = go (cases_eq c ch)
    where
      go : (c ≡ ch) ⊎ (c ≢ ch) → slice_get new.channels.items c ≡ option_map (channel_of run (with_event cut p event) c) (slice_get run.chans c)
      go (inl e) =
          let there = sh.channels ch ∙ ap (λ o. option_map (channel_of run cut ch) o) chan_is in
          let read = ap (λ cs. slice_get cs ch) set ∙ slice_get-set old.channels.items ch _ channel there in
          let want = ap (λ o. option_map (channel_of run (with_event cut p event) ch) o) chan_is in
          subst (λ k. slice_get new.channels.items k ≡ option_map (channel_of run (with_event cut p event) k) (slice_get run.chans k)) (sym e) (read ∙ (ap Some same ∙ sym want))
      go (inr h) =
          ap (λ cs. slice_get cs c) set ∙ (slice_get-set_other old.channels.items ch c channel h ∙ (sh.channels c ∙ channel_same (with_event cut p event) c (slice_get run.chans c) (words c h) (received c h)))

take_there : (xs : List Word) (k : ℕ) (w : Word) → slice_get xs k ≡ Some w → take 1 (drop k xs) ≡ w ∷ []
take_there [] k w e = cc
take_there (x ∷ xs) zero w e = let h : x ≡ w = cc in ap (λ y. y ∷ []) h
take_there (x ∷ xs) (suc k) w e = take_there xs k w e

push_get : (xs : List Word) (w v : Word) (k : ℕ) → slice_get (xs ++ w ∷ []) k ≡ Some v → (slice_get xs k ≡ Some v) ⊎ (v ≡ w)
push_get [] w v zero e = inr cc
push_get [] w v (suc k) e = cc
push_get (x ∷ xs) w v zero e = inl e
push_get (x ∷ xs) w v (suc k) e = push_get xs w v k e

-- what is known of a site whose event comes next
pub record IsAtSite (run : Run) (cut : Cut) (p : ℕ) (proc : Proc) (i : ℕ) (site : Site) (chan : Chan) : Type 0 where
  pub proc_is : slice_get run.procs p ≡ Some proc
  pub place : slice_get proc.behavior.sites i ≡ Some site
  pub chan_is : slice_get run.chans site.chan ≡ Some chan
  pub width : proc.behavior.width site.chan ≡ width_of chan.ty
  pub stands : IsOpen proc.behavior (position_in run cut p proc).state (position_in run cut p proc).got i

pub receive_shows : (run : Run) (cut : Cut) (old new : Config) (p : ℕ) (proc : Proc) (i : ℕ) (site : Site) (chan : Chan) (word : Word)
    → Shows run cut old → IsAtSite run cut p proc i site chan
    → proc.behavior.turn (position_in run cut p proc).state (position_in run cut p proc).got i ≡ Receive
    → receiver run site.chan ≡ p
    → next_of proc.behavior (position_in run cut p proc) ≡ Recv i → goes_by run cut p (Some proc) ≡ true
    → IsReceiveMade old new p i (site_data run cut p proc site chan) word
    → Shows run (with_event cut p (Recv i)) new
receive_shows run cut old new p proc i site chan word sh at_site turn ours next goes made =
    let b = proc.behavior in
    let at = position_in run cut p proc in
    let more : Cut = with_event cut p (Recv i) in
    let chan_here = chan_at-there b.sites i site at_site.place in
    let words_same = λ (c : ℕ). words_at-receive run cut p i c in
    let got_is : take 1 (words_after b.sites (cut p) (words_at run more) (chan_at b.sites i)) ≡ word ∷ [] =
    ap (λ c. take 1 (words_after b.sites (cut p) (words_at run more) c)) chan_here
    ∙ (ap (λ xs. take 1 xs) (words_after-drop b.sites site.chan (cut p) (words_at run more))
    ∙ (ap (λ xs. take 1 (drop (count_received b.sites site.chan (cut p)) xs)) (words_same site.chan)
    ∙ (ap (λ k. take 1 (drop k (words_at run cut site.chan))) (sym (received_at-by run cut p site.chan proc at_site.proc_is ours))
    ∙ take_there (words_at run cut site.chan) (received_at run cut site.chan) word made.word_is))) in
    let stands_is : position_in run more p proc ≡ record { state = at.state; got = at.got ++ word ∷ []; done = suc i; ends = at.ends } =
    own_stands run cut old sh p proc at_site.proc_is (Recv i) next goes ∙ ap (λ xs. record { state = at.state; got = at.got ++ xs; done = suc i; ends = at.ends }) got_is in
    let is_word = subst (λ k. IsWordOf k word) (sym at_site.width) (sh.words site.chan chan at_site.chan_is (received_at run cut site.chan) word made.word_is) in
    let open_now = open_receive b at.state at.got i site word at_site.stands at_site.place turn is_word in
    let received_here = received_at-receive run cut p i site.chan proc at_site.proc_is ours chan_here in
    let received_same = λ (c : ℕ) (h : c ≢ site.chan). received_at-receive_other run cut p i c proc at_site.proc_is (λ e. h (sym e ∙ chan_here)) in
    record {
      run_fits = sh.run_fits;
      activations = made.activations ∙ sh.activations;
      procs = procs_after run cut old sh p proc at_site.proc_is (Recv i) next goes new _ made.procs (sym (ap (λ x. progress_at proc x) stands_is));
      channels = channels_after run cut old sh p proc at_site.proc_is (Recv i) next goes new site.chan chan _ at_site.chan_is made.channels
          (ap (λ ws. record { kind = chan.kind; depth = get_or run.depths site.chan 0; words = ws; received = suc (received_at run cut site.chan) }) (sym (words_same site.chan))
          ∙ ap (λ r. record { kind = chan.kind; depth = get_or run.depths site.chan 0; words = words_at run more site.chan; received = r }) (sym received_here))
          (λ c h. words_same c) received_same;
      consistent = more_consistent run cut old sh p proc at_site.proc_is (Recv i) next goes;
      below = more_below run cut old sh p proc at_site.proc_is (Recv i) next goes;
      stands = stands_after run cut old sh p proc at_site.proc_is (Recv i) next goes
          (subst (λ (x : Position). IsOpen b x.state x.got x.done) (sym stands_is) open_now);
      received = λ c. received_fits c (cases_eq c site.chan);
      words = λ c ch e. subst (λ ws. AreWordsOf (width_of ch.ty) ws) (sym (words_same c)) (sh.words c ch e);
    }
  where
    received_fits : (c : ℕ) → (c ≡ site.chan) ⊎ (c ≢ site.chan) → received_at run (with_event cut p (Recv i)) c ≤ length (words_at run (with_event cut p (Recv i)) c)
    received_fits c (inl e) =
        let chan_here = chan_at-there proc.behavior.sites i site at_site.place in
        let count = received_at-receive run cut p i site.chan proc at_site.proc_is ours chan_here in
        let there = slice_get_within (words_at run cut site.chan) (received_at run cut site.chan) word made.word_is in
        let words = ap length (words_at-receive run cut p i site.chan) in
        subst (λ k. received_at run (with_event cut p (Recv i)) k ≤ length (words_at run (with_event cut p (Recv i)) k)) (sym e) (omega (arith, count, there, words))
    received_fits c (inr h) =
        let chan_here = chan_at-there proc.behavior.sites i site at_site.place in
        let count = received_at-receive_other run cut p i c proc at_site.proc_is (λ e. h (sym e ∙ chan_here)) in
        let words = ap length (words_at-receive run cut p i c) in
        omega (arith, count, words, sh.received c)

pub send_shows : (run : Run) (cut : Cut) (old new : Config) (p : ℕ) (proc : Proc) (i : ℕ) (site : Site) (chan : Chan) (word : Word)
    → Shows run cut old → IsAtSite run cut p proc i site chan
    → proc.behavior.turn (position_in run cut p proc).state (position_in run cut p proc).got i ≡ Give word
    → IsWordOf (proc.behavior.width site.chan) word → sender run site.chan ≡ p → chan.kind ≢ Input
    → next_of proc.behavior (position_in run cut p proc) ≡ Send i word → goes_by run cut p (Some proc) ≡ true
    → IsSendMade old new p i (site_data run cut p proc site chan) word
    → Shows run (with_event cut p (Send i word)) new
send_shows run cut old new p proc i site chan word sh at_site turn is_word ours no_input next goes made =
    let b = proc.behavior in
    let at = position_in run cut p proc in
    let more : Cut = with_event cut p (Send i word) in
    let chan_here = chan_at-there b.sites i site at_site.place in
    let words_here = words_at-send run cut p i site.chan word proc chan at_site.proc_is at_site.chan_is no_input ours chan_here in
    let words_other = λ (c : ℕ) (h : c ≢ site.chan). words_at-send_other run cut p i c word proc at_site.proc_is (λ e. h (sym e ∙ chan_here)) in
    let stands_is : position_in run more p proc ≡ record { state = at.state; got = at.got; done = suc i; ends = at.ends } =
    own_stands run cut old sh p proc at_site.proc_is (Send i word) next goes in
    let open_now = open_send b at.state at.got i site word at_site.stands at_site.place turn in
    let received_same = λ (c : ℕ). received_at-send run cut p i c word in
    record {
      run_fits = sh.run_fits;
      activations = made.activations ∙ sh.activations;
      procs = procs_after run cut old sh p proc at_site.proc_is (Send i word) next goes new _ made.procs (sym (ap (λ x. progress_at proc x) stands_is));
      channels = channels_after run cut old sh p proc at_site.proc_is (Send i word) next goes new site.chan chan _ at_site.chan_is made.channels
          (ap (λ ws. record { kind = chan.kind; depth = get_or run.depths site.chan 0; words = ws; received = received_at run cut site.chan }) (sym words_here)
          ∙ ap (λ r. record { kind = chan.kind; depth = get_or run.depths site.chan 0; words = words_at run more site.chan; received = r }) (sym (received_same site.chan)))
          words_other (λ c h. received_same c);
      consistent = more_consistent run cut old sh p proc at_site.proc_is (Send i word) next goes;
      below = more_below run cut old sh p proc at_site.proc_is (Send i word) next goes;
      stands = stands_after run cut old sh p proc at_site.proc_is (Send i word) next goes
          (subst (λ (x : Position). IsOpen b x.state x.got x.done) (sym stands_is) open_now);
      received = λ c. omega (arith, received_same c, sh.received c, IsPrefix-length _ _ (words_at_grow run cut more (more_grows run cut old sh p proc at_site.proc_is (Send i word) next goes) c));
      words = λ c ch e. words_fit c ch e (cases_eq c site.chan);
    }
  where
    by_place : (v : Word) (k : ℕ) → (slice_get (words_at run cut site.chan) k ≡ Some v) ⊎ (v ≡ word) → IsWordOf (width_of chan.ty) v
    by_place v k (inl f) = sh.words site.chan chan at_site.chan_is k v f
    by_place v k (inr f) = subst (λ (x : Word). IsWordOf (width_of chan.ty) x) (sym f) (subst (λ m. IsWordOf m word) at_site.width is_word)

    words_fit : (c : ℕ) (ch : Chan) → slice_get run.chans c ≡ Some ch → (c ≡ site.chan) ⊎ (c ≢ site.chan) → AreWordsOf (width_of ch.ty) (words_at run (with_event cut p (Send i word)) c)
    words_fit c ch e (inl h) = λ k v get.
        let chan_here = chan_at-there proc.behavior.sites i site at_site.place in
        let words_here = words_at-send run cut p i site.chan word proc chan at_site.proc_is at_site.chan_is no_input ours chan_here in
        let same : ch ≡ chan = same_there (slice_get run.chans c) ch chan e (ap (λ x. slice_get run.chans x) h ∙ at_site.chan_is) in
        let there = subst (λ x. slice_get (words_at run (with_event cut p (Send i word)) x) k ≡ Some v) h get in
        let pushed = subst (λ ws. slice_get ws k ≡ Some v) words_here there in
        subst (λ (x : Chan). IsWordOf (width_of x.ty) v) (sym same) (by_place v k (push_get (words_at run cut site.chan) word v k pushed))
    words_fit c ch e (inr h) =
        let chan_here = chan_at-there proc.behavior.sites i site at_site.place in
        let words_other = words_at-send_other run cut p i c word proc at_site.proc_is (λ f. h (sym f ∙ chan_here)) in
        subst (λ ws. AreWordsOf (width_of ch.ty) ws) (sym words_other) (sh.words c ch e)

pub end_shows : (run : Run) (cut : Cut) (old new : Config) (p : ℕ) (proc : Proc) (s : Value)
    → Shows run cut old → slice_get run.procs p ≡ Some proc → IsOfType proc.behavior.state s
    → next_of proc.behavior (position_in run cut p proc) ≡ End s → goes_by run cut p (Some proc) ≡ true
    → IsEndMade old new p (progress_of run cut p proc) s
    → Shows run (with_event cut p (End s)) new
end_shows run cut old new p proc s sh proc_is typed next goes made =
    let b = proc.behavior in
    let at = position_in run cut p proc in
    let more : Cut = with_event cut p (End s) in
    let words_same = λ (c : ℕ). words_at-end run cut p c s in
    let received_same = λ (c : ℕ). received_at-end run cut p c s in
    let stands_is : position_in run more p proc ≡ record { state = s; got = []; done = 0; ends = suc at.ends } =
    own_stands run cut old sh p proc proc_is (End s) next goes in
    record {
      run_fits = sh.run_fits;
      activations = made.activations ∙ sh.activations;
      procs = procs_after run cut old sh p proc proc_is (End s) next goes new _ made.procs (sym (ap (λ x. progress_at proc x) stands_is));
      channels = λ c. ap (λ cs. slice_get cs c) made.channels ∙ (sh.channels c ∙ channel_same run cut old sh p proc proc_is (End s) next goes more c (slice_get run.chans c) (words_same c) (received_same c));
      consistent = more_consistent run cut old sh p proc proc_is (End s) next goes;
      below = more_below run cut old sh p proc proc_is (End s) next goes;
      stands = stands_after run cut old sh p proc proc_is (End s) next goes
          (subst (λ (x : Position). IsOpen b x.state x.got x.done) (sym stands_is) (open_first b s typed));
      received = λ c. omega (arith, received_same c, ap length (words_same c), sh.received c);
      words = λ c ch e. subst (λ ws. AreWordsOf (width_of ch.ty) ws) (sym (words_same c)) (sh.words c ch e);
    }
