-- An outcome tells of each event: each is a receive or a send at one channel, or an end.
use Rattle.std.proofs.Common.{◌≡◌, ◌≢◌, ◌<◌, ◌≤◌, ◌+◌, ℕ, zero, suc, Bool, true, false, cond, eqb, List, [], ◌∷◌, length, take, get_or, Some, None, Option, refl, sym, ap, ◌∙◌, subst, arith}
use Rattle.std.specs.Prelude.{slice_get, sum_by}
use Rattle.std.specs.List.{AllByRecursion}
use Rattle.std.proofs.lemmas.List.Sums.{sum_by-cons}
use Rattle.std.proofs.lemmas.Option.{slice_get_past, slice_get_within}
use Rattle.base.specs.Lists.Indexed.{indexed}
use Rattle.xb_bits.specs.Word.{Word}
use Rattle.net_core.specs.declared.net.Chan.{Chan}
use Rattle.net_core.specs.declared.net.Kind.{Kind}
use Rattle.net_core.specs.declared.net.Kind.TheVariants.{Input, Output, Inner}
use Rattle.net_core.specs.declared.net.Site.{Site}
use Rattle.net_core.specs.declared.event.Event.{Event}
use Rattle.net_core.specs.declared.event.Event.TheVariants.{Recv, Send, End}
use Rattle.net_core.specs.declared.outcome.Outcome.{Outcome}
use Rattle.net_core.specs.declared.outcome.ProcEnd.{ProcEnd}
use Rattle.net_core.specs.declared.outcome.Stream.{Stream}
use Rattle.net_core.specs.Behavior.{chan_at}
use Rattle.net_core.specs.Cuts.{Proc, Run, Cut, sites_of, sites_at, sender, receiver, words_sent, count_received, words_by, words_at, received_at, final_cut}
use Rattle.net_core.specs.Outcomes.{count_ends, stream_of, end_of, outcome_of}
use Rattle.net_core.specs.WellFormed.{IsRun, SiteFits}
use Rattle.xls_gen.specs.Events.{added_below, events_on, events_over, events_told, total_events}
use Rattle.xls_gen.proofs.OnEvents.Adding.{added_both, added_more, added_none, added_one, added_same, added_swap, same_by_test}
use Rattle.xls_gen.proofs.OnEvents.Making.{IsAtSite, final_at_sites}

site_chan : (sites : List Site) (i : ℕ) (site : Site) → slice_get sites i ≡ Some site → chan_at sites i ≡ site.chan
site_chan [] i site e = cc
site_chan (x ∷ sites) zero site e = let same : x ≡ site = cc in ap (λ (s : Site). s.chan) same
site_chan (x ∷ sites) (suc i) site e = site_chan sites i site e

-- ---- the events of one proc

-- how many of them are at a channel
abbrev made_at : List Site → List Event → ℕ → ℕ
made_at sites es c = length (words_sent sites c es) + count_received sites c es

sent_length : (b : Bool) (w : Word) (ws : List Word) → length (cond b (w ∷ ws) ws) ≡ cond b (suc (length ws)) (length ws)
sent_length true w ws = refl
sent_length false w ws = refl

one_sent : (b : Bool) (m n : ℕ) → cond b (suc m) m + n ≡ cond b (suc (m + n)) (m + n)
one_sent true m n = omega arith
one_sent false m n = refl

one_received : (b : Bool) (m n : ℕ) → m + cond b (suc n) n ≡ cond b (suc (m + n)) (m + n)
one_received true m n = omega arith
one_received false m n = refl

ends_or_moves : (sites : List Site) (count : ℕ) (es : List Event) → AllByRecursion (IsAtSite sites) es → ((i : ℕ) (site : Site) → slice_get sites i ≡ Some site → site.chan < count)
    → length es ≡ count_ends es + added_below (made_at sites es) count
unfolding words_sent count_received count_ends
ends_or_moves sites count [] at within = let none = added_none (λ c. 0 + 0) count (λ c l. omega arith) in omega (arith, none)
ends_or_moves sites count (Recv i ∷ es) at within =
    let place = subst (λ c. c < count) (sym (site_chan sites i at.0.site at.0.place)) (within i at.0.site at.0.place) in
    let more = added_more (made_at sites es) (made_at sites (Recv i ∷ es)) (chan_at sites i) count place
    (λ c. one_received (eqb (chan_at sites i) c) (length (words_sent sites c es)) (count_received sites c es)) in
    omega (arith, more, ends_or_moves sites count es at.1 within)
ends_or_moves sites count (Send i w ∷ es) at within =
    let place = subst (λ c. c < count) (sym (site_chan sites i at.0.site at.0.place)) (within i at.0.site at.0.place) in
    let more = added_more (made_at sites es) (made_at sites (Send i w ∷ es)) (chan_at sites i) count place
    (λ c. ap (λ n. n + count_received sites c es) (sent_length (eqb (chan_at sites i) c) w (words_sent sites c es))
    ∙ one_sent (eqb (chan_at sites i) c) (length (words_sent sites c es)) (count_received sites c es)) in
    omega (arith, more, ends_or_moves sites count es at.1 within)
ends_or_moves sites count (End s ∷ es) at within = omega (arith, ends_or_moves sites count es at.1 within)

-- ---- the events at one channel

not_here : {A : Type 0} (b : Bool) (x y z : A) → (b ≡ true → ⊥) → y ≡ z → cond b x y ≡ z
not_here true x y z h e = absurd (h refl)
not_here false x y z h e = e

-- none is sent on a channel on which no site sends, and none is received where none receives
none_sent : (sites : List Site) (c : ℕ) (es : List Event) → AllByRecursion (IsAtSite sites) es → ((i : ℕ) (site : Site) → slice_get sites i ≡ Some site → site.sends ≡ true → site.chan ≢ c)
    → length (words_sent sites c es) ≡ 0
unfolding words_sent
none_sent sites c [] at other = refl
none_sent sites c (Recv i ∷ es) at other = none_sent sites c es at.1 other
none_sent sites c (Send i w ∷ es) at other =
    sent_length (eqb (chan_at sites i) c) w (words_sent sites c es)
    ∙ not_here (eqb (chan_at sites i) c) _ _ 0 (λ t. other i at.0.site at.0.place at.0.direction (sym (site_chan sites i at.0.site at.0.place) ∙ same_by_test (chan_at sites i) c t)) (none_sent sites c es at.1 other)
none_sent sites c (End s ∷ es) at other = none_sent sites c es at.1 other

none_received : (sites : List Site) (c : ℕ) (es : List Event) → AllByRecursion (IsAtSite sites) es → ((i : ℕ) (site : Site) → slice_get sites i ≡ Some site → site.sends ≡ false → site.chan ≢ c)
    → count_received sites c es ≡ 0
unfolding count_received
none_received sites c [] at other = refl
none_received sites c (Recv i ∷ es) at other =
    not_here (eqb (chan_at sites i) c) _ _ 0 (λ t. other i at.0.site at.0.place at.0.direction (sym (site_chan sites i at.0.site at.0.place) ∙ same_by_test (chan_at sites i) c t)) (none_received sites c es at.1 other)
none_received sites c (Send i w ∷ es) at other = none_received sites c es at.1 other
none_received sites c (End s ∷ es) at other = none_received sites c es at.1 other

to_bound : (f : ℕ → ℕ) (m n : ℕ) → m ≡ n → added_below f m ≡ added_below f n
to_bound f m n e = ap (added_below f) e

itself : (i : ℕ) → i ≡ i + 0
itself i = omega arith

behind : (i k : ℕ) → i + suc k ≡ suc i + k
behind i k = omega arith

behind_none : (k : ℕ) → k ≡ 0 + k
behind_none k = omega arith

-- a stream, and the words of its channel, by the channel's kind
unfoldable stream_by : Kind → List Word → ℕ → Stream
stream_by kind words received =
    elim kind [
      | Input ↦ record { words = take received words; received = received }
      | Output ↦ record { words = words; received = 0 }
      | Inner ↦ record { words = words; received = received }
    ]

unfoldable words_kind : Kind → List Word → List Word → List Word
words_kind kind outside sent = elim kind [ Input ↦ outside | Output ↦ sent | Inner ↦ sent ]

stream_is : (run : Run) (cut : Cut) (c : ℕ) (chan : Chan) → slice_get run.chans c ≡ Some chan
    → stream_of run cut c chan
    ≡ stream_by chan.kind (words_kind chan.kind (get_or run.inputs c []) (words_sent (sites_at run (sender run c)) c (cut (sender run c)))) (count_received (sites_at run (receiver run c)) c (cut (receiver run c)))
unfolding stream_of words_at words_by received_at stream_by words_kind
stream_is run cut c chan there = ap (λ o. stream_by chan.kind (words_by run cut c o) (received_at run cut c)) there

module _ (run : Run) (fits : IsRun run) where
  -- a site of a proc, in the run
  site_fits : (p i : ℕ) (site : Site) → slice_get (sites_at run p) i ≡ Some site → (proc : Proc) × (slice_get run.procs p ≡ Some proc) × SiteFits run p proc.behavior site
  site_fits p i site place = go (slice_get run.procs p) refl place
    where
      go : (o : Option Proc) → slice_get run.procs p ≡ o → slice_get (sites_of o) i ≡ Some site → (proc : Proc) × (slice_get run.procs p ≡ Some proc) × SiteFits run p proc.behavior site
      go None e h = cc
      go (Some proc) e h = (proc, e, fits.sites p i proc site (record { proc_is = e; place = h }))

  abbrev cut : Cut
  cut = final_cut run

  -- how many words a proc sends on a channel, and receives from it
  abbrev sent : ℕ → ℕ → ℕ
  sent p c = length (words_sent (sites_at run p) c (cut p))

  abbrev received : ℕ → ℕ → ℕ
  received p c = count_received (sites_at run p) c (cut p)

  abbrev made : ℕ → ℕ → ℕ
  made p c = made_at (sites_at run p) (cut p) c

  only_sender : (p c : ℕ) → p ≢ sender run c → sent p c ≡ 0
  only_sender p c other = none_sent (sites_at run p) c (cut p) (final_at_sites run fits p)
      (λ i site place sends at. other (sym ((site_fits p i site place).2.sends sends) ∙ ap (sender run) at))

  only_receiver : (p c : ℕ) → p ≢ receiver run c → received p c ≡ 0
  only_receiver p c other = none_received (sites_at run p) c (cut p) (final_at_sites run fits p)
      (λ i site place receives at. other (sym ((site_fits p i site place).2.receives receives) ∙ ap (receiver run) at))

  -- past the procs there is no site
  no_proc_sends : (p c : ℕ) → length run.procs ≤ p → sent p c ≡ 0
  no_proc_sends p c past = none_sent (sites_at run p) c (cut p) (final_at_sites run fits p)
      (λ i site place sends at. let none = slice_get_past run.procs p past in let there = (site_fits p i site place).1 in cc)

  no_proc_receives : (p c : ℕ) → length run.procs ≤ p → received p c ≡ 0
  no_proc_receives p c past = none_received (sites_at run p) c (cut p) (final_at_sites run fits p)
      (λ i site place receives at. let none = slice_get_past run.procs p past in let there = (site_fits p i site place).1 in cc)

  all_sent : (c : ℕ) → added_below (λ p. sent p c) (length run.procs) ≡ sent (sender run c) c
  all_sent c = added_one (λ p. sent p c) (sender run c) (length run.procs) (λ p other. only_sender p c other) (λ past. no_proc_sends (sender run c) c past)

  all_received : (c : ℕ) → added_below (λ p. received p c) (length run.procs) ≡ received (receiver run c) c
  all_received c = added_one (λ p. received p c) (receiver run c) (length run.procs) (λ p other. only_receiver p c other) (λ past. no_proc_receives (receiver run c) c past)

  -- no proc sends on an input, and none receives from an output
  none_on_input : (p c : ℕ) (chan : Chan) → slice_get run.chans c ≡ Some chan → chan.kind ≡ Input → sent p c ≡ 0
  none_on_input p c chan there kind = none_sent (sites_at run p) c (cut p) (final_at_sites run fits p)
      (λ i site place sends at.
      let site_is = (site_fits p i site place).2 in
      let same : site_is.chan ≡ chan = (let here = site_is.chan_is in let also = ap (slice_get run.chans) at in cc) in
      site_is.no_send sends (ap (λ (x : Chan). x.kind) same ∙ kind))

  none_from_output : (p c : ℕ) (chan : Chan) → slice_get run.chans c ≡ Some chan → chan.kind ≡ Output → received p c ≡ 0
  none_from_output p c chan there kind = none_received (sites_at run p) c (cut p) (final_at_sites run fits p)
      (λ i site place receives at.
      let site_is = (site_fits p i site place).2 in
      let same : site_is.chan ≡ chan = (let here = site_is.chan_is in let also = ap (slice_get run.chans) at in cc) in
      site_is.no_receive receives (ap (λ (x : Chan). x.kind) same ∙ kind))

  -- what a stream tells of, by its channel's kind
  told_by : (c : ℕ) (chan : Chan) (outside : List Word) → slice_get run.chans c ≡ Some chan → (kind : Kind) → chan.kind ≡ kind
      → events_on kind (stream_by kind (words_kind kind outside (words_sent (sites_at run (sender run c)) c (cut (sender run c)))) (received (receiver run c) c)) ≡ sent (sender run c) c + received (receiver run c) c
  unfolding stream_by words_kind
  told_by c chan outside there Input is = omega (arith, none_on_input (sender run c) c chan there is)
  told_by c chan outside there Output is = omega (arith, none_from_output (receiver run c) c chan there is)
  told_by c chan outside there Inner is = refl

  told_at : (c : ℕ) (chan : Chan) → slice_get run.chans c ≡ Some chan → events_on chan.kind (stream_of run cut c chan) ≡ added_below (λ p. made p c) (length run.procs)
  told_at c chan there =
      let outside : List Word = get_or run.inputs c [] in
      let told = ap (events_on chan.kind) (stream_is run cut c chan there) ∙ told_by c chan outside there chan.kind refl in
      let both = added_both (λ p. sent p c) (λ p. received p c) (length run.procs) in
      omega (arith, told, both, all_sent c, all_received c)

  -- how many receives and sends there are at a channel
  abbrev at_channel : ℕ → ℕ
  at_channel c = added_below (λ p. made p c) (length run.procs)

  abbrev ended : ℕ → ℕ
  ended p = count_ends (cut p)

  told_over : (chans : List Chan) (i : ℕ) → ((k : ℕ) → slice_get chans k ≡ slice_get run.chans (i + k))
      → added_below at_channel i + events_over chans (indexed (stream_of run cut) i chans) ≡ added_below at_channel (i + length chans)
  told_over [] i left = let same = to_bound at_channel i (i + 0) (omega arith) in omega (arith, same)
  told_over (chan ∷ chans) i left =
      let here = told_at i chan (ap (slice_get run.chans) (itself i) ∙ sym (left 0)) in
      let rest = told_over chans (suc i) (λ k. left (suc k) ∙ ap (slice_get run.chans) (behind i k)) in
      let same = to_bound at_channel (suc i + length chans) (i + suc (length chans)) (omega arith) in
      omega (arith, here, rest, same)

  ended_over : (procs : List Proc) (i : ℕ) → added_below ended i + sum_by (λ (stand : ProcEnd). stand.ends) (indexed (end_of run cut) i procs) ≡ added_below ended (i + length procs)
  ended_over [] i = let same = to_bound ended i (i + 0) (omega arith) in omega (arith, same)
  ended_over (proc ∷ procs) i =
      let first = sum_by-cons (λ (stand : ProcEnd). stand.ends) (end_of run cut i proc) (indexed (end_of run cut) (suc i) procs) in
      let rest = ended_over procs (suc i) in
      let same = to_bound ended (suc i + length procs) (i + suc (length procs)) (omega arith) in
      omega (arith, first, rest, same)

  by_proc : (p : ℕ) → length (cut p) ≡ ended p + added_below (λ c. made p c) (length run.chans)
  by_proc p = ends_or_moves (sites_at run p) (length run.chans) (cut p) (final_at_sites run fits p)
      (λ i site place. let site_is = (site_fits p i site place).2 in slice_get_within run.chans site.chan site_is.chan site_is.chan_is)

  pub told : events_told run.chans (outcome_of run cut) ≡ total_events run cut
  told =
      let moves = told_over run.chans 0 (λ k. ap (slice_get run.chans) (behind_none k)) in
      let moves_all = to_bound at_channel (0 + length run.chans) (length run.chans) (omega arith) in
      let ends = ended_over run.procs 0 in
      let ends_all = to_bound ended (0 + length run.procs) (length run.procs) (omega arith) in
      let swapped = added_swap (λ p c. made p c) (length run.procs) (length run.chans) in
      let each = added_same (λ p. length (cut p)) (λ p. ended p + added_below (λ c. made p c) (length run.chans)) (length run.procs) (λ p l. by_proc p) in
      let both = added_both ended (λ p. added_below (λ c. made p c) (length run.chans)) (length run.procs) in
      omega (arith, moves, moves_all, ends, ends_all, swapped, each, both)

-- a count of what an outcome tells
pub counted : (run : Run) → IsRun run → (outcome : Outcome) (count : ℕ) → count ≡ events_told run.chans outcome → outcome ≡ outcome_of run (final_cut run) → count ≡ total_events run (final_cut run)
counted run fits outcome count told_is is = told_is ∙ ap (events_told run.chans) is ∙ told run fits
