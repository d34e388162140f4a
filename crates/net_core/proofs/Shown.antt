-- A configuration that shows a cut shows, after an event, the cut with that event.
use Rattle.std.proofs.Common.{◌≡◌, ◌≢◌, ℕ, zero, suc, ◌+◌, ◌<◌, ◌≤◌, List, [], ◌∷◌, length, get_or, refl, sym, ap, ◌∙◌, arith, true, false, Bool, cond, Some}
use Rattle.std.proofs.lemmas.Option.{slice_get_within}
use Rattle.std.specs.Prelude.{slice_get, option_map, nat_lt, ◌&&◌}
use Rattle.std.proofs.lemmas.Bool.Decides.{nat_tests}
use Rattle.xb_bits.specs.Word.{Word}
use Rattle.xb_value.specs.declared.value.Value.{Value}
use Rattle.net_core.specs.declared.net.Site.{Site}
use Rattle.net_core.specs.declared.net.Chan.{Chan}
use Rattle.net_core.specs.declared.net.Kind.{Kind}
use Rattle.net_core.specs.declared.net.Kind.TheVariants.{Input, Output, Inner}
use Rattle.net_core.specs.declared.event.Event.TheVariants.{Recv, Send, End}
use Rattle.net_core.specs.declared.config.Config.{Config}
use Rattle.net_core.specs.Behavior.{chan_at}
use Rattle.net_core.specs.Cuts.{Proc, Run, Cut, sender, receiver, words_sent, count_received, words_at, received_at, room_by, room_at, fits_after}
use Rattle.net_core.specs.Machine.{position_in, next_of, finds_word, goes_by, with_event, stepped_by, stepped}
use Rattle.net_core.specs.WellFormed.{SiteFits}
use Rattle.net_core.specs.Shows.{Shows, progress_of, channel_of, IsUnchanged}
use Rattle.net_core.specs.Inner.Making.{has_word, has_room, SiteData, IsSiteData}
use Rattle.net_core.proofs.Flows.{words_at-sent, received_at-by}

pub chan_at-there : (sites : List Site) (i : ℕ) (site : Site) → slice_get sites i ≡ Some site → chan_at sites i ≡ site.chan
chan_at-there [] i site e = cc
chan_at-there (x ∷ xs) zero site e = let h : x ≡ site = cc in ap (λ (y : Site). y.chan) h
chan_at-there (x ∷ xs) (suc i) site e = chan_at-there xs i site e

-- nothing changed, so the same cut is shown
pub shows_unchanged : (run : Run) (cut : Cut) (old new : Config) → Shows run cut old → IsUnchanged old new → Shows run cut new
shows_unchanged run cut old new sh same =
    record {
      run_fits = sh.run_fits;
      activations = same.activations ∙ sh.activations;
      procs = λ p. ap (λ ps. slice_get ps p) same.procs ∙ sh.procs p;
      channels = λ c. ap (λ cs. slice_get cs c) same.channels ∙ sh.channels c;
      consistent = sh.consistent;
      below = sh.below;
      stands = sh.stands;
      received = sh.received;
      words = sh.words;
    }

-- the step of a proc that can go
pub stepped_is : (run : Run) (cut : Cut) (p : ℕ) (proc : Proc) → slice_get run.procs p ≡ Some proc → goes_by run cut p (Some proc) ≡ true
    → stepped run cut p ≡ with_event cut p (next_of proc.behavior (position_in run cut p proc))
unfolding stepped_by
stepped_is run cut p proc e h =
    ap (λ o. stepped_by run cut p o) e ∙ ap (λ b. cond b (with_event cut p (next_of proc.behavior (position_in run cut p proc))) cut) h

-- and of one that can't
pub stepped_stays : (run : Run) (cut : Cut) (p : ℕ) (proc : Proc) → slice_get run.procs p ≡ Some proc → goes_by run cut p (Some proc) ≡ false → stepped run cut p ≡ cut
unfolding stepped_by
stepped_stays run cut p proc e h =
    ap (λ o. stepped_by run cut p o) e ∙ ap (λ b. cond b (with_event cut p (next_of proc.behavior (position_in run cut p proc))) cut) h

lt_is : (m n : ℕ) → m < n → nat_lt m n ≡ true
lt_is m n h = grind (arith, nat_tests)

-- a step's tests where an activation is open
tests_active : (m n : ℕ) (a b : Bool) → m < n → nat_lt m n && (a && b) ≡ a && b
tests_active m n a b h = ap (λ t. t && (a && b)) (lt_is m n h)

and_true : (b : Bool) → b && true ≡ b
and_true true = refl
and_true false = refl

-- what the machine holds for a site of a proc, by a cut
abbrev pub site_data : Run → Cut → ℕ → Proc → Site → Chan → SiteData
site_data run cut p proc site chan = record { progress = progress_of run cut p proc; chan = site.chan; channel = channel_of run cut site.chan chan }

-- what is known of a proc that stands in a configuration
module _ (run : Run) (cut : Cut) (config : Config) (sh : Shows run cut config) (p : ℕ) (proc : Proc) (proc_is : slice_get run.procs p ≡ Some proc) where
  pub progress_is : slice_get config.procs.items p ≡ Some (progress_of run cut p proc)
  progress_is = sh.procs p ∙ ap (λ o. option_map (progress_of run cut p) o) proc_is

  pub site_fits : (i : ℕ) (site : Site) → slice_get proc.behavior.sites i ≡ Some site → SiteFits run p proc.behavior site
  site_fits i site place = sh.run_fits.sites p i proc site (record { proc_is = proc_is; place = place })

  pub stands_at : (i : ℕ) (site : Site) → slice_get proc.behavior.sites i ≡ Some site → (chan : Chan) → slice_get run.chans site.chan ≡ Some chan
      → IsSiteData config p i (site_data run cut p proc site chan)
  stands_at i site place chan chan_is =
      record {
        proc = progress_is;
        at = site;
        site_is = place;
        chan_is = refl;
        small = omega (arith, slice_get_within proc.behavior.sites i site place, sh.run_fits.few_sites p proc proc_is);
        channel_is = sh.channels site.chan ∙ ap (λ o. option_map (channel_of run cut site.chan) o) chan_is;
        received = sh.received site.chan;
      }

  -- a receive can be made where there is a word
  pub goes_receive : (i : ℕ) (site : Site) → slice_get proc.behavior.sites i ≡ Some site → (chan : Chan) → receiver run site.chan ≡ p
      → (position_in run cut p proc).ends < run.activations → next_of proc.behavior (position_in run cut p proc) ≡ Recv i
      → goes_by run cut p (Some proc) ≡ has_word (channel_of run cut site.chan chan)
  unfolding goes_by finds_word fits_after
  goes_receive i site place chan ours active next =
      let at = position_in run cut p proc in
      let b = proc.behavior in
      let found = ap (λ c. nat_lt (count_received b.sites c (cut p)) (length (words_at run cut c))) (chan_at-there b.sites i site place) in
      let count = ap (λ k. nat_lt k (length (words_at run cut site.chan))) (received_at-by run cut p site.chan proc proc_is ours) in
      tests_active at.ends run.activations (finds_word b.sites (words_at run cut) (cut p) (next_of b at)) (fits_after b.sites (room_at run cut) (cut p) (next_of b at)) active
      ∙ (ap (λ e. finds_word b.sites (words_at run cut) (cut p) e && fits_after b.sites (room_at run cut) (cut p) e) next
      ∙ (and_true _ ∙ (found ∙ sym count)))

  room_kind : (kind : Kind) (sent words received depth : ℕ) → sent ≡ words
      → ◌≡◌ {A = Bool} (elim kind as (λ _. Bool) [ Input ↦ true | Output ↦ true | Inner ↦ nat_lt sent (received + depth) ]) (elim kind as (λ _. Bool) [ Input ↦ true | Output ↦ true | Inner ↦ nat_lt words (received + depth) ])
  room_kind kind sent words received depth e = ap (λ m. elim kind as (λ _. Bool) [ Input ↦ true | Output ↦ true | Inner ↦ nat_lt m (received + depth) ]) e

  -- a send can be made where there is room
  pub goes_send : (i : ℕ) (site : Site) (w : Word) → slice_get proc.behavior.sites i ≡ Some site → (chan : Chan) → slice_get run.chans site.chan ≡ Some chan
      → chan.kind ≢ Input → sender run site.chan ≡ p
      → (position_in run cut p proc).ends < run.activations → next_of proc.behavior (position_in run cut p proc) ≡ Send i w
      → goes_by run cut p (Some proc) ≡ has_room (channel_of run cut site.chan chan)
  unfolding goes_by finds_word fits_after room_at room_by
  goes_send i site w place chan chan_is no_input ours active next =
      let at = position_in run cut p proc in
      let b = proc.behavior in
      let here = ap (λ c. room_at run cut c (length (words_sent b.sites c (cut p)))) (chan_at-there b.sites i site place) in
      let room = ap (λ o. room_by run cut site.chan (length (words_sent b.sites site.chan (cut p))) o) chan_is in
      let words = ap length (words_at-sent run cut p site.chan proc chan proc_is chan_is no_input ours) in
      tests_active at.ends run.activations (finds_word b.sites (words_at run cut) (cut p) (next_of b at)) (fits_after b.sites (room_at run cut) (cut p) (next_of b at)) active
      ∙ (ap (λ e. finds_word b.sites (words_at run cut) (cut p) e && fits_after b.sites (room_at run cut) (cut p) e) next
      ∙ (here ∙ (room ∙ room_kind chan.kind _ _ (received_at run cut site.chan) (get_or run.depths site.chan 0) (sym words))))

  -- an end can always be made
  pub goes_end : (s : Value) → (position_in run cut p proc).ends < run.activations → next_of proc.behavior (position_in run cut p proc) ≡ End s
      → goes_by run cut p (Some proc) ≡ true
  unfolding goes_by finds_word fits_after
  goes_end s active next =
      let at = position_in run cut p proc in
      let b = proc.behavior in
      tests_active at.ends run.activations (finds_word b.sites (words_at run cut) (cut p) (next_of b at)) (fits_after b.sites (room_at run cut) (cut p) (next_of b at)) active
      ∙ ap (λ e. finds_word b.sites (words_at run cut) (cut p) e && fits_after b.sites (room_at run cut) (cut p) e) next

  -- a proc that is done can't go
  pub goes_done : run.activations ≤ (position_in run cut p proc).ends → goes_by run cut p (Some proc) ≡ false
  unfolding goes_by
  goes_done done =
      let at = position_in run cut p proc in
      let b = proc.behavior in
      let none : nat_lt at.ends run.activations ≡ false = grind (arith, nat_tests) in
      ap (λ t. t && (finds_word b.sites (words_at run cut) (cut p) (next_of b at) && fits_after b.sites (room_at run cut) (cut p) (next_of b at))) none
