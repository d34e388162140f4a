-- Where the counts show that no proc can go, the cut is the final one.
use Rattle.std.proofs.Common.{◌≡◌, ℕ, suc, ◌+◌, ◌<◌, ◌≤◌, List, [], ◌∷◌, length, take, get_or, refl, sym, ap, ◌∙◌, subst, arith, cond, true, false, Bool, Option, Some, None}
use Rattle.std.specs.Prelude.{slice_get, option_map, nat_lt, ◌&&◌}
use Rattle.std.proofs.lemmas.Bool.Decides.{nat_tests}
use Rattle.base.specs.Lists.Indexed.{indexed}
use Rattle.base.proofs.Lemmas.Lists.Indexed.{indexed_get}
use Rattle.xb_bits.specs.Word.{Word}
use Rattle.net_core.specs.declared.net.Site.{Site}
use Rattle.net_core.specs.declared.net.Chan.{Chan}
use Rattle.net_core.specs.declared.net.Kind.{Kind}
use Rattle.net_core.specs.declared.net.Kind.TheVariants.{Input, Output, Inner}
use Rattle.net_core.specs.declared.event.Event.{Event}
use Rattle.net_core.specs.declared.event.Event.TheVariants.{Recv, Send, End}
use Rattle.net_core.specs.declared.outcome.Outcome.{Outcome}
use Rattle.net_core.specs.declared.outcome.ProcEnd.{ProcEnd}
use Rattle.net_core.specs.declared.outcome.Stream.{Stream}
use Rattle.net_core.specs.Behavior.{Behavior, IsOpen, chan_at}
use Rattle.net_core.specs.Nexts.{EventFits}
use Rattle.net_core.specs.Cuts.{Proc, Run, Cut, IsWithin, sender, receiver, words_sent, words_at, received_at, room_at, fits_after, final_cut}
use Rattle.net_core.specs.Counted.{IsCounted}
use Rattle.net_core.specs.Machine.{Position, next_of, finds_word, goes_by, goes}
use Rattle.net_core.specs.Outcomes.{stream_of, stall_for, end_of, outcome_of}
use Rattle.net_core.proofs.Lemmas.{next_keeps_types, counted_cuts_stand, ends_by_position}
use Rattle.chan_queue.specs.Streams.Streams.{AreStopped, stands}
use Rattle.chan_queue.specs.Streams.Moves.{IsTyped}
use Rattle.chan_queue.proofs.Lemmas.Streams.{chan_there, inner_words, inner_room, received_by, input_words, counted, come_to_the_end}
use Rattle.proc_task.specs.Outcome.Inner.Counts.{end_in, CountsFit, AllFit, Holds, IsHeldBy, StaysAt, AllStay}

pub stream_input : (run : Run) (cut : Cut) (c : ℕ) (chan : Chan) → chan.kind ≡ Input → stream_of run cut c chan ≡ record { words = take (received_at run cut c) (words_at run cut c); received = received_at run cut c }
unfolding stream_of
stream_input run cut c chan e = by_kind chan.kind e
  where
    by_kind : (kind : Kind) → kind ≡ Input → ◌≡◌ {A = Stream} (elim kind as (λ _. Stream) [
      | Input ↦ record { words = take (received_at run cut c) (words_at run cut c); received = received_at run cut c }
      | Output ↦ record { words = words_at run cut c; received = 0 }
      | Inner ↦ record { words = words_at run cut c; received = received_at run cut c }
    ]) (record { words = take (received_at run cut c) (words_at run cut c); received = received_at run cut c })
    by_kind Input k = refl
    by_kind Output k = cc
    by_kind Inner k = cc

pub stream_output : (run : Run) (cut : Cut) (c : ℕ) (chan : Chan) → chan.kind ≡ Output → stream_of run cut c chan ≡ record { words = words_at run cut c; received = 0 }
unfolding stream_of
stream_output run cut c chan e = by_kind chan.kind e
  where
    by_kind : (kind : Kind) → kind ≡ Output → ◌≡◌ {A = Stream} (elim kind as (λ _. Stream) [
      | Input ↦ record { words = take (received_at run cut c) (words_at run cut c); received = received_at run cut c }
      | Output ↦ record { words = words_at run cut c; received = 0 }
      | Inner ↦ record { words = words_at run cut c; received = received_at run cut c }
    ]) (record { words = words_at run cut c; received = 0 })
    by_kind Input k = cc
    by_kind Output k = refl
    by_kind Inner k = cc

pub stream_inner : (run : Run) (cut : Cut) (c : ℕ) (chan : Chan) → chan.kind ≡ Inner → stream_of run cut c chan ≡ record { words = words_at run cut c; received = received_at run cut c }
unfolding stream_of
stream_inner run cut c chan e = by_kind chan.kind e
  where
    by_kind : (kind : Kind) → kind ≡ Inner → ◌≡◌ {A = Stream} (elim kind as (λ _. Stream) [
      | Input ↦ record { words = take (received_at run cut c) (words_at run cut c); received = received_at run cut c }
      | Output ↦ record { words = words_at run cut c; received = 0 }
      | Inner ↦ record { words = words_at run cut c; received = received_at run cut c }
    ]) (record { words = words_at run cut c; received = received_at run cut c })
    by_kind Input k = cc
    by_kind Output k = cc
    by_kind Inner k = refl

lt_false : (m n : ℕ) → n ≤ m → nat_lt m n ≡ false
lt_false m n h = grind (arith, nat_tests)

pub lt_true : (m n : ℕ) → nat_lt m n ≡ true → m < n
lt_true m n h = grind (arith, nat_tests)

and_right : (a b : Bool) → b ≡ false → a && b ≡ false
and_right true b e = e
and_right false b e = refl

and_left : (a b : Bool) → a ≡ false → a && b ≡ false
and_left a b e = ap (λ t. t && b) e

module _ (run : Run) (typed : IsTyped run) (cut : Cut) (within : IsWithin cut (final_cut run))
    (opens : (p : ℕ) (proc : Proc) → slice_get run.procs p ≡ Some proc → IsOpen proc.behavior (stands run proc (cut p)).state (stands run proc (cut p)).got (stands run proc (cut p)).done)
    (fit : AllFit run.chans run.depths (indexed (stream_of run cut) 0 run.chans))
    (stay : AllStay run.chans run.inputs run.depths (indexed (stream_of run cut) 0 run.chans) run.activations (indexed (end_in run cut) 0 run.procs)) where
  stream_there : (c : ℕ) (chan : Chan) → slice_get run.chans c ≡ Some chan → slice_get (indexed (stream_of run cut) 0 run.chans) c ≡ Some (stream_of run cut c chan)
  stream_there c chan e = indexed_get (stream_of run cut) 0 c c run.chans (omega arith) ∙ ap (option_map (stream_of run cut c)) e

  end_there : (p : ℕ) (proc : Proc) → slice_get run.procs p ≡ Some proc → slice_get (indexed (end_in run cut) 0 run.procs) p ≡ Some (end_in run cut p proc)
  end_there p proc e = indexed_get (end_in run cut) 0 p p run.procs (omega arith) ∙ ap (option_map (end_in run cut p)) e

  inner_fits : (c : ℕ) (chan : Chan) → slice_get run.chans c ≡ Some chan → chan.kind ≡ Inner
      → (received_at run cut c ≤ length (words_at run cut c)) × (length (words_at run cut c) ≤ received_at run cut c + get_or run.depths c 0)
  inner_fits c chan e inner =
      subst (λ (s : Stream). CountsFit Inner (get_or run.depths c 0) s) (stream_inner run cut c chan inner)
      (subst (λ (k : Kind). CountsFit k (get_or run.depths c 0) (stream_of run cut c chan)) inner (fit c chan (stream_of run cut c chan) e (stream_there c chan e)))

  stopped : AreStopped run cut
  stopped = record {
    within = within;
    received = λ c chan e k. (inner_fits c chan e k).0;
    room = λ c chan e k. (inner_fits c chan e k).1;
  }

  known : IsCounted run cut
  known = counted run typed.fits cut stopped

  -- a channel whose words were all received
  dry : (c : ℕ) (chan : Chan) → slice_get run.chans c ≡ Some chan → Holds chan.kind (length (get_or run.inputs c [])) (get_or run.depths c 0) (stream_of run cut c chan) false
      → length (words_at run cut c) ≤ received_at run cut c
  dry c chan e holds = go chan.kind refl holds
    where
      go : (k : Kind) → chan.kind ≡ k → Holds k (length (get_or run.inputs c [])) (get_or run.depths c 0) (stream_of run cut c chan) false → length (words_at run cut c) ≤ received_at run cut c
      go Input k h = omega (arith, h, ap (λ (s : Stream). s.received) (stream_input run cut c chan k), ap length (input_words run cut c chan e k))
      go Output k h = omega (arith, h, ap (λ (s : Stream). length s.words) (stream_output run cut c chan k), ap (λ (s : Stream). s.received) (stream_output run cut c chan k))
      go Inner k h = omega (arith, h, ap (λ (s : Stream). length s.words) (stream_inner run cut c chan k), ap (λ (s : Stream). s.received) (stream_inner run cut c chan k))

  module _ (p : ℕ) (proc : Proc) (e : slice_get run.procs p ≡ Some proc) where
    abbrev b : Behavior
    b = proc.behavior

    held_receive : (i : ℕ) (site : Site) → slice_get b.sites i ≡ Some site → site.sends ≡ false → (ends : ℕ)
        → IsHeldBy run.chans run.inputs run.depths (indexed (stream_of run cut) 0 run.chans) (record { activation = ends; sends = false; chan = chan_at b.sites i })
        → finds_word b.sites (words_at run cut) (cut p) (Recv i) ≡ false
    unfolding finds_word
    held_receive i site place s ends held =
        let c = chan_at b.sites i in
        let here = chan_there b.sites i site place in
        let there = sym (stream_there c held.chan held.chan_is) ∙ held.stream_is in
        let stream : stream_of run cut c held.chan ≡ held.stream = cc in
        let low = dry c held.chan held.chan_is (subst (λ (x : Stream). Holds held.chan.kind (length (get_or run.inputs c [])) (get_or run.depths c 0) x false) (sym stream) held.holds) in
        let ours = (typed.fits.sites p i proc site (record { proc_is = e; place = place })).receives s in
        let count = received_by run cut p c proc e (ap (λ d. receiver run d) here ∙ ours) in
        lt_false _ _ (omega (arith, low, count))

    held_send : (i : ℕ) (w : Word) (site : Site) → slice_get b.sites i ≡ Some site → site.sends ≡ true → (ends : ℕ)
        → IsHeldBy run.chans run.inputs run.depths (indexed (stream_of run cut) 0 run.chans) (record { activation = ends; sends = true; chan = chan_at b.sites i })
        → fits_after b.sites (room_at run cut) (cut p) (Send i w) ≡ false
    unfolding fits_after
    held_send i w site place s ends held =
        let c = chan_at b.sites i in
        let here = chan_there b.sites i site place in
        let there = sym (stream_there c held.chan held.chan_is) ∙ held.stream_is in
        let stream : stream_of run cut c held.chan ≡ held.stream = cc in
        let is = sym stream ∙ stream_inner run cut c held.chan held.holds.0 in
        let ours = (typed.fits.sites p i proc site (record { proc_is = e; place = place })).sends s in
        let words = inner_words run cut p c proc held.chan e held.chan_is held.holds.0 (ap (λ d. sender run d) here ∙ ours) in
        inner_room run cut c (length (words_sent b.sites c (cut p))) held.chan held.chan_is held.holds.0
        ∙ lt_false _ _ (omega (arith, held.holds.1, ap length words, ap (λ (x : Stream). length x.words) is, ap (λ (x : Stream). x.received) is))

    abbrev at : Position
    at = stands run proc (cut p)

    held_event : (event : Event) → EventFits b event → at.ends < run.activations
        → StaysAt run.chans run.inputs run.depths (indexed (stream_of run cut) 0 run.chans) run.activations at.ends (stall_for b.sites at.ends event)
        → finds_word b.sites (words_at run cut) (cut p) event && fits_after b.sites (room_at run cut) (cut p) event ≡ false
    held_event (Recv i) fits active held = and_left _ _ (held_receive i fits.0 fits.1 fits.2 at.ends held)
    held_event (Send i w) fits active held = and_right _ _ (held_send i w fits.0 fits.1 fits.2 at.ends held)
    held_event (End s) fits active over = absurd (omega (arith, active, over))

    tests : nat_lt at.ends run.activations && (finds_word b.sites (words_at run cut) (cut p) (next_of b at) && fits_after b.sites (room_at run cut) (cut p) (next_of b at)) ≡ false
    tests = go (nat_lt at.ends run.activations) refl (stay p (end_in run cut p proc) (end_there p proc e))
      where
        go : (active : Bool) → nat_lt at.ends run.activations ≡ active
            → StaysAt run.chans run.inputs run.depths (indexed (stream_of run cut) 0 run.chans) run.activations at.ends (cond active (stall_for b.sites at.ends (next_of b at)) None)
            → active && (finds_word b.sites (words_at run cut) (cut p) (next_of b at) && fits_after b.sites (room_at run cut) (cut p) (next_of b at)) ≡ false
        go true is held =
            held_event (next_of b at) (next_keeps_types b (typed.fits.keeps_types p proc e) at.state at.got at.done (opens p proc e)) (lt_true at.ends run.activations is) held
        go false is over = refl

    no_going : goes_by run cut p (Some proc) ≡ false
    unfolding goes_by
    no_going =
        subst (λ (x : Position). nat_lt x.ends run.activations && (finds_word b.sites (words_at run cut) (cut p) (next_of b x) && fits_after b.sites (room_at run cut) (cut p) (next_of b x)) ≡ false)
        (sym (counted_cuts_stand run cut known p proc e)) tests

  none_goes : (p : ℕ) → goes_by run cut p None ≡ false
  unfolding goes_by
  none_goes p = refl

  stuck : (p : ℕ) → goes run cut p ≡ false
  stuck p = go (slice_get run.procs p) refl
    where
      go : (o : Option Proc) → slice_get run.procs p ≡ o → goes_by run cut p o ≡ false
      go None e = none_goes p
      go (Some proc) e = no_going p proc e

  pub is_final : cut ≡ final_cut run
  is_final = come_to_the_end run typed.fits cut stopped (λ p l. stuck p)

indexed_same : {A B : Type 0} (f g : ℕ → A → B) (i : ℕ) (xs : List A) → ((k : ℕ) (x : A) → slice_get xs k ≡ Some x → f (i + k) x ≡ g (i + k) x) → indexed f i xs ≡ indexed g i xs
indexed_same f g i [] h = refl
indexed_same f g i (x ∷ xs) h =
    let zero_is : i + 0 ≡ i = omega arith in
    let first = subst (λ (n : ℕ). f n x ≡ g n x) zero_is (h 0 x refl) in
    let rest = indexed_same f g (suc i) xs (λ k y e. let n : i + suc k ≡ suc i + k = omega arith in subst (λ (m : ℕ). f m y ≡ g m y) n (h (suc k) y e)) in
    λ j. first j ∷ rest j

-- the ends of the final cut are those of the outcome
pub ends_final : (run : Run) → indexed (end_in run (final_cut run)) 0 run.procs ≡ indexed (end_of run (final_cut run)) 0 run.procs
ends_final run = indexed_same (end_in run (final_cut run)) (end_of run (final_cut run)) 0 run.procs (λ p proc e.
    let here : p ≡ 0 + p = omega arith in subst (λ (q : ℕ). end_in run (final_cut run) q proc ≡ end_of run (final_cut run) q proc) here (sym (ends_by_position run p proc e)))

-- where the streams and the ends of a cut show that no proc can go, they are those of the outcome
pub is_over : (run : Run) (typed : IsTyped run) (cut : Cut) (within : IsWithin cut (final_cut run))
    (opens : (p : ℕ) (proc : Proc) → slice_get run.procs p ≡ Some proc → IsOpen proc.behavior (stands run proc (cut p)).state (stands run proc (cut p)).got (stands run proc (cut p)).done)
    (chans : List Chan) (inputs : List (List Word)) (depths : List ℕ) (n : ℕ) (streams : List Stream) (ends : List ProcEnd)
    → run.chans ≡ chans → run.inputs ≡ inputs → run.depths ≡ depths → n ≡ run.activations
    → streams ≡ indexed (stream_of run cut) 0 chans → ends ≡ indexed (end_in run cut) 0 run.procs
    → AllFit chans depths streams → AllStay chans inputs depths streams n ends
    → ◌≡◌ {A = Outcome} (record { streams = streams; procs = ends }) (outcome_of run (final_cut run))
is_over run typed cut within opens chans inputs depths n streams ends chans_are inputs_are depths_are count streams_are ends_are fit stay =
    let in_run = streams_are ∙ ap (λ (xs : List Chan). indexed (stream_of run cut) 0 xs) (sym chans_are) in
    let all_fit = subst (λ (xs : List Chan). AllFit xs run.depths (indexed (stream_of run cut) 0 run.chans)) (sym chans_are)
    (subst (λ (ds : List ℕ). AllFit chans ds (indexed (stream_of run cut) 0 run.chans)) (sym depths_are) (subst (λ (ss : List Stream). AllFit chans depths ss) in_run fit)) in
    let by_ends = subst (λ (es : List ProcEnd). AllStay chans inputs depths streams n es) ends_are stay in
    let by_count = subst (λ (m : ℕ). AllStay chans inputs depths streams m (indexed (end_in run cut) 0 run.procs)) count by_ends in
    let by_streams = subst (λ (ss : List Stream). AllStay chans inputs depths ss run.activations (indexed (end_in run cut) 0 run.procs)) in_run by_count in
    let by_depths = subst (λ (ds : List ℕ). AllStay chans inputs ds (indexed (stream_of run cut) 0 run.chans) run.activations (indexed (end_in run cut) 0 run.procs)) (sym depths_are) by_streams in
    let by_inputs = subst (λ (ws : List (List Word)). AllStay chans ws run.depths (indexed (stream_of run cut) 0 run.chans) run.activations (indexed (end_in run cut) 0 run.procs)) (sym inputs_are) by_depths in
    let all_stay = subst (λ (xs : List Chan). AllStay xs run.inputs run.depths (indexed (stream_of run cut) 0 run.chans) run.activations (indexed (end_in run cut) 0 run.procs)) (sym chans_are) by_inputs in
    let final = is_final run typed cut within opens all_fit all_stay in
    let streams_end = in_run ∙ ap (λ (x : Cut). indexed (stream_of run x) 0 run.chans) final in
    let ends_end = ends_are ∙ (ap (λ (x : Cut). indexed (end_in run x) 0 run.procs) final ∙ ends_final run) in
    λ i. record { streams = streams_end i; procs = ends_end i }
