-- In the final cut the counts show that no proc can go.
use Rattle.std.proofs.Common.{◌≡◌, ℕ, zero, suc, ◌+◌, ◌≤◌, List, [], length, get_or, refl, sym, ap, ◌∙◌, subst, arith, cond, true, false, Bool, Option, Some, None}
use Rattle.std.specs.Prelude.{slice_get, option_map, nat_lt, ◌&&◌}
use Rattle.std.proofs.lemmas.Bool.Decides.{nat_tests}
use Rattle.base.specs.Lists.Indexed.{indexed}
use Rattle.base.proofs.Lemmas.Lists.Indexed.{indexed_get}
use Rattle.xb_bits.specs.Word.{Word}
use Rattle.xb_value.specs.declared.value.Value.{Value}
use Rattle.net_core.specs.declared.net.Chan.{Chan}
use Rattle.net_core.specs.declared.net.Kind.{Kind}
use Rattle.net_core.specs.declared.net.Kind.TheVariants.{Input, Output, Inner}
use Rattle.net_core.specs.declared.event.Event.{Event}
use Rattle.net_core.specs.declared.event.Event.TheVariants.{Recv, Send, End}
use Rattle.net_core.specs.declared.outcome.ProcEnd.{ProcEnd}
use Rattle.net_core.specs.declared.outcome.Stream.{Stream}
use Rattle.net_core.specs.Behavior.{Behavior, IsOpen, chan_at}
use Rattle.net_core.specs.Nexts.{EventFits}
use Rattle.net_core.specs.Cuts.{Proc, Run, Cut, sender, receiver, words_sent, words_at, received_at, room_at, room_by, fits_after, final_cut}
use Rattle.net_core.specs.Machine.{Position, next_of, finds_word, goes_by}
use Rattle.net_core.specs.Outcomes.{stream_of, stall_for}
use Rattle.net_core.specs.WellFormed.{SiteFits}
use Rattle.net_core.proofs.Lemmas.{next_keeps_types, no_proc_can_go_at_the_end, only_sent_words_are_received, each_sent_word_had_room}
use Rattle.chan_queue.specs.Streams.Streams.{stands}
use Rattle.chan_queue.specs.Streams.Moves.{IsTyped}
use Rattle.chan_queue.proofs.Lemmas.Streams.{chan_there, inner_words, inner_room, received_by, input_words}
use Rattle.proc_task.specs.Outcome.Inner.Counts.{end_in, CountsFit, AllFit, Holds, IsHeldBy, StaysAt, AllStay, words_for}
use Rattle.proc_task.proofs.OnOutcome.Over.{stream_input, stream_inner, lt_true}
use Rattle.proc_task.proofs.OnOutcome.Streams.{inner_is, received_is}

not_less : (m n : ℕ) → nat_lt m n ≡ false → n ≤ m
not_less m n h = grind (arith, nat_tests)

right_false : (a b : Bool) → a ≡ true → a && b ≡ false → b ≡ false
right_false true b a e = e
right_false false b a e = cc

left_false : (a b : Bool) → b ≡ true → a && b ≡ false → a ≡ false
left_false true b t e = sym t ∙ e
left_false false b t e = refl

-- there is always room on an output
output_room : (run : Run) (cut : Cut) (c j : ℕ) (chan : Chan) → slice_get run.chans c ≡ Some chan → chan.kind ≡ Output → room_at run cut c j ≡ true
unfolding room_at room_by
output_room run cut c j chan e is = ap (λ o. room_by run cut c j o) e ∙ by_kind chan.kind is
  where
    by_kind : (kind : Kind) → kind ≡ Output
        → ◌≡◌ {A = Bool} (elim kind as (λ _. Bool) [ Input ↦ true | Output ↦ true | Inner ↦ nat_lt j (received_at run cut c + get_or run.depths c 0) ]) true
    by_kind Input k = refl
    by_kind Output k = refl
    by_kind Inner k = cc

module _ (run : Run) (typed : IsTyped run)
    (opens : (p : ℕ) (proc : Proc) → slice_get run.procs p ≡ Some proc
    → IsOpen proc.behavior (stands run proc (final_cut run p)).state (stands run proc (final_cut run p)).got (stands run proc (final_cut run p)).done) where
  abbrev cut : Cut
  cut = final_cut run

  abbrev streams : List Stream
  streams = indexed (stream_of run cut) 0 run.chans

  stream_there : (c : ℕ) (chan : Chan) → slice_get run.chans c ≡ Some chan → slice_get streams c ≡ Some (stream_of run cut c chan)
  stream_there c chan e = indexed_get (stream_of run cut) 0 c c run.chans (omega arith) ∙ ap (option_map (stream_of run cut c)) e

  received : (c : ℕ) → received_at run cut c ≤ length (words_at run cut c)
  received c = let most = only_sent_words_are_received run (receiver run c) c in omega (arith, most, received_is run cut c)

  room : (c : ℕ) (chan : Chan) → slice_get run.chans c ≡ Some chan → chan.kind ≡ Inner → length (words_at run cut c) ≤ received_at run cut c + get_or run.depths c 0
  room c chan e inner = go (length (words_at run cut c)) refl
    where
      go : (n : ℕ) → length (words_at run cut c) ≡ n → n ≤ received_at run cut c + get_or run.depths c 0
      go zero l = omega arith
      go (suc j) l =
          let had = each_sent_word_had_room run (sender run c) c j (omega (arith, l, ap length (inner_is run cut c chan e inner))) in
          let less = lt_true j (received_at run cut c + get_or run.depths c 0) (sym (inner_room run cut c j chan e inner) ∙ had) in
          omega (arith, less)

  counts_fit : (c : ℕ) (chan : Chan) → slice_get run.chans c ≡ Some chan → CountsFit chan.kind (get_or run.depths c 0) (stream_of run cut c chan)
  counts_fit c chan e = go chan.kind refl
    where
      go : (k : Kind) → chan.kind ≡ k → CountsFit k (get_or run.depths c 0) (stream_of run cut c chan)
      go Input k = tt
      go Output k = tt
      go Inner k = subst (λ (s : Stream). CountsFit Inner (get_or run.depths c 0) s) (sym (stream_inner run cut c chan k)) (received c, room c chan e k)

  pub fits_at_the_end : AllFit run.chans run.depths streams
  fits_at_the_end c chan stream e f =
      let both = sym (stream_there c chan e) ∙ f in
      let same : stream_of run cut c chan ≡ stream = cc in
      subst (λ (s : Stream). CountsFit chan.kind (get_or run.depths c 0) s) same (counts_fit c chan e)

  module _ (p : ℕ) (proc : Proc) (e : slice_get run.procs p ≡ Some proc) where
    abbrev b : Behavior
    b = proc.behavior

    abbrev at : Position
    at = stands run proc (cut p)

    abbrev Blocked : Event → Type 0
    Blocked event = finds_word b.sites (words_at run cut) (cut p) event && fits_after b.sites (room_at run cut) (cut p) event ≡ false

    -- where it would receive, all words of the channel were received
    dry : (i : ℕ) → (fits : EventFits b (Recv i)) → Blocked (Recv i) → length (words_at run cut (chan_at b.sites i)) ≤ received_at run cut (chan_at b.sites i)
    unfolding finds_word fits_after
    dry i fits blocked =
        let c = chan_at b.sites i in
        let here = chan_there b.sites i fits.0 fits.1 in
        let ours = (typed.fits.sites p i proc fits.0 (record { proc_is = e; place = fits.1 })).receives fits.2 in
        let count = received_by run cut p c proc e (ap (λ d. receiver run d) here ∙ ours) in
        let none = not_less _ _ (left_false _ true refl blocked) in
        omega (arith, none, count)

    receive_held : (i : ℕ) → EventFits b (Recv i) → Blocked (Recv i) → IsHeldBy run.chans run.inputs run.depths streams (record { activation = at.ends; sends = false; chan = chan_at b.sites i })
    receive_held i fits blocked =
        let c = chan_at b.sites i in
        let site : SiteFits run p b fits.0 = typed.fits.sites p i proc fits.0 (record { proc_is = e; place = fits.1 }) in
        let there : slice_get run.chans c ≡ Some site.chan = ap (λ d. slice_get run.chans d) (chan_there b.sites i fits.0 fits.1) ∙ site.chan_is in
        record {
          chan = site.chan;
          stream = stream_of run cut c site.chan;
          chan_is = there;
          stream_is = stream_there c site.chan there;
          holds = holds site.chan there (site.no_receive fits.2) (dry i fits blocked);
        }
      where
        holds : (chan : Chan) → slice_get run.chans (chan_at b.sites i) ≡ Some chan → (chan.kind ≡ Output → ⊥)
            → length (words_at run cut (chan_at b.sites i)) ≤ received_at run cut (chan_at b.sites i)
            → Holds chan.kind (length (get_or run.inputs (chan_at b.sites i) [])) (get_or run.depths (chan_at b.sites i) 0) (stream_of run cut (chan_at b.sites i) chan) false
        holds chan f never l = go chan.kind refl
          where
            go : (k : Kind) → chan.kind ≡ k → words_for k (length (get_or run.inputs (chan_at b.sites i) [])) (stream_of run cut (chan_at b.sites i) chan) ≤ (stream_of run cut (chan_at b.sites i) chan).received
            go Input k = omega (arith, l, ap (λ (s : Stream). s.received) (stream_input run cut (chan_at b.sites i) chan k), ap length (input_words run cut (chan_at b.sites i) chan f k))
            go Output k = absurd (never k)
            go Inner k = omega (arith, l, ap (λ (s : Stream). s.received) (stream_inner run cut (chan_at b.sites i) chan k), ap (λ (s : Stream). length s.words) (stream_inner run cut (chan_at b.sites i) chan k))

    -- where it would send, there is no room
    full : (i : ℕ) (w : Word) → Blocked (Send i w) → room_at run cut (chan_at b.sites i) (length (words_sent b.sites (chan_at b.sites i) (cut p))) ≡ false
    unfolding finds_word fits_after
    full i w blocked = blocked

    send_held : (i : ℕ) (w : Word) → EventFits b (Send i w) → Blocked (Send i w) → IsHeldBy run.chans run.inputs run.depths streams (record { activation = at.ends; sends = true; chan = chan_at b.sites i })
    send_held i w fits blocked =
        let c = chan_at b.sites i in
        let site : SiteFits run p b fits.0 = typed.fits.sites p i proc fits.0 (record { proc_is = e; place = fits.1 }) in
        let here = chan_there b.sites i fits.0 fits.1 in
        let there : slice_get run.chans c ≡ Some site.chan = ap (λ d. slice_get run.chans d) here ∙ site.chan_is in
        record {
          chan = site.chan;
          stream = stream_of run cut c site.chan;
          chan_is = there;
          stream_is = stream_there c site.chan there;
          holds = holds site.chan there (site.no_send fits.2) (ap (λ d. sender run d) here ∙ site.sends fits.2) (full i w blocked);
        }
      where
        holds : (chan : Chan) → slice_get run.chans (chan_at b.sites i) ≡ Some chan → (chan.kind ≡ Input → ⊥) → sender run (chan_at b.sites i) ≡ p
            → room_at run cut (chan_at b.sites i) (length (words_sent b.sites (chan_at b.sites i) (cut p))) ≡ false
            → Holds chan.kind (length (get_or run.inputs (chan_at b.sites i) [])) (get_or run.depths (chan_at b.sites i) 0) (stream_of run cut (chan_at b.sites i) chan) true
        holds chan f never ours no_room = (inner, no_more)
          where
            kind_is : (k : Kind) → chan.kind ≡ k → chan.kind ≡ Inner
            kind_is Input k = absurd (never k)
            kind_is Output k = let has = output_room run cut (chan_at b.sites i) (length (words_sent b.sites (chan_at b.sites i) (cut p))) chan f k in cc
            kind_is Inner k = k

            inner : chan.kind ≡ Inner
            inner = kind_is chan.kind refl

            no_more : (stream_of run cut (chan_at b.sites i) chan).received + get_or run.depths (chan_at b.sites i) 0 ≤ length (stream_of run cut (chan_at b.sites i) chan).words
            no_more =
                let stream = stream_inner run cut (chan_at b.sites i) chan inner in
                let words = inner_words run cut p (chan_at b.sites i) proc chan e f inner ours in
                let none = not_less _ _ (sym (inner_room run cut (chan_at b.sites i) (length (words_sent b.sites (chan_at b.sites i) (cut p))) chan f inner) ∙ no_room) in
                omega (arith, none, ap length words, ap (λ (s : Stream). s.received) stream, ap (λ (s : Stream). length s.words) stream)

    end_goes : (s : Value) → Blocked (End s) → ⊥
    unfolding finds_word fits_after
    end_goes s blocked = cc

    held : (event : Event) → EventFits b event → Blocked event → StaysAt run.chans run.inputs run.depths streams run.activations at.ends (stall_for b.sites at.ends event)
    held (Recv i) fits blocked = receive_held i fits blocked
    held (Send i w) fits blocked = send_held i w fits blocked
    held (End s) fits blocked = absurd (end_goes s blocked)

    goes_not : nat_lt at.ends run.activations && (finds_word b.sites (words_at run cut) (cut p) (next_of b at) && fits_after b.sites (room_at run cut) (cut p) (next_of b at)) ≡ false
    unfolding goes_by
    goes_not = subst (λ (o : Option Proc). goes_by run cut p o ≡ false) e (no_proc_can_go_at_the_end run p)

    stays : StaysAt run.chans run.inputs run.depths streams run.activations (end_in run cut p proc).ends (end_in run cut p proc).stall
    stays = go (nat_lt at.ends run.activations) refl
      where
        go : (active : Bool) → nat_lt at.ends run.activations ≡ active
            → StaysAt run.chans run.inputs run.depths streams run.activations at.ends (cond active (stall_for b.sites at.ends (next_of b at)) None)
        go true is = held (next_of b at) (next_keeps_types b (typed.fits.keeps_types p proc e) at.state at.got at.done (opens p proc e)) (right_false _ _ is goes_not)
        go false is = not_less at.ends run.activations is

  pub stays_at_the_end : AllStay run.chans run.inputs run.depths streams run.activations (indexed (end_in run cut) 0 run.procs)
  stays_at_the_end p end f = go (slice_get run.procs p) refl
    where
      there : (o : Option Proc) → slice_get run.procs p ≡ o → option_map (end_in run cut p) o ≡ Some end
      there o e = ap (option_map (end_in run cut p)) (sym e) ∙ (sym (indexed_get (end_in run cut) 0 p p run.procs (omega arith)) ∙ f)

      go : (o : Option Proc) → slice_get run.procs p ≡ o → StaysAt run.chans run.inputs run.depths streams run.activations end.ends end.stall
      go None e = let none = there None e in cc
      go (Some proc) e =
          let both = there (Some proc) e in
          let same : end_in run cut p proc ≡ end = cc in
          subst (λ (x : ProcEnd). StaysAt run.chans run.inputs run.depths streams run.activations x.ends x.stall) same (stays p proc e)

-- where procs have come to the final cut, the streams and the ends of what they made show it
module _ (run : Run) (typed : IsTyped run) (cut : Cut) (ended : cut ≡ final_cut run)
    (opens : (p : ℕ) (proc : Proc) → slice_get run.procs p ≡ Some proc → IsOpen proc.behavior (stands run proc (cut p)).state (stands run proc (cut p)).got (stands run proc (cut p)).done)
    (chans : List Chan) (depths : List ℕ) (streams : List Stream)
    (chans_are : run.chans ≡ chans) (depths_are : run.depths ≡ depths) (streams_are : streams ≡ indexed (stream_of run cut) 0 chans) where
  opens_at_the_end : (p : ℕ) (proc : Proc) → slice_get run.procs p ≡ Some proc
      → IsOpen proc.behavior (stands run proc (final_cut run p)).state (stands run proc (final_cut run p)).got (stands run proc (final_cut run p)).done
  opens_at_the_end =
      subst (λ (x : Cut). (p : ℕ) (proc : Proc) → slice_get run.procs p ≡ Some proc → IsOpen proc.behavior (stands run proc (x p)).state (stands run proc (x p)).got (stands run proc (x p)).done) ended opens

  shown : indexed (stream_of run (final_cut run)) 0 run.chans ≡ streams
  shown =
      ap (λ (x : Cut). indexed (stream_of run x) 0 run.chans) (sym ended)
      ∙ (ap (λ (xs : List Chan). indexed (stream_of run cut) 0 xs) chans_are ∙ sym streams_are)

  pub fits_where_ended : AllFit chans depths streams
  fits_where_ended =
      subst (λ (x : List Chan × List ℕ × List Stream). AllFit x.0 x.1 x.2) (λ i. (chans_are i, depths_are i, shown i)) (fits_at_the_end run typed opens_at_the_end)

  pub stays_where_ended : (inputs : List (List Word)) (n : ℕ) (ends : List ProcEnd) → run.inputs ≡ inputs → n ≡ run.activations → ends ≡ indexed (end_in run cut) 0 run.procs
      → AllStay chans inputs depths streams n ends
  stays_where_ended inputs n ends inputs_are count ends_are =
      let ends_shown = ap (λ (x : Cut). indexed (end_in run x) 0 run.procs) (sym ended) ∙ sym ends_are in
      subst (λ (x : List Chan × List (List Word) × List ℕ × List Stream × ℕ × List ProcEnd). AllStay x.0 x.1 x.2 x.3 x.4 x.5)
      (λ i. (chans_are i, inputs_are i, depths_are i, shown i, sym count i, ends_shown i)) (stays_at_the_end run typed opens_at_the_end)
