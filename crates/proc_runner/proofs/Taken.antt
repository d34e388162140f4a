-- A proc's ends of channels, by the rights that stood in their places.
use Rattle.std.proofs.Common.{◌≡◌, ◌≢◌, ℕ, zero, suc, ◌+◌, ◌<◌, List, [], ◌∷◌, length, refl, sym, ap, ◌∙◌, subst, arith, Option, Some}
use Rattle.std.specs.Prelude.{slice_get}
use Rattle.std.proofs.lemmas.Option.{slice_get_within}
use Rattle.chan_queue.specs.declared.pass.SendPass.{SendPass}
use Rattle.chan_queue.specs.declared.pass.RecvPass.{RecvPass}
use Rattle.chan_queue.specs.declared.queue.ChanQueue.{ChanQueue}
use Rattle.net_core.specs.declared.net.Chan.{Chan}
use Rattle.net_core.specs.declared.net.ProcHead.{ProcHead}
use Rattle.net_core.specs.declared.net.Site.{Site}
use Rattle.net_core.specs.declared.net.Kind.TheVariants.{Input, Output}
use Rattle.net_core.specs.Cuts.{Run, sender, receiver, sends_on, receives_on}
use Rattle.chan_queue.specs.Streams.Moves.{IsTyped}
use Rattle.proc_task.specs.declared.port.Outlet.{Outlet}
use Rattle.proc_task.specs.declared.port.Inlet.{Inlet}
use Rattle.proc_task.specs.Ports.{IsOutlet, IsInlet, OutRight, InRight}
use Rattle.proc_task.specs.Moving.{IsNewTask}
use Rattle.proc_task.proofs.Lemmas.Outcome.{place_passes, sends_site, receives_site}
use Rattle.proc_runner.specs.Inner.Ended.{AreOutletsOf, AreInletsOf, HasIndices, AreSiteIndices}
use Rattle.proc_runner.specs.Inner.Started.{IsHead, AreLeft}

some_there : {A : Type 0} (xs : List A) (k : ℕ) → k < length xs → (x : A) × (slice_get xs k ≡ Some x)
some_there [] k l = absurd (omega (arith, l))
some_there (x ∷ xs) zero l = (x, refl)
some_there (x ∷ xs) (suc k) l = some_there xs k (omega (arith, l))

module _ {S : Type 0} (run : Run) (typed : IsTyped run) (lines : List (Option (ChanQueue S))) (p : ℕ) (head : ProcHead) (is : IsHead run p head)
    (senders receivers : List ℕ) (sends : List (Option (SendPass S))) (recvs : List (Option (RecvPass S))) (left : AreLeft run lines p senders receivers sends recvs)
    (outlets : List (Outlet S)) (inlets : List (Inlet S)) (out : AreOutletsOf p senders sends (length senders) outlets) (inn : AreInletsOf p receivers recvs (length receivers) inlets) where
  sender_is_p : (c : ℕ) → c < length run.chans → slice_get senders c ≡ Some p → sender run c ≡ p
  sender_is_p c l e = let there = left.senders_are c l in cc

  receiver_is_p : (c : ℕ) → c < length run.chans → slice_get receivers c ≡ Some p → receiver run c ≡ p
  receiver_is_p c l e = let there = left.receivers_are c l in cc

  -- a channel on which proc p sends is no input, and one from which it receives is no output
  no_input : (c : ℕ) (chan : Chan) → slice_get run.chans c ≡ Some chan → sender run c ≡ p → chan.kind ≢ Input
  no_input c chan e ours =
      let on = sends_site c is.proc (place_passes (sends_on c) run.procs p is.proc ours is.proc_is) in
      let fits = typed.fits.sites p on.0 is.proc on.1 (record { proc_is = is.proc_is; place = on.2 }) in
      let there = ap (λ d. slice_get run.chans d) (sym on.4) ∙ fits.chan_is in
      let same : fits.chan ≡ chan = cc in
      subst (λ (x : Chan). x.kind ≢ Input) same (fits.no_send on.3)

  no_output : (c : ℕ) (chan : Chan) → slice_get run.chans c ≡ Some chan → receiver run c ≡ p → chan.kind ≢ Output
  no_output c chan e ours =
      let on = receives_site c is.proc (place_passes (receives_on c) run.procs p is.proc ours is.proc_is) in
      let fits = typed.fits.sites p on.0 is.proc on.1 (record { proc_is = is.proc_is; place = on.2 }) in
      let there = ap (λ d. slice_get run.chans d) (sym on.4) ∙ fits.chan_is in
      let same : fits.chan ≡ chan = cc in
      subst (λ (x : Chan). x.kind ≢ Output) same (fits.no_receive on.3)

  outlet_is : (k : ℕ) (outlet : Outlet S) → slice_get outlets k ≡ Some outlet → IsOutlet run lines outlet
  outlet_is k outlet e =
      let each = out.each k outlet e in
      let within : outlet.chan < length run.chans = omega (arith, out.within k outlet e, left.senders_count) in
      let chan = some_there run.chans outlet.chan within in
      let ours = sender_is_p outlet.chan within (out.owned k outlet e) in
      let has = left.send outlet.chan chan.0 chan.1 (no_input outlet.chan chan.0 chan.1 ours) (omega (arith, ours)) in
      let there = has.1 in
      let stands = each.0 in
      let same : has.0 ≡ outlet.pass = cc in
      record {
        chan = chan.0;
        chan_is = chan.1;
        right = subst (λ (x : ℕ × Option (SendPass S)). OutRight run lines outlet.chan chan.0.kind x.0 x.1) (λ i. (sym (ap length each.1) i, same i)) has.2;
      }

  inlet_is : (k : ℕ) (inlet : Inlet S) → slice_get inlets k ≡ Some inlet → IsInlet run lines inlet
  inlet_is k inlet e =
      let each = inn.each k inlet e in
      let within : inlet.chan < length run.chans = omega (arith, inn.within k inlet e, left.receivers_count) in
      let chan = some_there run.chans inlet.chan within in
      let ours = receiver_is_p inlet.chan within (inn.owned k inlet e) in
      let has = left.recv inlet.chan chan.0 chan.1 (no_output inlet.chan chan.0 chan.1 ours) (omega (arith, ours)) in
      let there = has.1 in
      let stands = each.0 in
      let same : has.0 ≡ inlet.pass = cc in
      record {
        chan = chan.0;
        chan_is = chan.1;
        right = subst (λ (x : ℕ × Option (RecvPass S)). InRight run lines inlet.chan chan.0.kind x.0 x.1) (λ i. (sym each.1 i, same i)) has.2;
      }

  -- each site of the proc has an end
  pub sites_have : HasIndices head.sites outlets inlets
  sites_have = record {
    sends = λ i site e s.
        let place = ap (λ (ss : List Site). slice_get ss i) (sym is.sites) ∙ e in
        let fits = typed.fits.sites p i is.proc site (record { proc_is = is.proc_is; place = place }) in
        let within = slice_get_within run.chans site.chan fits.chan fits.chan_is in
        out.all site.chan (omega (arith, within, left.senders_count)) (left.senders_are site.chan within ∙ ap Some (fits.sends s));
    receives = λ i site e s.
        let place = ap (λ (ss : List Site). slice_get ss i) (sym is.sites) ∙ e in
        let fits = typed.fits.sites p i is.proc site (record { proc_is = is.proc_is; place = place }) in
        let within = slice_get_within run.chans site.chan fits.chan fits.chan_is in
        inn.all site.chan (omega (arith, within, left.receivers_count)) (left.receivers_are site.chan within ∙ ap Some (fits.receives s));
  }

  pub is_new : (indices : List ℕ) → AreSiteIndices head.sites indices outlets inlets → IsNewTask run lines p head.sites head.init indices outlets inlets
  is_new indices at = record {
    typed = typed;
    proc = is.proc;
    proc_is = is.proc_is;
    opening = is.opening;
    of_type = is.of_type;
    sites_are = is.sites;
    ports = record { senders = at.senders; receivers = at.receivers; outlet = outlet_is; inlet = inlet_is; one_outlet = out.one; one_inlet = inn.one };
    no_words = λ k outlet e. (out.each k outlet e).1;
    none_received = λ k inlet e. (inn.each k inlet e).1;
  }

  -- what is left for the procs behind it
  pub left_behind : (new_sends : List (Option (SendPass S))) (new_recvs : List (Option (RecvPass S))) → length new_sends ≡ length sends → length new_recvs ≡ length recvs
      → ((c : ℕ) → slice_get senders c ≢ Some p → slice_get new_sends c ≡ slice_get sends c) → ((c : ℕ) → slice_get receivers c ≢ Some p → slice_get new_recvs c ≡ slice_get recvs c)
      → AreLeft run lines (p + 1) senders receivers new_sends new_recvs
  left_behind new_sends new_recvs sends_same recvs_same sends_rest recvs_rest = record {
    few = left.few;
    senders_count = left.senders_count;
    receivers_count = left.receivers_count;
    sends_count = sends_same ∙ left.sends_count;
    recvs_count = recvs_same ∙ left.recvs_count;
    senders_are = left.senders_are;
    receivers_are = left.receivers_are;
    send = λ c chan e kind l.
        let has = left.send c chan e kind (omega (arith, l)) in
        let within = slice_get_within run.chans c chan e in
        (has.0, sends_rest c (λ h. let ours = sender_is_p c within h in omega (arith, ours, l)) ∙ has.1, has.2);
    recv = λ c chan e kind l.
        let has = left.recv c chan e kind (omega (arith, l)) in
        let within = slice_get_within run.chans c chan e in
        (has.0, recvs_rest c (λ h. let ours = receiver_is_p c within h in omega (arith, ours, l)) ∙ has.1, has.2);
  }
