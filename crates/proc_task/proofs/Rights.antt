-- The rights of ports, by the queues of their channels.
use Rattle.std.proofs.Common.{◌≡◌, ℕ, suc, ◌+◌, ◌≤◌, zero, List, [], ◌∷◌, length, Option, Some, None, get_or, sym, ap, ◌∙◌, subst, arith}
use Rattle.std.specs.Prelude.{slice_get}
use Rattle.xb_bits.specs.Word.{Word}
use Rattle.chan_queue.specs.Channel.{MaySend, MayReceive, sending, receiving, both, IsTold}
use Rattle.chan_queue.specs.Passes.{IsSender, IsReceiver, sender_knows, receiver_knows, sender_of, receiver_of}
use Rattle.chan_queue.specs.declared.view.View.{View}
use Rattle.chan_queue.specs.declared.pass.SendPass.{SendPass}
use Rattle.chan_queue.specs.declared.pass.RecvPass.{RecvPass}
use Rattle.chan_queue.specs.declared.queue.ChanQueue.{ChanQueue}
use Rattle.net_core.specs.declared.net.Kind.{Kind}
use Rattle.net_core.specs.Cuts.{Run, words_at, final_cut}
use Rattle.chan_queue.specs.Streams.Streams.{stream_in}
use Rattle.std.specs.Prelude.{MatchOption, MatchBool, MatchResult, Result, Ok, Err, is_ok, Bool, true, false}
use Rattle.proc_task.specs.declared.port.Outlet.{Outlet}
use Rattle.proc_task.specs.declared.port.Inlet.{Inlet}
use Rattle.proc_task.specs.Ports.{OutRight, InRight, IsOutlet, IsInlet, SentOne, ReceivedOne, NextBy, PutBy, TakeBy, DryBy, IsNextOn, MayPut, MayTake, IsDry, HaveMet, AreEnds}

module _ {S : Type 0} (run : Run) (lines : List (Option (ChanQueue S))) (c : ℕ) (kind : Kind) (count : ℕ) where
  same_queue : (a b : ChanQueue S) → slice_get lines c ≡ Some (Some a) → slice_get lines c ≡ Some (Some b) → a ≡ b
  same_queue a b e f = cc

  -- the right of a port that has a pass
  pub out_right : (o : Option (SendPass S)) (pass : SendPass S) → o ≡ Some pass → OutRight run lines c kind count o → OutRight run lines c kind count (Some pass)
  out_right o pass e r = subst (λ x. OutRight run lines c kind count x) e r

  pub in_right : (o : Option (RecvPass S)) (pass : RecvPass S) → o ≡ Some pass → InRight run lines c kind count o → InRight run lines c kind count (Some pass)
  in_right o pass e r = subst (λ x. InRight run lines c kind count x) e r

  pub is_sender : (pass : SendPass S) (queue : ChanQueue S) → OutRight run lines c kind count (Some pass) → slice_get lines c ≡ Some (Some queue) → IsSender queue pass
  is_sender pass queue r e = subst (λ q. IsSender q pass) (same_queue r.1.0 queue r.1.1 e) r.1.2

  pub is_receiver : (pass : RecvPass S) (queue : ChanQueue S) → InRight run lines c kind count (Some pass) → slice_get lines c ≡ Some (Some queue) → IsReceiver queue pass
  is_receiver pass queue r e = subst (λ q. IsReceiver q pass) (same_queue r.1.0 queue r.1.1 e) r.1.2

  pub may_send : (pass : SendPass S) (word : Word) → OutRight run lines c kind count (Some pass) → PutBy run c count word (Some pass) → MaySend (sender_knows pass) word
  may_send pass word r may = subst (λ (v : View). MaySend v word) (sym r.1.3) may

  pub may_receive : (pass : RecvPass S) → InRight run lines c kind count (Some pass) → TakeBy run c count (Some pass) → MayReceive (receiver_knows pass)
  may_receive pass r may = subst (λ (v : View). MayReceive v) (sym r.1.3) may

  -- behind a send, and behind a try
  pub after_send : (old new : SendPass S) (queue : ChanQueue S) → OutRight run lines c kind count (Some old) → slice_get lines c ≡ Some (Some queue) → IsSender queue new
      → sender_knows new ≡ record (sender_knows old) { sent = suc (sender_knows old).sent } → OutRight run lines c kind (suc count) (Some new)
  after_send old new queue r e is knows =
      let told : (sender_knows new).told_received ≡ (sender_knows old).told_received = ap (λ (v : View). v.told_received) knows in
      let all = knows ∙ (ap (λ (v : View). record v { sent = suc v.sent }) r.1.3 ∙ ap (λ k. sender_of (stream_in run c) (get_or run.depths c 0) (suc count) k) (sym told)) in
      (r.0, (queue, e, is, all))

  pub after_try : (old new : SendPass S) (queue : ChanQueue S) → OutRight run lines c kind count (Some old) → slice_get lines c ≡ Some (Some queue) → IsSender queue new
      → sender_knows new ≡ sender_knows old → OutRight run lines c kind count (Some new)
  after_try old new queue r e is knows =
      let told : (sender_knows new).told_received ≡ (sender_knows old).told_received = ap (λ (v : View). v.told_received) knows in
      (r.0, (queue, e, is, knows ∙ (r.1.3 ∙ ap (λ k. sender_of (stream_in run c) (get_or run.depths c 0) count k) (sym told))))

  pub after_receive : (old new : RecvPass S) (queue : ChanQueue S) → InRight run lines c kind count (Some old) → slice_get lines c ≡ Some (Some queue) → IsReceiver queue new
      → receiver_knows new ≡ record (receiver_knows old) { received = suc (receiver_knows old).received } → InRight run lines c kind (suc count) (Some new)
  after_receive old new queue r e is knows =
      let told : (receiver_knows new).told_sent ≡ (receiver_knows old).told_sent = ap (λ (v : View). v.told_sent) knows in
      let all = knows ∙ (ap (λ (v : View). record v { received = suc v.received }) r.1.3 ∙ ap (λ k. receiver_of (stream_in run c) (get_or run.depths c 0) (suc count) k) (sym told)) in
      (r.0, (queue, e, is, all))

  pub after_none : (old new : RecvPass S) (queue : ChanQueue S) → InRight run lines c kind count (Some old) → slice_get lines c ≡ Some (Some queue) → IsReceiver queue new
      → receiver_knows new ≡ receiver_knows old → InRight run lines c kind count (Some new)
  after_none old new queue r e is knows =
      let told : (receiver_knows new).told_sent ≡ (receiver_knows old).told_sent = ap (λ (v : View). v.told_sent) knows in
      (r.0, (queue, e, is, knows ∙ (r.1.3 ∙ ap (λ k. receiver_of (stream_in run c) (get_or run.depths c 0) count k) (sym told))))

-- what an answer says, in other words
by_result : {X Y : Type 0} (P Q : Type 0) (A : X → Type 0) (B : Y → Type 0) → ((x : X) → A x → P) → ((y : Y) → B y → Q)
    → (r : Result X Y) (b : Bool) → b ≡ is_ok r → MatchResult r A B → MatchBool b P Q
by_result P Q A B f g (Ok x) true e m = f x m
by_result P Q A B f g (Ok x) false e m = cc
by_result P Q A B f g (Err y) true e m = cc
by_result P Q A B f g (Err y) false e m = g y m

by_option : {X : Type 0} (P A : Type 0) (Q B : X → Type 0) → (A → P) → ((x : X) → B x → Q x) → (o : Option X) → MatchOption o A B → MatchOption o P Q
by_option P A Q B f g None m = f m
by_option P A Q B f g (Some x) m = g x m

none_beyond : (words : List Word) (k : ℕ) → None ≡ slice_get words k → length words ≤ k
none_beyond [] k e = omega arith
none_beyond (w ∷ words) zero e = cc
none_beyond (w ∷ words) (suc k) e = omega (arith, none_beyond words k e)

module _ {S : Type 0} (run : Run) (lines : List (Option (ChanQueue S))) where
  -- the end of a channel depends on the channel, the count and the right alone
  pub outlet_of : (a b : Outlet S) → b.chan ≡ a.chan → length b.words.items ≡ length a.words.items → b.pass ≡ a.pass → IsOutlet run lines a → IsOutlet run lines b
  outlet_of a b e f h is =
      let right = subst (λ (x : ℕ × ℕ × Option (SendPass S)). OutRight run lines x.0 is.chan.kind x.1 x.2) (λ i. (sym e i, sym f i, sym h i)) is.right in
      record { chan = is.chan; chan_is = ap (λ c. slice_get run.chans c) e ∙ is.chan_is; right = right }

  pub outlet_sent : (a b : Outlet S) → b.chan ≡ a.chan → length b.words.items ≡ suc (length a.words.items) → b.pass ≡ a.pass → SentOne run lines a → IsOutlet run lines b
  outlet_sent a b e f h is =
      let right = subst (λ (x : ℕ × ℕ × Option (SendPass S)). OutRight run lines x.0 is.chan.kind x.1 x.2) (λ i. (sym e i, sym f i, sym h i)) is.right in
      record { chan = is.chan; chan_is = ap (λ c. slice_get run.chans c) e ∙ is.chan_is; right = right }

  pub inlet_received : (a b : Inlet S) → b.chan ≡ a.chan → b.received ≡ suc a.received → b.pass ≡ a.pass → ReceivedOne run lines a → IsInlet run lines b
  inlet_received a b e f h is =
      let right = subst (λ (x : ℕ × ℕ × Option (RecvPass S)). InRight run lines x.0 is.chan.kind x.1 x.2) (λ i. (sym e i, sym f i, sym h i)) is.right in
      record { chan = is.chan; chan_is = ap (λ c. slice_get run.chans c) e ∙ is.chan_is; right = right }

  -- the queue of a port that has a right
  pub out_line : (o : Outlet S) (pass : SendPass S) → o.pass ≡ Some pass → IsOutlet run lines o → (queue : ChanQueue S) × (slice_get lines o.chan ≡ Some (Some queue))
  out_line o pass e is =
      let r = out_right run lines o.chan is.chan.kind (length o.words.items) o.pass pass e is.right in
      (r.1.0, r.1.1)

  pub in_line : (o : Inlet S) (pass : RecvPass S) → o.pass ≡ Some pass → IsInlet run lines o → (queue : ChanQueue S) × (slice_get lines o.chan ≡ Some (Some queue))
  in_line o pass e is =
      let r = in_right run lines o.chan is.chan.kind o.received o.pass pass e is.right in
      (r.1.0, r.1.1)

  -- on an output every word lands
  pub none_sent : (o : Outlet S) (word : Word) → o.pass ≡ None → IsOutlet run lines o → IsNextOn run o word × SentOne run lines o
  none_sent o word e is = (
    subst (λ p. NextBy run o.chan (length o.words.items) word p) (sym e) tt,
    record {
      chan = is.chan;
      chan_is = is.chan_is;
      right = subst (λ p. OutRight run lines o.chan is.chan.kind (suc (length o.words.items)) p) (sym e)
          (subst (λ p. OutRight run lines o.chan is.chan.kind (length o.words.items) p) e is.right);
    },
  )

  pub some_sent : {X : Type 0} (o : Outlet S) (old new : SendPass S) (queue : ChanQueue S) (word : Word) → o.pass ≡ Some old → IsOutlet run lines o → MayPut run o word
      → slice_get lines o.chan ≡ Some (Some queue) → IsSender queue new
      → (r : Result X Word) (b : Bool) → b ≡ is_ok r
      → MatchResult r (λ _. (slice_get (sender_knows old).words (sender_knows old).sent ≡ Some word) × (sender_knows new ≡ record (sender_knows old) { sent = suc (sender_knows old).sent }))
      (λ back. (back ≡ word) × (sender_knows new ≡ sender_knows old) × ((sender_knows old).told_received + (sender_knows old).depth ≤ (sender_knows old).sent))
      → MatchBool b (IsNextOn run o word × SentOne run lines (record { chan = o.chan; words = o.words; pass = Some new }))
      (IsOutlet run lines (record { chan = o.chan; words = o.words; pass = Some new }) × ((sender_knows new).told_received + (sender_knows new).depth ≤ length o.words.items))
  some_sent o old new queue word e is may line sender r b is_b answer =
      let right = out_right run lines o.chan is.chan.kind (length o.words.items) o.pass old e is.right in
      by_result _ _ _ _
      (λ _ m. (
        subst (λ p. NextBy run o.chan (length o.words.items) word p) (sym e) (ap (λ (v : View). slice_get v.words v.sent) (sym right.1.3) ∙ m.0),
        record { chan = is.chan; chan_is = is.chan_is; right = after_send run lines o.chan is.chan.kind (length o.words.items) old new queue right line sender m.1 },
      ))
      (λ _ m. (
        record { chan = is.chan; chan_is = is.chan_is; right = after_try run lines o.chan is.chan.kind (length o.words.items) old new queue right line sender m.1 },
        omega (arith, m.2, ap (λ (v : View). v.told_received) m.1, ap (λ (v : View). v.depth) m.1, ap (λ (v : View). v.sent) right.1.3),
      ))
      r b is_b answer

  -- from an input each word is received
  pub none_received : (o : Inlet S) → o.pass ≡ None → IsInlet run lines o → MayTake run o → (answer : Option Word) → answer ≡ slice_get (get_or run.inputs o.chan []) o.received
      → MatchOption answer (IsInlet run lines o × IsDry run o) (λ word. ReceivedOne run lines o × (slice_get (words_at run (final_cut run) o.chan) o.received ≡ Some word))
  none_received o e is may None f = (is, subst (λ p. DryBy run o.chan o.received p) (sym e) (none_beyond _ _ f))
  none_received o e is may (Some word) f =
      let all = subst (λ p. TakeBy run o.chan o.received p) e may.1 in (
        record {
          chan = is.chan;
          chan_is = is.chan_is;
          right = subst (λ p. InRight run lines o.chan is.chan.kind (suc o.received) p) (sym e)
              (subst (λ p. InRight run lines o.chan is.chan.kind o.received p) e is.right);
        },
        ap (λ ws. slice_get ws o.received) all ∙ sym f,
      )

  pub some_received : (o : Inlet S) (old new : RecvPass S) (queue : ChanQueue S) → o.pass ≡ Some old → IsInlet run lines o
      → slice_get lines o.chan ≡ Some (Some queue) → IsReceiver queue new → (answer : Option Word)
      → MatchOption answer ((receiver_knows new ≡ receiver_knows old) × ((receiver_knows old).told_sent ≤ (receiver_knows old).received))
      (λ word. (slice_get (receiver_knows old).words (receiver_knows old).received ≡ Some word) × (receiver_knows new ≡ record (receiver_knows old) { received = suc (receiver_knows old).received }))
      → MatchOption answer (IsInlet run lines (record { chan = o.chan; received = o.received; pass = Some new }) × ((receiver_knows new).told_sent ≤ o.received))
      (λ word. ReceivedOne run lines (record { chan = o.chan; received = o.received; pass = Some new }) × (slice_get (words_at run (final_cut run) o.chan) o.received ≡ Some word))
  some_received o old new queue e is line receiver answer m =
      let right = in_right run lines o.chan is.chan.kind o.received o.pass old e is.right in
      by_option _ _ _ _
      (λ n. (
        record { chan = is.chan; chan_is = is.chan_is; right = after_none run lines o.chan is.chan.kind o.received old new queue right line receiver n.0 },
        omega (arith, n.1, ap (λ (v : View). v.told_sent) n.0, ap (λ (v : View). v.received) right.1.3),
      ))
      (λ word n. (
        record { chan = is.chan; chan_is = is.chan_is; right = after_receive run lines o.chan is.chan.kind o.received old new queue right line receiver n.1 },
        ap (λ (v : View). slice_get v.words v.received) (sym right.1.3) ∙ n.0,
      ))
      answer m

  -- behind a meeting
  pub met_outlet : (o : Outlet S) (pass new : SendPass S) (queue : ChanQueue S) (w : View) → o.pass ≡ Some pass → IsOutlet run lines o → slice_get lines o.chan ≡ Some (Some queue) → IsSender queue new
      → sender_knows new ≡ sending (both (sender_knows pass) w) → IsOutlet run lines (record { chan = o.chan; words = o.words; pass = Some new })
  met_outlet o pass new queue w e is line sender knows =
      let right = out_right run lines o.chan is.chan.kind (length o.words.items) o.pass pass e is.right in
      let told : (sender_knows new).told_received ≡ w.received = ap (λ (v : View). v.told_received) knows in
      let all = knows ∙ (ap (λ (v : View). sending (both v w)) right.1.3 ∙ ap (λ k. sender_of (stream_in run o.chan) (get_or run.depths o.chan 0) (length o.words.items) k) (sym told)) in
      record { chan = is.chan; chan_is = is.chan_is; right = (right.0, (queue, line, sender, all)) }

  pub met_inlet : (o : Outlet S) (i : Inlet S) (pass : SendPass S) (other new : RecvPass S) (queue : ChanQueue S) → o.pass ≡ Some pass → i.pass ≡ Some other → o.chan ≡ i.chan
      → IsOutlet run lines o → IsInlet run lines i → slice_get lines o.chan ≡ Some (Some queue) → IsReceiver queue new
      → receiver_knows new ≡ receiving (both (sender_knows pass) (receiver_knows other)) → IsInlet run lines (record { chan = i.chan; received = i.received; pass = Some new })
  met_inlet o i pass other new queue e f chan is it line receiver knows =
      let right = out_right run lines o.chan is.chan.kind (length o.words.items) o.pass pass e is.right in
      let mine = in_right run lines i.chan it.chan.kind i.received i.pass other f it.right in
      let told : (receiver_knows new).told_sent ≡ (sender_knows pass).sent = ap (λ (v : View). v.told_sent) knows in
      let sent : (sender_knows pass).sent ≡ length o.words.items = ap (λ (v : View). v.sent) right.1.3 in
      let all = knows ∙ (ap (λ (v : View). receiving (both v (receiver_knows other))) right.1.3
      ∙ (ap (λ (v : View). receiver_of (stream_in run o.chan) (get_or run.depths o.chan 0) v.received (length o.words.items)) mine.1.3
      ∙ (ap (λ c. receiver_of (stream_in run c) (get_or run.depths c 0) i.received (length o.words.items)) chan
      ∙ ap (λ k. receiver_of (stream_in run i.chan) (get_or run.depths i.chan 0) i.received k) (sym (told ∙ sent))))) in
      record { chan = it.chan; chan_is = it.chan_is; right = (mine.0, (queue, ap (λ c. slice_get lines c) (sym chan) ∙ line, receiver, all)) }

  pub have_met : (o : Outlet S) (i : Inlet S) (pass new : SendPass S) (other more : RecvPass S) → o.pass ≡ Some pass → i.pass ≡ Some other → o.chan ≡ i.chan
      → IsOutlet run lines o → IsInlet run lines i
      → sender_knows new ≡ sending (both (sender_knows pass) (receiver_knows other)) → receiver_knows more ≡ receiving (both (sender_knows pass) (receiver_knows other))
      → IsTold (both (sender_knows pass) (receiver_knows other))
      → HaveMet run (record { chan = o.chan; words = o.words; pass = Some new }) (record { chan = i.chan; received = i.received; pass = Some more })
  have_met o i pass new other more e f chan is it knows knew told =
      let right = out_right run lines o.chan is.chan.kind (length o.words.items) o.pass pass e is.right in
      let mine = in_right run lines i.chan it.chan.kind i.received i.pass other f it.right in
      let sent : (sender_knows pass).sent ≡ length o.words.items = ap (λ (v : View). v.sent) right.1.3 in
      let depth : (sender_knows pass).depth ≡ get_or run.depths o.chan 0 = ap (λ (v : View). v.depth) right.1.3 in
      let received : (receiver_knows other).received ≡ i.received = ap (λ (v : View). v.received) mine.1.3 in
      record {
        told_sender = ap Some (ap (λ (v : View). v.told_received) knows ∙ received);
        told_receiver = ap Some (ap (λ (v : View). v.told_sent) knew ∙ sent);
        received = omega (arith, told.received, sent, received);
        room = omega (arith, told.room, sent, received, depth);
      }

  -- the queue and the passes of two ends
  pub end_line : (o : Outlet S) (i : Inlet S) → AreEnds o i → IsOutlet run lines o → (queue : ChanQueue S) × (slice_get lines o.chan ≡ Some (Some queue))
  end_line o i ends is = out_line o ends.sends.0 ends.sends.1 is
