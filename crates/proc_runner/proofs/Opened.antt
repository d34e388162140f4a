-- One channel more is opened.
use Rattle.std.proofs.Common.{◌≡◌, ◌≢◌, ℕ, ◌+◌, ◌<◌, ◌≤◌, List, [], ◌∷◌, ◌++◌, length, get_or, refl, sym, ap, ◌∙◌, subst, arith, Option, Some, None, inl, inr}
use Rattle.std.specs.Prelude.{slice_get, ◌⊎◌}
use Rattle.std.proofs.lemmas.Bool.{cases_lt}
use Rattle.std.proofs.lemmas.List.{length-append}
use Rattle.chan_queue.specs.Stream.{Stream}
use Rattle.chan_queue.specs.Passes.{sender_of, receiver_of}
use Rattle.chan_queue.specs.declared.view.View.{View}
use Rattle.chan_queue.specs.declared.pass.SendPass.{SendPass}
use Rattle.chan_queue.specs.declared.pass.RecvPass.{RecvPass}
use Rattle.chan_queue.specs.declared.queue.ChanQueue.{ChanQueue}
use Rattle.net_core.specs.declared.net.Chan.{Chan}
use Rattle.net_core.specs.declared.net.Kind.{Kind}
use Rattle.net_core.specs.declared.net.Kind.TheVariants.{Input, Output, Inner}
use Rattle.net_core.specs.Cuts.{Run}
use Rattle.chan_queue.specs.Streams.Streams.{stream_in}
use Rattle.proc_task.specs.Ports.{OutRight, InRight}
use Rattle.proc_runner.specs.declared.lines.Line.{Line}
use Rattle.proc_runner.specs.Inner.Opened.{IsLine, HasSend, HasRecv, AreOpened}
use Rattle.proc_runner.proofs.Ends.{in_prefix, last_there}

module _ {S : Type 0} (run : Run) where
  out_grows : (queues more : List (Option (ChanQueue S))) (c : ℕ) (kind : Kind) (pass : Option (SendPass S)) → OutRight run queues c kind 0 pass → OutRight run (queues ++ more) c kind 0 pass
  out_grows queues more c kind None r = r
  out_grows queues more c kind (Some pass) r = (r.0, (r.1.0, in_prefix queues more c (Some r.1.0) r.1.1, r.1.2, r.1.3))

  in_grows : (queues more : List (Option (ChanQueue S))) (c : ℕ) (kind : Kind) (pass : Option (RecvPass S)) → InRight run queues c kind 0 pass → InRight run (queues ++ more) c kind 0 pass
  in_grows queues more c kind None r = r
  in_grows queues more c kind (Some pass) r = (r.0, (r.1.0, in_prefix queues more c (Some r.1.0) r.1.1, r.1.2, r.1.3))

  new_send : (queues : List (Option (ChanQueue S))) (c depth : ℕ) (kind : Kind) (stream : Stream) (line : Line S) → length queues ≡ c → IsLine kind stream depth line → stream ≡ stream_in run c → depth ≡ get_or run.depths c 0
      → kind ≢ Input → OutRight run (queues ++ line.queue ∷ []) c kind 0 line.send
  new_send queues c depth Input stream line count is same d not_in = absurd (not_in refl)
  new_send queues c depth Output stream line count is same d not_in = subst (λ (o : Option (SendPass S)). OutRight run (queues ++ line.queue ∷ []) c Output 0 o) (sym is.0) refl
  new_send queues c depth Inner stream line count is same d not_in =
      let knows = is.sends ∙ (ap (λ (s : Stream). sender_of s depth 0 0) same ∙ ap (λ n. sender_of (stream_in run c) n 0 0) d) in
      let told = ap (λ (v : View). v.told_received) knows in
      let right : OutRight run (queues ++ line.queue ∷ []) c Inner 0 (Some is.send) = (refl, (is.queue, last_there queues line.queue c count ∙ ap Some is.queue_is, is.sender, knows ∙ ap (λ n. sender_of (stream_in run c) (get_or run.depths c 0) 0 n) (sym told))) in
      subst (λ (o : Option (SendPass S)). OutRight run (queues ++ line.queue ∷ []) c Inner 0 o) (sym is.send_is) right

  new_recv : (queues : List (Option (ChanQueue S))) (c depth : ℕ) (kind : Kind) (stream : Stream) (line : Line S) → length queues ≡ c → IsLine kind stream depth line → stream ≡ stream_in run c → depth ≡ get_or run.depths c 0
      → kind ≢ Output → InRight run (queues ++ line.queue ∷ []) c kind 0 line.recv
  new_recv queues c depth Output stream line count is same d not_out = absurd (not_out refl)
  new_recv queues c depth Input stream line count is same d not_out = subst (λ (o : Option (RecvPass S)). InRight run (queues ++ line.queue ∷ []) c Input 0 o) (sym is.1) refl
  new_recv queues c depth Inner stream line count is same d not_out =
      let knows = is.receives ∙ (ap (λ (s : Stream). receiver_of s depth 0 0) same ∙ ap (λ n. receiver_of (stream_in run c) n 0 0) d) in
      let told = ap (λ (v : View). v.told_sent) knows in
      let right : InRight run (queues ++ line.queue ∷ []) c Inner 0 (Some is.recv) = (refl, (is.queue, last_there queues line.queue c count ∙ ap Some is.queue_is, is.receiver, knows ∙ ap (λ n. receiver_of (stream_in run c) (get_or run.depths c 0) 0 n) (sym told))) in
      subst (λ (o : Option (RecvPass S)). InRight run (queues ++ line.queue ∷ []) c Inner 0 o) (sym is.recv_is) right

  pub opened_more : (c : ℕ) (queues : List (Option (ChanQueue S))) (sends : List (Option (SendPass S))) (recvs : List (Option (RecvPass S))) (chan : Chan) (stream : Stream) (depth : ℕ) (line : Line S)
      → AreOpened run c queues sends recvs → slice_get run.chans c ≡ Some chan → IsLine chan.kind stream depth line → stream ≡ stream_in run c → depth ≡ get_or run.depths c 0
      → AreOpened run (c + 1) (queues ++ line.queue ∷ []) (sends ++ line.send ∷ []) (recvs ++ line.recv ∷ [])
  opened_more c queues sends recvs chan stream depth line are chan_is is same d = record {
    queues_are = omega (arith, length-append queues (line.queue ∷ []), are.queues_are);
    sends_are = omega (arith, length-append sends (line.send ∷ []), are.sends_are);
    recvs_are = omega (arith, length-append recvs (line.recv ∷ []), are.recvs_are);
    send = λ k other l e not_in. send_at k other l e not_in (cases_lt k c);
    recv = λ k other l e not_out. recv_at k other l e not_out (cases_lt k c);
  }
    where
      send_at : (k : ℕ) (other : Chan) → k < c + 1 → slice_get run.chans k ≡ Some other → other.kind ≢ Input → (k < c) ⊎ (c ≤ k) → HasSend run (queues ++ line.queue ∷ []) (sends ++ line.send ∷ []) k other
      send_at k other l e not_in (inl m) =
          let has = are.send k other m e not_in in
          (has.0, in_prefix sends (line.send ∷ []) k has.0 has.1, out_grows queues (line.queue ∷ []) k other.kind has.0 has.2)
      send_at k other l e not_in (inr m) =
          let here : c ≡ k = omega (arith, l, m) in
          let g = ap (λ j. slice_get run.chans j) here ∙ e in
          let chan_same : chan ≡ other = cc in
          let kind = ap (λ (x : Chan). x.kind) chan_same in
          subst (λ (j : ℕ). HasSend run (queues ++ line.queue ∷ []) (sends ++ line.send ∷ []) j other) here (
            line.send,
            last_there sends line.send c are.sends_are,
            subst (λ (x : Kind). OutRight run (queues ++ line.queue ∷ []) c x 0 line.send) kind
                (new_send queues c depth chan.kind stream line are.queues_are is same d (λ x. not_in (sym kind ∙ x))),
          )

      recv_at : (k : ℕ) (other : Chan) → k < c + 1 → slice_get run.chans k ≡ Some other → other.kind ≢ Output → (k < c) ⊎ (c ≤ k) → HasRecv run (queues ++ line.queue ∷ []) (recvs ++ line.recv ∷ []) k other
      recv_at k other l e not_out (inl m) =
          let has = are.recv k other m e not_out in
          (has.0, in_prefix recvs (line.recv ∷ []) k has.0 has.1, in_grows queues (line.queue ∷ []) k other.kind has.0 has.2)
      recv_at k other l e not_out (inr m) =
          let here : c ≡ k = omega (arith, l, m) in
          let g = ap (λ j. slice_get run.chans j) here ∙ e in
          let chan_same : chan ≡ other = cc in
          let kind = ap (λ (x : Chan). x.kind) chan_same in
          subst (λ (j : ℕ). HasRecv run (queues ++ line.queue ∷ []) (recvs ++ line.recv ∷ []) j other) here (
            line.recv,
            last_there recvs line.recv c are.recvs_are,
            subst (λ (x : Kind). InRight run (queues ++ line.queue ∷ []) c x 0 line.recv) kind
                (new_recv queues c depth chan.kind stream line are.queues_are is same d (λ x. not_out (sym kind ∙ x))),
          )

  pub opened_none : AreOpened {S = S} run 0 [] [] []
  opened_none = record {
    queues_are = refl;
    sends_are = refl;
    recvs_are = refl;
    send = λ k other l e not_in. absurd (omega (arith, l));
    recv = λ k other l e not_out. absurd (omega (arith, l));
  }
