use Rattle.std.proofs.Common.{◌≡◌, ◌+◌, ℕ, List, length, get_or, refl, sym, ap, ◌∙◌, subst, arith}
use Rattle.std.specs.Prelude.{Option, slice_get}
use Rattle.std.proofs.lemmas.Option.{slice_get_read}
use Rattle.chan_queue.specs.declared.pass.SendPass.{SendPass}
use Rattle.chan_queue.specs.declared.pass.RecvPass.{RecvPass}
use Rattle.chan_queue.specs.declared.queue.ChanQueue.{ChanQueue}
use Rattle.net_core.specs.declared.net.Chan.{Chan}
use Rattle.proc_runner.specs.Inner.Opened.{AreOpened}
use Rattle.proc_runner.proofs.Opened.{opened_more}
use Rattle.proc_runner.proofs.lines.open.Goals as goal

pub loop-c-preserved : goal.loop-c-preserved
loop-c-preserved g c run chans_are depths_are streams_are =
    let at = c.loop-c.c in
    let lines = c.loop-c.lines in
    let there = ap (λ (xs : List Chan). slice_get xs at) chans_are ∙ slice_get_read c.args.chans.now _ at c.index-chans-c.result refl c.loop-c-test.true c.index-chans-c.is in
    let more = opened_more run at lines.queues.items lines.sends.items lines.recvs.items c.index-chans-c.result _ _ c.in_ok-line.line
    (c.loop-c.invariant run chans_are depths_are streams_are) there c.in_ok-line.ensures (streams_are at) (ap (λ (ds : List ℕ). get_or ds at 0) (sym depths_are)) in
    subst (λ (x : List (Option (ChanQueue _)) × List (Option (SendPass _)) × List (Option (RecvPass _))). AreOpened run (at + 1) x.0 x.1 x.2)
    (λ i. (sym c.in_ok-push.ensures.queues i, sym c.in_ok-push.ensures.sends i, sym c.in_ok-push.ensures.recvs i)) more

pub returns : goal.returns
returns g c run chans_are depths_are streams_are =
    let all : c.loop-c.c ≡ length c.args.chans.now = omega arith in
    subst (λ n. AreOpened run n c.loop-c.lines.queues.items c.loop-c.lines.sends.items c.loop-c.lines.recvs.items) all (c.loop-c.invariant run chans_are depths_are streams_are)
