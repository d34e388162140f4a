use Rattle.std.proofs.Common.{◌<◌, ◌++◌, ◌∷◌, [], ℕ, List, length, ap, ◌∙◌, arith}
use Rattle.net_core.specs.declared.net.ProcHead.{ProcHead}
use Rattle.net_core.specs.Cuts.{index_of}
use Rattle.proc_task.specs.Outcome.Places.{head_sends}
use Rattle.proc_runner.proofs.Runs.{place_more}
use Rattle.proc_runner.proofs.start.senders.Goals as goal

pub loop-c-preserved : goal.loop-c-preserved
loop-c-preserved c =
    let at = c.loop-c.c in
    let within : at < length c.args.net.now.chans = omega (arith, c.loop-c-test.true, c.len-c-end.ensures) in
    let place = c.sender.ensures ∙ ap (λ (heads : List ProcHead). index_of (head_sends at) heads) c.as_slice.ensures in
    c.in_ok-push.ensures.items
    ∙ (ap (λ (n : ℕ). c.loop-c.procs.items ++ n ∷ []) place ∙ place_more (λ d. index_of (head_sends d) c.args.net.now.procs) c.args.net.now.chans c.loop-c.procs.items at within c.loop-c.invariant)
