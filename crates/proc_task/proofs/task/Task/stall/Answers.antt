use Rattle.std.proofs.Common.{sym, subst, List}
use Rattle.xb_bits.specs.Word.{Word}
use Rattle.net_core.specs.Behavior.{IsOpen}
use Rattle.proc_task.proofs.Steps.{told_event}
use Rattle.proc_task.proofs.task.Task.stall.Goals as goal

pub next-requires-clause-stands : goal.next-requires-clause-stands
next-requires-clause-stands g c =
    let t = c.args.self.now in
    let r = c.requires in
    (r.proc, r.standing.proc_is, subst (λ (got : List Word). IsOpen r.proc.behavior t.state got t.done) (sym c.as_slice.ensures.value) r.standing.stands_open)

pub next-requires-clause-keeps : goal.next-requires-clause-keeps
next-requires-clause-keeps g c = g.met.H.Runtime.begins _ _ _ _ _ _ c.new.ensures

pub stall_at-requires : goal.stall_at-requires
stall_at-requires g c =
    let r = c.requires in
    told_event _ _ c.args.self.now r c.in_ok-event.event c.as_slice.result.now c.as_slice.ensures.value (c.in_ok-event.ensures.event r.proc r.standing.proc_is)
