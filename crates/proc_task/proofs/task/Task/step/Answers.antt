use Rattle.std.proofs.Common.{sym, subst, List}
use Rattle.xb_bits.specs.Word.{Word}
use Rattle.net_core.specs.Behavior.{IsOpen}
use Rattle.proc_task.proofs.Steps.{keeps_further}
use Rattle.proc_task.proofs.task.Task.step.Goals as goal

pub next-requires-clause-stands : goal.next-requires-clause-stands
next-requires-clause-stands g c =
    let t = c.args.self.now in
    let r = c.requires.task in
    (r.proc, r.standing.proc_is, subst (λ (got : List Word). IsOpen r.proc.behavior t.state got t.done) (sym c.as_slice.ensures.value) r.standing.stands_open)

pub next-requires-clause-keeps : goal.next-requires-clause-keeps
next-requires-clause-keeps g c =
    let t = c.args.self.now in
    subst (λ (got : List Word). g.H.Runtime.keeps t.runtime t.number c.args.kept.now t.state got t.done) (sym c.as_slice.ensures.value) c.requires.keeps

pub returns-in_err-event-clause-keeps : goal.returns-in_err-event-clause-keeps
returns-in_err-event-clause-keeps g c =
    let t = c.args.self.now in
    subst (λ (got : List Word). g.H.Runtime.keeps t.runtime t.number c.next.new.kept t.state got t.done) c.as_slice.ensures.value c.next.ensures.keeps

pub returns-in-Recv-clause-keeps : goal.returns-in-Recv-clause-keeps
returns-in-Recv-clause-keeps g c =
    let t = c.args.self.now in
    keeps_further g.H.Runtime.keeps g.met.H.Runtime.stays c.next.new.kept t _ c.try_receive.ensures.same c.try_receive.ensures.further
    (subst (λ (got : List Word). g.H.Runtime.keeps t.runtime t.number c.next.new.kept t.state got t.done) c.as_slice.ensures.value c.next.ensures.keeps)

pub returns-in-Send-clause-keeps : goal.returns-in-Send-clause-keeps
returns-in-Send-clause-keeps g c =
    let t = c.args.self.now in
    keeps_further g.H.Runtime.keeps g.met.H.Runtime.stays c.next.new.kept t _ c.try_send.ensures.same c.try_send.ensures.further
    (subst (λ (got : List Word). g.H.Runtime.keeps t.runtime t.number c.next.new.kept t.state got t.done) c.as_slice.ensures.value c.next.ensures.keeps)

pub returns-in-End-clause-keeps : goal.returns-in-End-clause-keeps
returns-in-End-clause-keeps g c = g.met.H.Runtime.begins _ _ _ _ _ _ c.end_with.ensures.kept
