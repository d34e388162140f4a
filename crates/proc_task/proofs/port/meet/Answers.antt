use Rattle.std.proofs.Common.{◌≡◌, refl, Some}
use Rattle.chan_queue.specs.Passes.{receiver_knows}
use Rattle.proc_task.proofs.Rights.{end_line, met_outlet, met_inlet}
use Rattle.proc_task.proofs.port.meet.Goals as goal

pub line-requires : goal.line-requires
line-requires g c = end_line _ _ c.args.outlet.now c.args.inlet.now c.requires.ends c.requires.outlet

pub returns-clause-outlet : goal.returns-clause-outlet
returns-clause-outlet g c =
    let e : c.args.outlet.now.pass ≡ Some c.in-Some-Some.sender = (let a = c.take.ensures.value in let b = c.in-Some-Some.is-0 in cc) in
    (met_outlet _ _ c.args.outlet.now c.in-Some-Some.sender c.meet-sender.result.0 c.line.result.now (receiver_knows c.in-Some-Some.receiver) e c.requires.outlet c.line.ensures c.meet-sender.ensures.sender.0 c.meet-sender.ensures.sender.1, refl, refl)

pub returns-clause-inlet : goal.returns-clause-inlet
returns-clause-inlet g c =
    let e : c.args.outlet.now.pass ≡ Some c.in-Some-Some.sender = (let a = c.take.ensures.value in let b = c.in-Some-Some.is-0 in cc) in
    let f : c.args.inlet.now.pass ≡ Some c.in-Some-Some.receiver = (let a = c.take-2.ensures.value in let b = c.in-Some-Some.is-1 in cc) in
    (met_inlet _ _ c.args.outlet.now c.args.inlet.now c.in-Some-Some.sender c.in-Some-Some.receiver c.meet-sender.result.1 c.line.result.now e f c.requires.ends.chan c.requires.outlet c.requires.inlet c.line.ensures c.meet-sender.ensures.receiver.0 c.meet-sender.ensures.receiver.1, refl, refl)
