use Rattle.std.proofs.Common.{refl, sym, ap, ◌∙◌, subst}
use Rattle.std.proofs.lemmas.Option.{slice_get_read, slice_get_past}
use Rattle.std.proofs.lemmas.Result.{IfOk-weaker}
use Rattle.net_core.specs.Behavior.{Behavior, IsOpen, next_event}
use Rattle.proc_runner.proofs.Runs.{body_there, body_missing, same_body}
use Rattle.proc_runner.proofs.given.RefGivenRunning.next.Goals as goal

pub unreachable-requires : goal.unreachable-requires
unreachable-requires g c =
    let stands = c.requires.stands in
    body_missing g.B.Body.behavior c.args.self.now.now.net.now.procs c.args.self.now.now.bodies.now c.args.number stands.0 stands.1
    (slice_get_past c.args.self.now.now.bodies.now c.args.number c.in-None.ensures.lookup.3)

pub next-requires-clause-stands : goal.next-requires-clause-stands
next-requires-clause-stands g c =
    let bodies = c.args.self.now.now.bodies.now in
    let stands = c.requires.stands in
    let there = slice_get_read bodies _ c.args.number c.in-Some.body.now refl c.in-Some.ensures.lookup.3.0 c.in-Some.ensures.lookup.1 in
    subst (λ (b : Behavior). IsOpen b c.args.state.now c.args.got.now c.args.done)
    (sym (body_there g.B.Body.behavior c.args.self.now.now.net.now.procs bodies c.args.number stands.0 stands.1 c.in-Some.body.now there))
    stands.2

pub next-requires-clause-keeps : goal.next-requires-clause-keeps
next-requires-clause-keeps g c =
    let there = slice_get_read c.args.self.now.now.bodies.now _ c.args.number c.in-Some.body.now refl c.in-Some.ensures.lookup.3.0 c.in-Some.ensures.lookup.1 in
    c.requires.keeps c.in-Some.body.now there

pub returns-clause-event : goal.returns-clause-event
returns-clause-event g c =
    let bodies = c.args.self.now.now.bodies.now in
    let there = slice_get_read bodies _ c.args.number c.in-Some.body.now refl c.in-Some.ensures.lookup.3.0 c.in-Some.ensures.lookup.1 in
    IfOk-weaker c.next.result _ _
    (λ event is. λ proc e.
    is ∙ ap (λ (b : Behavior). next_event b c.args.state.now c.args.got.now c.args.done)
    (body_there g.B.Body.behavior c.args.self.now.now.net.now.procs bodies c.args.number proc e c.in-Some.body.now there))
    c.next.ensures.event

pub returns-clause-keeps : goal.returns-clause-keeps
returns-clause-keeps g c body is =
    let bodies = c.args.self.now.now.bodies.now in
    let there = slice_get_read bodies _ c.args.number c.in-Some.body.now refl c.in-Some.ensures.lookup.3.0 c.in-Some.ensures.lookup.1 in
    same_body (λ other. g.B.Body.keeps other c.next.new.kept c.args.state.now c.args.got.now c.args.done) bodies c.args.number c.in-Some.body.now body there is
    c.next.ensures.keeps
