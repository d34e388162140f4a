use Rattle.std.proofs.Common.{◌≤◌, ◌<◌, ◌∙◌, ap, sym, Some, arith}
use Rattle.std.proofs.lemmas.Result.{IfOk-weaker}
use Rattle.net_core.proofs.Asked.{progress_here, asked_open, asked_next, asked_active, asked_stands, asked_made, asked_done}
use Rattle.net_core.proofs.Falls.{asked_falls}
use Rattle.net_core.proofs.Kept.{asked_keeps}
use Rattle.net_core.proofs.Shown.{progress_is}
use Rattle.net_core.proofs.config.Config.step.Goals as goal

pub returns-then-ends-self-clause-ok : goal.returns-then-ends-self-clause-ok
returns-then-ends-self-clause-ok g c run cut sh is =
    let progress = c.index-progress.result.now in
    let here = progress_here run cut c.args.self.now sh c.args.p _ is progress c.index-progress.ensures in
    let done : c.args.self.now.activations ≤ progress.ends = omega (arith, c.if-ends-self.true, c.ends.ensures) in
    asked_done run cut c.args.self.now sh c.args.p _ is progress here done

pub next-requires-clause-stands : goal.next-requires-clause-stands
next-requires-clause-stands g c =
    let r = c.requires.asked in
    let progress = c.index-progress.result.now in
    let here = progress_here r.0 r.1 c.args.self.now r.2 c.args.p _ r.3 progress c.index-progress.ensures in
    asked_open r.0 r.1 c.args.self.now r.2 c.args.p _ r.3 progress here

pub next-requires-clause-keeps : goal.next-requires-clause-keeps
next-requires-clause-keeps g c =
    let r = c.requires.asked in
    let progress = c.index-progress.result.now in
    let here = progress_here r.0 r.1 c.args.self.now r.2 c.args.p _ r.3 progress c.index-progress.ensures in
    c.requires.keeps progress (progress_is r.0 r.1 c.args.self.now r.2 c.args.p r.3.0 r.3.1 ∙ ap Some (sym here))

pub try_event-requires : goal.try_event-requires
try_event-requires g c =
    let r = c.requires.asked in
    let progress = c.index-progress.result.now in
    let here = progress_here r.0 r.1 c.args.self.now r.2 c.args.p _ r.3 progress c.index-progress.ensures in
    let active : progress.ends < c.args.self.now.activations = omega (arith, c.if-ends-self.false, c.ends.ensures) in
    asked_stands r.0 r.1 c.args.self.now r.2 c.args.p _ r.3 c.in_ok-event.event
    (asked_active r.0 r.1 c.args.self.now r.2 c.args.p _ r.3 progress here active)
    (asked_next r.0 r.1 c.args.p _ r.3 progress c.in_ok-event.event here c.in_ok-event.ensures.event)

pub returns-clause-ok : goal.returns-clause-ok
returns-clause-ok g c =
    IfOk-weaker c.try_event.result _ _ (λ made tried run cut sh is.
    let progress = c.index-progress.result.now in
    let here = progress_here run cut c.args.self.now sh c.args.p _ is progress c.index-progress.ensures in
    let active : progress.ends < c.args.self.now.activations = omega (arith, c.if-ends-self.false, c.ends.ensures) in
    asked_made run cut c.args.self.now c.try_event.new.self sh c.args.p _ is c.in_ok-event.event made
    (asked_active run cut c.args.self.now sh c.args.p _ is progress here active)
    (asked_next run cut c.args.p _ is progress c.in_ok-event.event here c.in_ok-event.ensures.event) tried) c.try_event.ensures.ok

pub returns-clause-falls : goal.returns-clause-falls
returns-clause-falls g c =
    let r = c.requires.asked in
    let progress = c.index-progress.result.now in
    let here = progress_here r.0 r.1 c.args.self.now r.2 c.args.p _ r.3 progress c.index-progress.ensures in
    let active : progress.ends < c.args.self.now.activations = omega (arith, c.if-ends-self.false, c.ends.ensures) in
    IfOk-weaker c.try_event.result _ _ (λ made tried.
    asked_falls r.0 r.1 c.args.self.now c.try_event.new.self r.2 c.args.p _ r.3 c.in_ok-event.event made
    (asked_active r.0 r.1 c.args.self.now r.2 c.args.p _ r.3 progress here active)
    (asked_next r.0 r.1 c.args.p _ r.3 progress c.in_ok-event.event here c.in_ok-event.ensures.event) tried) c.try_event.ensures.ok

pub returns-clause-keeps : goal.returns-clause-keeps
returns-clause-keeps g c =
    let r = c.requires.asked in
    let progress = c.index-progress.result.now in
    let here = progress_here r.0 r.1 c.args.self.now r.2 c.args.p _ r.3 progress c.index-progress.ensures in
    asked_keeps (g.B.Body.keeps c.args.body.now) (g.met.B.Body.begins c.args.body.now) (g.met.B.Body.stays c.args.body.now)
    r.0 r.1 c.args.self.now c.try_event.new.self r.2 c.args.p _ r.3 progress c.in_ok-event.event c.next.new.kept c.try_event.new.kept here
    (asked_next r.0 r.1 c.args.p _ r.3 progress c.in_ok-event.event here c.in_ok-event.ensures.event) c.next.ensures.keeps c.try_event.ensures.kept
    c.try_event.result c.try_event.ensures.ok c.try_event.ensures.err
