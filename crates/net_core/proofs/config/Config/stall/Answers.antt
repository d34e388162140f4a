use Rattle.std.proofs.Common.{◌≤◌, ◌<◌, arith}
use Rattle.net_core.proofs.Asked.{progress_here, asked_open, asked_next, asked_active, asked_at_site}
use Rattle.net_core.proofs.Stalls.{asked_stall, asked_no_stall}
use Rattle.net_core.proofs.config.Config.stall.Goals as goal

pub returns-then-ends-self : goal.returns-then-ends-self
returns-then-ends-self g c run cut sh is =
    let progress = c.index-progress.result.now in
    let here = progress_here run cut c.args.self.now sh c.args.p _ is progress c.index-progress.ensures in
    let done : c.args.self.now.activations ≤ progress.ends = omega (arith, c.if-ends-self.true, c.ends.ensures) in
    asked_no_stall run cut c.args.self.now sh c.args.p _ is progress here done

pub next-requires-clause-stands : goal.next-requires-clause-stands
next-requires-clause-stands g c =
    let r = c.requires in
    let progress = c.index-progress.result.now in
    let here = progress_here r.0 r.1 c.args.self.now r.2 c.args.p _ r.3 progress c.index-progress.ensures in
    asked_open r.0 r.1 c.args.self.now r.2 c.args.p _ r.3 progress here

pub next-requires-clause-keeps : goal.next-requires-clause-keeps
next-requires-clause-keeps g c = g.met.B.Body.begins c.args.body.now _ _ _ _ c.new.ensures

pub stall_at-requires : goal.stall_at-requires
stall_at-requires g c =
    let r = c.requires in
    let progress = c.index-progress.result.now in
    let here = progress_here r.0 r.1 c.args.self.now r.2 c.args.p _ r.3 progress c.index-progress.ensures in
    let active : progress.ends < c.args.self.now.activations = omega (arith, c.if-ends-self.false, c.ends.ensures) in
    asked_at_site r.0 r.1 c.args.self.now r.2 c.args.p _ r.3 progress c.in_ok-event.event here
    (asked_active r.0 r.1 c.args.self.now r.2 c.args.p _ r.3 progress here active)
    (asked_next r.0 r.1 c.args.p _ r.3 progress c.in_ok-event.event here c.in_ok-event.ensures.event)

pub returns : goal.returns
returns g c run cut sh is =
    let progress = c.index-progress.result.now in
    let here = progress_here run cut c.args.self.now sh c.args.p _ is progress c.index-progress.ensures in
    let active : progress.ends < c.args.self.now.activations = omega (arith, c.if-ends-self.false, c.ends.ensures) in
    asked_stall run cut c.args.self.now sh c.args.p _ is c.in_ok-event.event c.stall_at.result progress here
    (asked_active run cut c.args.self.now sh c.args.p _ is progress here active)
    (asked_next run cut c.args.p _ is progress c.in_ok-event.event here c.in_ok-event.ensures.event) c.stall_at.ensures
