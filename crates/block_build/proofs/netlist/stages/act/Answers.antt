use Rattle.std.proofs.Common.{sym}
use Rattle.block_build.proofs.OnNetlist.OnStaging.{acting_begun, acting_more, acting_done}
use Rattle.block_build.proofs.netlist.stages.act.Goals as goal

pub stages-init : goal.stages-init
stages-init c = acting_begun c.args.wires.now c.args.run c.args.full c.args.stages c.args.sites.now _ _ (sym c.new-handshakes.ensures.items) (sym c.new-passed.ensures.items)

pub stages-preserved : goal.stages-preserved
stages-preserved c =
    let e = c.in_ok-passes.ensures in
    acting_more c.args.wires.now c.stages.wires c.act_at.new.wires c.args.run c.args.full c.args.stages c.args.sites.now c.stages.stage c.stages.rest.now c.first_sites-own.result.now c.sites_behind-rest.result.now c.leading-count.result
    c.stages.handshakes.items c.act_at.new.handshakes.items c.stages.passed.items c.push.new.self.items c.in_ok-passes.passes c.stages-test.true c.leading-count.ensures c.first_sites-own.ensures c.sites_behind-rest.ensures c.stages.invariant
    (record { handshakes = e.handshakes; passes_are = e.passes; wired = e.wired; number = e.number }) c.in_ok-push.ensures.items

pub returns : goal.returns
returns c =
    let d = acting_done c.args.wires.now c.stages.wires c.args.run c.args.full c.args.stages c.args.sites.now c.stages.stage c.stages.rest.now c.stages.handshakes.items c.stages.passed.items c.stages-test.false c.stages.invariant in
    record { handshakes = d.handshakes; passed = d.passes_are; wired = d.wired }
