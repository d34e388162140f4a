use Rattle.block_build.proofs.OnNetlist.OnStaging.{acted}
use Rattle.block_build.proofs.netlist.stages.act_at.Goals as goal

pub returns : goal.returns
returns c =
    let e = c.in_ok-passes.ensures in
    let d = acted c.args.wires.now c.both.new.self c.chain.new.wires c.args.run c.args.full c.args.stage c.args.sites.now c.args.handshakes.now.items c.chain.new.shaken.items c.full_at.result c.in_ok-acts.acts c.in_ok-passes.passes
    c.full_at.ensures c.in_ok-acts.ensures e.signals e.wired e.passed e.number in
    record { handshakes = d.handshakes; passes = d.passes_are; wired = d.wired; number = d.number }
