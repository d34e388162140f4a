use Rattle.std.proofs.Common.{arith}
use Rattle.dslx_check_judge.proofs.OnInstances.OnBodies.{body_walked}
use Rattle.dslx_check_judge.proofs.instances.bodies.body_seen.Goals as goal

pub returns : goal.returns
returns c = body_walked c.args.on_top c.args.body.now (omega (arith, c.len-from.ensures, c.args.w.now.reached.ok.0)) c.in_ok-typing.ensures c.wanted_faults-wrong.ensures c.in_ok-reached.ensures.misses c.in_ok-reached.ensures.unbroken
    c.with.ensures.ty c.with.ensures.faults c.with.ensures.size c.size_limited.ensures.ty c.size_limited.ensures.size c.size_limited.ensures.faults
