use Rattle.std.proofs.Common.{arith}
use Rattle.std.specs.Prelude.{map}
use Rattle.block_stage.specs.Machine.Circuits.{stage_by}
use Rattle.block_stage.specs.Machine.Logic.{circuit_of}
use Rattle.net_samples.specs.Blocks.Samples.{site_of, pipeline_of, ports_of}
use Rattle.net_samples.proofs.OnBlocks.Machines.{more_asserted, none_asserted}
use Rattle.net_samples.proofs.blocks.machine.Machine.+asserted_from.Goals as goal

pub returns-then-left-eq0 : goal.returns-then-left-eq0
returns-then-left-eq0 t c = λ opening now small shows l.
    none_asserted (map site_of c.args.sample.now.sites.now) (stage_by (circuit_of c.args.logic.now) (pipeline_of c.args.sample.now opening) now (ports_of c.args.ports.now)) c.args.stage c.args.left
    c.nothing.result c.if-left-eq0.true (c.nothing.ensures (map site_of c.args.sample.now.sites.now))

pub returns : goal.returns
returns t c = λ opening now small shows l.
    let some = c.if-left-eq0.false in
    more_asserted (map site_of c.args.sample.now.sites.now) (stage_by (circuit_of c.args.logic.now) (pipeline_of c.args.sample.now opening) now (ports_of c.args.ports.now)) c.args.stage c.args.left
    c.and.result (λ z. omega (arith, z, some))
    (c.and.ensures (map site_of c.args.sample.now.sites.now) _ _ (c.in_stage-here.ensures.shows opening now small shows (omega (arith, l, some))).asserted
    (c.asserted_from.ensures opening now small shows (omega (arith, l, some))))
