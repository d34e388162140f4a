use Rattle.std.proofs.Common.{◌≡◌, ◌∙◌, ◌-◌, suc, ap, arith}
use Rattle.block_stage.specs.Machine.Cycle.{moves_through}
use Rattle.block_stage.specs.Machine.Circuits.{stage_by}
use Rattle.block_stage.specs.Machine.Logic.{circuit_of}
use Rattle.net_samples.specs.Blocks.Samples.{pipeline_of, ports_of}
use Rattle.net_samples.proofs.blocks.machine.Machine.moves.Goals as goal

pub returns-then-sample-le4 : goal.returns-then-sample-le4
returns-then-sample-le4 c = λ opening now small shows l.
    let behind : c.args.sample.now.stages - 1 - c.args.stage ≡ c.args.sample.now.stages - suc c.args.stage = omega arith in
    c.moves_before.ensures opening now small shows (omega (arith, l))
    ∙ ap (λ n. moves_through (circuit_of c.args.logic.now) now.full (stage_by (circuit_of c.args.logic.now) (pipeline_of c.args.sample.now opening) now (ports_of c.args.ports.now)) n c.args.stage) behind
