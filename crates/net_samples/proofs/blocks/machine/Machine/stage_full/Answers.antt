use Rattle.std.proofs.Common.{◌∙◌, sym, refl, arith}
use Rattle.block_stage.specs.Machine.Circuits.{moves_by}
use Rattle.block_stage.specs.Machine.Logic.{circuit_of}
use Rattle.net_samples.specs.Blocks.Samples.{pipeline_of, ports_of}
use Rattle.net_samples.proofs.OnBlocks.Machines.{full_past}
use Rattle.net_samples.proofs.blocks.machine.Machine.stage_full.Goals as goal

pub returns-then-stage-sample : goal.returns-then-stage-sample
returns-then-stage-sample c = λ opening now small shows l.
    let comes = c.moves-comes.ensures opening now small shows (omega (arith, l)) in
    let full = c.flag-full.ensures ∙ shows.full c.args.stage l in
    let moves = c.moves-moves.ensures opening now small shows l in
    c.at.ensures ∙ (rw (comes, full, moves) refl)
    ∙ sym (full_past (circuit_of c.args.logic.now) (pipeline_of c.args.sample.now opening) now (moves_by (circuit_of c.args.logic.now) (pipeline_of c.args.sample.now opening) now (ports_of c.args.ports.now)) c.args.stage c.requires)
