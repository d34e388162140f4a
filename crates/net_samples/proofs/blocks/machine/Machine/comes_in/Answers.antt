use Rattle.std.proofs.Common.{◌∙◌, sym, subst, arith}
use Rattle.block_stage.specs.Machine.Circuits.{stage_by, moves_by}
use Rattle.block_stage.specs.Machine.Logic.{circuit_of}
use Rattle.net_samples.specs.Blocks.Samples.{pipeline_of, ports_of}
use Rattle.net_samples.specs.Blocks.Shows.{ShowsStageEntry}
use Rattle.net_samples.proofs.OnBlocks.Machines.{held_stays, held_comes}
use Rattle.net_samples.proofs.blocks.machine.Machine.comes_in.Goals as goal

pub returns-then-moves : goal.returns-then-moves
returns-then-moves c = λ opening now small shows l.
    let x = circuit_of c.args.logic.now in
    let q = pipeline_of c.args.sample.now opening in
    let ports = ports_of c.args.ports.now in
    let comes = sym (c.moves.ensures opening now small shows (omega (arith, l))) ∙ c.if-moves.true in
    subst (ShowsStageEntry c.in_stage.result.stage_entry) (sym (held_comes now (stage_by x q now ports) (moves_by x q now ports) c.args.stage c.requires comes))
    (record { state = c.in_stage.ensures.state now shows (omega (arith, l)); got = (c.in_stage.ensures.shows opening now small shows (omega (arith, l))).got })

pub returns-else-moves : goal.returns-else-moves
returns-else-moves c = λ opening now small shows l.
    let x = circuit_of c.args.logic.now in
    let q = pipeline_of c.args.sample.now opening in
    let ports = ports_of c.args.ports.now in
    let stays = sym (c.moves.ensures opening now small shows (omega (arith, l))) ∙ c.if-moves.false in
    subst (ShowsStageEntry c.stage_entry_at.result) (sym (held_stays now (stage_by x q now ports) (moves_by x q now ports) c.args.stage c.requires stays))
    (let e = c.stage_entry_at.ensures in rw e (shows.stage_regs c.args.stage c.requires l))
