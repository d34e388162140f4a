use Rattle.std.proofs.Common.{ℕ, ◌<◌, arith}
use Rattle.block_stage.specs.Machine.Circuits.{cycle_by}
use Rattle.block_stage.specs.Machine.Logic.{circuit_of}
use Rattle.net_samples.specs.declared.blocks.sample.StageEntry.{StageEntry}
use Rattle.net_samples.specs.Blocks.Samples.{pipeline_of, ports_of}
use Rattle.net_samples.specs.Blocks.Shows.{no_stage_entry, ShowsStageEntry}
use Rattle.net_samples.proofs.OnBlocks.Tables.{four}
use Rattle.net_samples.proofs.blocks.machine.Machine.next_stage_regs.Goals as goal

pub returns : goal.returns
returns c = λ opening now small shows j z l.
    let x = circuit_of c.args.logic.now in
    let q = pipeline_of c.args.sample.now opening in
    let ports = ports_of c.args.ports.now in
    four (λ (k : ℕ) (b : StageEntry). 0 < k → k < c.args.sample.now.stages → ShowsStageEntry b ((cycle_by x q now ports).stage_regs k)) _ _ _ _ no_stage_entry
    (λ y m. absurd (omega (arith, y))) (λ y m. c.comes_in.ensures opening now small shows m) (λ y m. c.comes_in-2.ensures opening now small shows m) (λ y m. c.comes_in-3.ensures opening now small shows m)
    j (let s = small.stages in omega (arith, l, s)) z l
