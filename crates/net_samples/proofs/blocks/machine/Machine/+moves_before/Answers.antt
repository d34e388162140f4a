use Rattle.std.proofs.Common.{◌∙◌, ◌+◌, sym, arith, refl}
use Rattle.block_stage.specs.Machine.Circuits.{stage_by}
use Rattle.block_stage.specs.Machine.Logic.{circuit_of}
use Rattle.net_samples.specs.Blocks.Samples.{pipeline_of, ports_of}
use Rattle.net_samples.proofs.OnBlocks.Machines.{moves_more}
use Rattle.net_samples.proofs.blocks.machine.Machine.+moves_before.Goals as goal

pub returns : goal.returns
returns t c = λ opening now small shows l.
    let some = c.if-behind-eq0.false in
    let full = c.flag-full.ensures ∙ shows.full c.args.stage (omega (arith, l)) in
    let stall = (c.in_stage-stall.ensures.shows opening now small shows (omega (arith, l))).stall in
    let next_full = c.flag-next_full.ensures ∙ shows.full (c.args.stage + 1) (omega (arith, l, some)) in
    let next_moves = c.moves_before-next_moves.ensures opening now small shows (omega (arith, l, some)) in
    c.moves_on.ensures
    ∙ (rw (full, stall, next_full, next_moves) refl)
    ∙ sym (moves_more (circuit_of c.args.logic.now) now.full (stage_by (circuit_of c.args.logic.now) (pipeline_of c.args.sample.now opening) now (ports_of c.args.ports.now)) c.args.behind c.args.stage (λ z. omega (arith, z, some)))
