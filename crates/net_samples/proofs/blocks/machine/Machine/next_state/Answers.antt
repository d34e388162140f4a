use Rattle.std.proofs.Common.{◌∙◌, ap, sym}
use Rattle.xb_value.specs.declared.value.Value.TheViews.{outs-Bits}
use Rattle.net_samples.specs.Blocks.Samples.{bits_in}
use Rattle.net_samples.proofs.blocks.machine.Machine.next_state.Goals as goal

pub returns-then-moves : goal.returns-then-moves
returns-then-moves c = λ opening now small shows.
    let moves = sym (c.moves.ensures opening now small shows small.last) ∙ c.if-moves.true in
    let state = c.in_stage-walk.ensures.state now shows small.last in
    let got = (c.in_stage-walk.ensures.shows opening now small shows small.last).got in
    c.state.ensures ∙ (rw (state, got, moves) (sym (ap bits_in (outs-Bits _))))
