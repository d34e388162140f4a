use Rattle.std.proofs.Common.{◌<◌, ◌≤◌, ◌++◌, ◌∙◌, length, ap, arith}
use Rattle.cycle_sim.specs.Cycles.CycleText.{moved_text}
use Rattle.cycle_sim.proofs.OnCycles.Written.{moved_line_more, moved_line_end}
use Rattle.cycle_sim.proofs.cycles.moved.push_all_moved.Goals as goal

pub channels-preserved : goal.channels-preserved
channels-preserved c =
    let here : c.channels.channel < length c.args.names.now = omega arith in
    let there : c.channels.channel < length c.args.moved.now = omega arith in
    moved_line_more c.args.names.now c.args.moved.now c.channels.channel c.index-names-channel.result c.index-moved-channel.result c.channels.text.items _ _ here there c.index-names-channel.is c.index-moved-channel.is
    (c.in_ok-push_moved.ensures
    ∙ ap (λ n. c.channels.text.items ++ moved_text n c.as_slice-in-channels.result.now) c.as_slice.ensures
    ∙ ap (λ w. c.channels.text.items ++ moved_text c.index-names-channel.result w) c.as_slice-in-channels.ensures)
    c.channels.invariant

pub returns : goal.returns
returns c =
    let past : length c.args.names.now ≤ c.channels.channel = omega arith in
    moved_line_end c.args.names.now c.args.moved.now c.channels.channel c.channels.text.items _ past c.channels.invariant
