use Rattle.std.proofs.Common.{◌<◌, ◌≤◌, ◌++◌, ◌∙◌, length, ap, arith}
use Rattle.vlog_tree.specs.Rows.{outs_of}
use Rattle.vlog_tree.specs.Settled.{values_of}
use Rattle.cycle_sim.specs.Cycles.CycleText.{shown_text}
use Rattle.cycle_sim.proofs.OnCycles.Written.{channel_there, shown_step, shown_end}
use Rattle.cycle_sim.proofs.cycles.shown.push_channels.Goals as goal

pub shown-requires : goal.shown-requires
shown-requires c =
    let here : c.channels.channel < length c.args.names.now = omega arith in
    channel_there c.args.sim.now.design c.args.names.now c.channels.channel c.requires here

pub channels-preserved : goal.channels-preserved
channels-preserved c =
    let here : c.channels.channel < length c.args.names.now = omega arith in
    shown_step c.args.names.now (outs_of c.args.sim.now.design (values_of c.args.sim.now.words)).channels c.channels.channel c.index-names-channel.result c.shown.result c.channels.text.items _ _ here c.index-names-channel.is c.shown.ensures
    (c.in_ok-push_shown.ensures ∙ ap (λ n. c.channels.text.items ++ shown_text n c.shown.result) c.as_slice.ensures)
    c.channels.invariant

pub returns : goal.returns
returns c =
    let past : length c.args.names.now ≤ c.channels.channel = omega arith in
    shown_end c.args.names.now (outs_of c.args.sim.now.design (values_of c.args.sim.now.words)).channels c.channels.channel c.channels.text.items _ past c.channels.invariant
