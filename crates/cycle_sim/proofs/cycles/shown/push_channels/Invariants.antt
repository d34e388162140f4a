use Rattle.std.proofs.Common.{◌≡◌, ◌++◌, drop}
use Rattle.vlog_tree.specs.Rows.{outs_of}
use Rattle.vlog_tree.specs.Settled.{values_of}
use Rattle.cycle_sim.specs.Cycles.CycleText.{shown_texts}
use Rattle.cycle_sim.proofs.cycles.shown.push_channels.Given as goal

abbrev pub invariant-channels : goal.invariant-channels
invariant-channels l =
    l.text.items ++ shown_texts (drop l.channel l.names) (drop l.channel (outs_of l.sim.design (values_of l.sim.words)).channels)
    ≡ l.initial.text.items ++ shown_texts l.names (outs_of l.sim.design (values_of l.sim.words)).channels
