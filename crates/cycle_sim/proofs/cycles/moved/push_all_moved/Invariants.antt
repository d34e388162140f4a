use Rattle.std.proofs.Common.{◌≡◌, ◌++◌, drop}
use Rattle.cycle_sim.specs.Cycles.CycleText.{moved_texts}
use Rattle.cycle_sim.proofs.cycles.moved.push_all_moved.Given as goal

abbrev pub invariant-channels : goal.invariant-channels
invariant-channels l =
    l.text.items ++ moved_texts (drop l.channel l.names) (drop l.channel l.moved) ≡ l.initial.text.items ++ moved_texts l.names l.moved
