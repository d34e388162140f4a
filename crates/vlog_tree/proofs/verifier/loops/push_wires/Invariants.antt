use Rattle.std.proofs.Common.{◌≡◌, ◌++◌, drop}
use Rattle.vlog_tree.specs.Verifier.Inner.Firsts.{wires_among}
use Rattle.vlog_tree.proofs.verifier.loops.push_wires.Given as goal

abbrev pub invariant-loop-signal : goal.invariant-loop-signal
invariant-loop-signal l = l.found ++ wires_among l.design (drop l.signal-index l.signals) ≡ l.initial.found ++ wires_among l.design l.signals
