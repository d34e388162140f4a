use Rattle.std.proofs.Common.{◌≡◌, ◌+◌, ◌++◌, List, replicate}
use Rattle.vlog_tree.specs.declared.row.Row.{Row}
use Rattle.cycle_sim.specs.Cycles.Inner.Standing.{HasWritten}
use Rattle.cycle_sim.proofs.cycles.running.repeat.Given as goal

abbrev pub invariant-times : goal.invariant-times
invariant-times l = record {
  written : (rows : List Row) → HasWritten l.initial.bench rows → HasWritten l.bench (rows ++ replicate l._done l.row);
  count : l.bench.count ≡ l.initial.bench.count + l._done;
  design : l.bench.sim.design ≡ l.initial.bench.sim.design;
}
