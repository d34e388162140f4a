use Rattle.std.proofs.Common.{◌≡◌, ◌+◌, ◌<◌, ◌^◌, drop, take}
use Rattle.cycle_sim.specs.Rows.RowFile.{all_rows, count_rows}
use Rattle.cycle_sim.specs.Cycles.Inner.Standing.{HasWritten}
use Rattle.cycle_sim.proofs.cycles.running.run.Given as goal

abbrev pub invariant-rows : goal.invariant-rows
invariant-rows l = record {
  written : HasWritten l.bench (all_rows (take l.repeated-index l.rows));
  few : l.bench.count + count_rows (drop l.repeated-index l.rows) < 2 ^ 32;
  design : l.bench.sim.design ≡ l.initial.bench.sim.design;
}
