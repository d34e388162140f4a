-- the channels that are left make of the numbers what all of them make
use Rattle.std.proofs.Common.{◌≡◌, ◌+◌, ◌*◌, drop}
use Rattle.cycle_sim.specs.Stored.{all_driven}
use Rattle.cycle_sim.proofs.give.give.Given as goal

abbrev pub invariant-loop-drive : goal.invariant-loop-drive
invariant-loop-drive l = record {
  left : all_driven l.at (drop l.drive-index l.drives) l.values ≡ all_driven l.first l.drives l.initial.values;
  place : l.at ≡ l.first + 3 * l.drive-index;
}
