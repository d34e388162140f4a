-- the assignments at the places that are left make of the numbers what all of them make; no width has changed
use Rattle.std.proofs.Common.{◌≡◌, drop}
use Rattle.vlog_tree.specs.Settled.{settled, widths_of}
use Rattle.cycle_sim.specs.Ordered.{taken}
use Rattle.cycle_sim.proofs.settle.settle.Given as goal

abbrev pub invariant-loop-place : goal.invariant-loop-place
invariant-loop-place l = record {
  left : settled (taken l.assignments (drop l.place-index l.indices)) l.values ≡ settled (taken l.assignments l.indices) l.initial.values;
  widths : widths_of l.values ≡ widths_of l.initial.values;
}
