use Rattle.std.proofs.Common.{◌<◌, ◌^◌, length}
use Rattle.std.specs.List.{AllByRecursion}
use Rattle.cycle_sim.specs.Rows.Inner.Known.{AreKnown}
use Rattle.cycle_sim.proofs.OnRows.Items.{AreItemsSoFar}
use Rattle.cycle_sim.proofs.rows.line.read_row.Given as goal

abbrev pub invariant-items : goal.invariant-items
invariant-items l = record {
  so_far : AreItemsSoFar (λ channels. AreKnown channels l.known) l.initial.items l.items l.initial.draft l.draft;
  short : AllByRecursion (λ piece. length piece < 2 ^ 32) l.items;
}

abbrev pub decreases-items : goal.decreases-items
decreases-items l = length l.items
