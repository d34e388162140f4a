use Rattle.std.specs.List.{AllByRecursion}
use Rattle.dslx_check_leaves.proofs.fits.ways.has_way.Given as goal
use Rattle.dslx_check_leaves.proofs.OnFits.OnWays.{IsMet}

abbrev pub invariant-turns : goal.invariant-turns
invariant-turns l = AllByRecursion (IsMet l.needs l.from) l.queue.items
