use Rattle.std.proofs.Common.{◌≡◌}
use Rattle.pass_fold.specs.Folds.{places_to}
use Rattle.pass_fold.proofs.value.places_to.Given as goal

abbrev pub invariant-places : goal.invariant-places
invariant-places l = l.places ≡ places_to l.place
