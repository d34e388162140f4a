use Rattle.std.proofs.Common.{◌≡◌, ℕ}
use Rattle.dslx_check_facts.specs.Known.{at_place}
use Rattle.dslx_check_declarations.proofs.work.places.make_place.Given as goal

abbrev pub invariant-places : goal.invariant-places
invariant-places g l = (n : ℕ) → at_place l.places.items n ≡ at_place l.initial.places.items n
