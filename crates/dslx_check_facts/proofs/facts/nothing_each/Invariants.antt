use Rattle.std.proofs.Common.{◌≡◌, ℕ, None, length}
use Rattle.dslx_check_facts.specs.Known.{at_place}
use Rattle.dslx_check_facts.proofs.facts.nothing_each.Given as goal

abbrev pub invariant-each : goal.invariant-each
invariant-each g l =
    record {
      size : length l.places.items ≡ l.counter;
      none : (i : ℕ) → at_place l.places.items i ≡ None;
    }
