use Rattle.std.proofs.Common.{◌≡◌, ℕ, None, length, slice_get}
use Rattle.dslx_meaning.specs.Lists.{and_then}
use Rattle.dslx_check_facts.specs.Known.{at_place}
use Rattle.dslx_check_facts.proofs.facts.no_members.Given as goal

abbrev pub invariant-each : goal.invariant-each
invariant-each l =
    record {
      size : length l.members.items ≡ l.counter;
      none : (i k : ℕ) → and_then (slice_get l.members.items i) (λ ms. at_place ms.items k) ≡ None;
    }
