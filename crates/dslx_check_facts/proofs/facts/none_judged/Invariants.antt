use Rattle.std.proofs.Common.{◌≡◌, ℕ, false, length, slice_get}
use Rattle.dslx_check_facts.specs.Known.{is_so}
use Rattle.dslx_check_facts.proofs.facts.none_judged.Given as goal

abbrev pub invariant-each : goal.invariant-each
invariant-each l =
    record {
      size : length l.judged.items ≡ l.counter;
      none : (i : ℕ) → is_so (slice_get l.judged.items i) ≡ false;
    }
