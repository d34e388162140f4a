use Rattle.std.proofs.Common.{◌≡◌, length, drop, map}
use Rattle.dslx_meaning.specs.Lists.{pairwise}
use Rattle.dslx_meaning.specs.Values.{same_value}
use Rattle.dslx_values.proofs.same.+same_value.Given as goal

abbrev pub invariant-same_values-parts : goal.invariant-same_values-parts
invariant-same_values-parts l =
    record {
      same_length : length l.a ≡ length l.b;
      same_rest : pairwise (λ p v. p v) (map same_value (drop l.i l.a)) (drop l.i l.b) ≡ pairwise (λ p v. p v) (map same_value l.a) l.b;
    }
