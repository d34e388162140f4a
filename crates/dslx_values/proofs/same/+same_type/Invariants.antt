use Rattle.std.proofs.Common.{◌≡◌, length, drop, map}
use Rattle.dslx_meaning.specs.Lists.{pairwise}
use Rattle.dslx_meaning.specs.Types.{same_type}
use Rattle.dslx_values.proofs.same.+same_type.Given as goal

abbrev pub invariant-same_types-parts : goal.invariant-same_types-parts
invariant-same_types-parts l =
    record {
      same_length : length l.a ≡ length l.b;
      same_rest : pairwise (λ p t. p t) (map same_type (drop l.i l.a)) (drop l.i l.b) ≡ pairwise (λ p t. p t) (map same_type l.a) l.b;
    }
