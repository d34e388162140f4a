use Rattle.std.proofs.Common.{◌≡◌, length, drop, map}
use Rattle.dslx_meaning.specs.Lists.{pairwise}
use Rattle.dslx_meaning.specs.Rules.EqualValues.{equal_value}
use Rattle.dslx_values.proofs.alike.+equal_value.Given as goal

abbrev pub invariant-equal_parts-parts : goal.invariant-equal_parts-parts
invariant-equal_parts-parts l =
    record {
      same_length : length l.a ≡ length l.b;
      same_rest : pairwise (λ p v. p v) (map equal_value (drop l.i l.a)) (drop l.i l.b) ≡ pairwise (λ p v. p v) (map equal_value l.a) l.b;
    }
