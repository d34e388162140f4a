use Rattle.std.proofs.Common.{◌≡◌, length, drop, map}
use Rattle.dslx_meaning.specs.Lists.{pairwise}
use Rattle.dslx_core.specs.CoreValues.{is_like}
use Rattle.dslx_interp.proofs.operate.shapes.+alike.Given as goal

abbrev pub invariant-are_alike-parts : goal.invariant-are_alike-parts
invariant-are_alike-parts l =
    record {
      same_length : length l.a ≡ length l.b;
      same_rest : pairwise (λ p v. p v) (map is_like (drop l.i l.a)) (drop l.i l.b) ≡ pairwise (λ p v. p v) (map is_like l.a) l.b;
    }
