use Rattle.std.proofs.Common.{◌≡◌, length, drop, map}
use Rattle.dslx_meaning.specs.Lists.{pairwise}
use Rattle.dslx_core.specs.Lowering.EqualTypes.{equal_type}
use Rattle.dslx_core_exprs.proofs.alike.equal.+equal_type.Given as goal

abbrev pub invariant-equal_types-parts : goal.invariant-equal_types-parts
invariant-equal_types-parts l =
    record {
      same_length : length l.a ≡ length l.b;
      same_rest : pairwise (λ p t. p t) (map equal_type (drop l.i l.a)) (drop l.i l.b) ≡ pairwise (λ p t. p t) (map equal_type l.a) l.b;
    }
