use Rattle.std.proofs.Common.{◌≡◌, length, drop}
use Rattle.dslx_meaning.specs.Lists.{pairwise}
use Rattle.dslx_check_rules.specs.Rows.{same_id}
use Rattle.dslx_check_declarations.proofs.value_types.are_same.Given as goal

abbrev pub invariant-parts : goal.invariant-parts
invariant-parts l = record {
  same_length : length l.a ≡ length l.b;
  same_rest : pairwise same_id (drop l.i l.a) (drop l.i l.b) ≡ pairwise same_id l.a l.b;
}
