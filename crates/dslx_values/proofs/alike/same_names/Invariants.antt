use Rattle.std.proofs.Common.{◌≡◌, length, drop}
use Rattle.std.specs.Str.{bytes_eq}
use Rattle.dslx_meaning.specs.Lists.{pairwise}
use Rattle.dslx_values.proofs.alike.same_names.Given as goal

abbrev pub invariant-names : goal.invariant-names
invariant-names l =
    record {
      same_length : length l.a ≡ length l.b;
      same_rest : pairwise bytes_eq (drop l.i l.a) (drop l.i l.b) ≡ pairwise bytes_eq l.a l.b;
    }
