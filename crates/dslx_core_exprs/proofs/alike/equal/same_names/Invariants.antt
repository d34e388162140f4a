use Rattle.std.proofs.Common.{◌≡◌, length, drop}
use Rattle.dslx_core.specs.Typing.Typed.Kinds.{same_names}
use Rattle.dslx_core_exprs.proofs.alike.equal.same_names.Given as goal

abbrev pub invariant-names : goal.invariant-names
invariant-names l =
    record {
      same_length : length l.a ≡ length l.b;
      same_rest : same_names (drop l.i l.a) (drop l.i l.b) ≡ same_names l.a l.b;
    }
