use Rattle.std.proofs.Common.{◌≡◌, length, drop}
use Rattle.dslx_meaning.specs.Lists.{pairwise}
use Rattle.dslx_core.specs.Types.Typing.{is_type}
use Rattle.ir_lower.proofs.types.signature.are_alike.Given as goal

abbrev pub invariant-types : goal.invariant-types
invariant-types l =
    record {
      same_length : length l.types ≡ length l.others;
      same_rest : pairwise is_type (drop l.i l.types) (drop l.i l.others) ≡ pairwise is_type l.types l.others;
    }
