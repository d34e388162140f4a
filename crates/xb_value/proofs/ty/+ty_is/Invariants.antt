use Rattle.std.proofs.Common.{◌≡◌, ◌↔◌, length, drop}
use Rattle.xb_value.proofs.ty.+ty_is.Given as goal

abbrev pub invariant-are-parts : goal.invariant-are-parts
invariant-are-parts l =
    record {
      same_length : length l.parts ≡ length l.others;
      same_rest : (l.parts ≡ l.others) ↔ (drop l.i l.parts ≡ drop l.i l.others);
    }
