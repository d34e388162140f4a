use Rattle.std.proofs.Common.{◌≡◌, length, drop}
use Rattle.ir_lower.proofs.same.are_heads.Given as goal

abbrev pub invariant-heads : goal.invariant-heads
invariant-heads l =
    record {
      same_length : length l.heads ≡ length l.others;
      same_rest : drop l.i l.heads ≡ drop l.i l.others → l.heads ≡ l.others;
    }
