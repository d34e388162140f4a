use Rattle.std.proofs.Common.{◌≡◌, length, drop}
use Rattle.ir_lower.proofs.same.are_chans.Given as goal

abbrev pub invariant-chans : goal.invariant-chans
invariant-chans l =
    record {
      same_length : length l.chans ≡ length l.others;
      same_rest : drop l.i l.chans ≡ drop l.i l.others → l.chans ≡ l.others;
    }
