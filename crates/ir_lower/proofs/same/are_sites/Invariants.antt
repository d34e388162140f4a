use Rattle.std.proofs.Common.{◌≡◌, length, drop}
use Rattle.ir_lower.proofs.same.are_sites.Given as goal

abbrev pub invariant-sites : goal.invariant-sites
invariant-sites l =
    record {
      same_length : length l.sites ≡ length l.others;
      same_rest : drop l.i l.sites ≡ drop l.i l.others → l.sites ≡ l.others;
    }
