use Rattle.std.proofs.Common.{◌≡◌, ◌+◌, ◌≤◌, drop}
use Rattle.xb_value.specs.Inner.Reading.{parts_at}
use Rattle.xb_value.proofs.reader.count_parts.Given as goal

abbrev pub invariant-tokens : goal.invariant-tokens
invariant-tokens l =
    record {
      total : l.count + parts_at l.depth (drop l.token-index l.tokens) ≡ parts_at 0 l.tokens;
      few : l.count ≤ l.token-index;
      shallow : l.depth ≤ l.token-index;
    }
