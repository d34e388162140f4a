use Rattle.std.proofs.Common.{◌≡◌, ◌+◌, ◌-◌, ◌*◌, ◌^◌, ◌<◌}
use Rattle.xb_bits.specs.BitPositions.{reversed_bits}
use Rattle.xb_bits.proofs.bit_positions.reversed.Given as goal

abbrev pub invariant-bit_positions : goal.invariant-bit_positions
invariant-bit_positions l =
    record {
      same : l.bits * 2 ^ (l.width - l.counter) + reversed_bits (l.width - l.counter) l.rest ≡ reversed_bits l.width l.number;
      below : l.bits < 2 ^ l.counter;
    }
