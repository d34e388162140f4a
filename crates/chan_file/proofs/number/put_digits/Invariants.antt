use Rattle.std.proofs.Common.{◌≡◌, ◌-◌, ◌*◌, ◌/◌, ◌^◌, drop}
use Rattle.base.specs.Texts.Hexadecimal.{hex_digits}
use Rattle.chan_file.proofs.number.put_digits.Given as goal

abbrev pub invariant-digits : goal.invariant-digits
invariant-digits l =
    record {
      put : drop (35 - l.i) l.bytes ≡ hex_digits l.i l.number;
      left : l.left ≡ l.number / 2 ^ (4 * l.i);
    }
