use Rattle.std.proofs.Common.{◌≡◌, ◌<◌, ◌*◌, ◌^◌, drop}
use Rattle.std.specs.List.{list_all}
use Rattle.std.specs.Char.{is_ascii_hexdigit}
use Rattle.std.specs.Str.Parse.{digits_value, digits_value_after}
use Rattle.chan_file.proofs.number.number_of.Given as goal

abbrev pub invariant-digits : goal.invariant-digits
invariant-digits l =
    record {
      digits : list_all is_ascii_hexdigit (drop l.byte-index l.digits) ≡ list_all is_ascii_hexdigit l.digits;
      number : digits_value_after 16 l.number (drop l.byte-index l.digits) ≡ digits_value 16 l.digits;
      below : l.number < 2 ^ (4 * l.byte-index);
    }
