use Rattle.std.proofs.Common.{◌≡◌, ◌++◌, ◌-◌, string_bytes}
use Rattle.base.specs.Texts.Hexadecimal.{hex_digits}
use Rattle.base.proofs.texts.numbers.push_hex.Given as goal

abbrev pub invariant-digits : goal.invariant-digits
invariant-digits l = string_bytes l.text ++ hex_digits (l.count - l.i) l.number ≡ string_bytes l.fn.text ++ hex_digits l.count l.number
