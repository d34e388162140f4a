-- The reader's state as contracts see it.
use Rattle.std.specs.Prelude.{◌≡◌, ◌<◌, ◌*◌, ◌^◌, Bool, true, false, Option, Some, None, reverse}
use Rattle.xb_value.specs.declared.scan.Scanner.{Scanner}
use Rattle.xb_value.specs.declared.scan.Class.{Class}
use Rattle.xb_value.specs.declared.scan.Class.TheVariants.{Digit}
use Rattle.xb_value.specs.declared.scan.Mode.{Mode}
use Rattle.xb_value.specs.declared.scan.Mode.TheVariants.{Digits}
use Rattle.xb_value.specs.Inner.Scanner.{Scan, scan}

-- the innermost bracket is the last in the code's stack
abbrev pub state_of : Scanner → Scan
state_of s = scan (reverse s.stack.items) s.tokens.items s.mode

-- a step went on to the state, or was refused
abbrev pub Stepped : Option Scan → Bool → Scan → Type 0
Stepped None false t = Unit {0}
Stepped (Some s) true t = t ≡ s
Stepped _ _ t = ⊥

-- a number has at most 4 bits a digit
abbrev pub FitsDigits : Mode → Type 0
FitsDigits (Digits at n v) = v < 2 ^ (4 * n)
FitsDigits _ = Unit {0}

abbrev pub IsSmall : Class → Type 0
IsSmall (Digit d) = d < 16
IsSmall _ = Unit {0}
