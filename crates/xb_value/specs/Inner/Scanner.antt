-- The reader of a value's text, byte by byte: what it has met so far, and what may come.
use Rattle.std.specs.Prelude.{ℕ, zero, ◌+◌, ◌*◌, List, [], ◌∷◌, ◌++◌, Bool, true, false, Option, Some, None, ◌==◌, nat_lt, if◌then◌else◌}
use Rattle.xb_value.specs.declared.token.Bracket.{Bracket}
use Rattle.xb_value.specs.declared.token.Bracket.TheVariants.{Round, Square}
use Rattle.xb_value.specs.declared.token.Token.{Token}
use Rattle.xb_value.specs.declared.token.Token.TheVariants.{Number, Open, Close}
use Rattle.xb_value.specs.declared.scan.Class.{Class}
use Rattle.xb_value.specs.declared.scan.Class.TheVariants.{Space, Comma, Ex, Opens, Closes, Digit, Other}
use Rattle.xb_value.specs.declared.scan.Mode.{Mode}
use Rattle.xb_value.specs.declared.scan.Mode.TheVariants.{Start, First, Next, Zero, Hex, Digits, After}
use Rattle.std.specs.Char.{is_ascii_hexdigit, digit_value}

-- what a byte is to the reader
abbrev pub class_of : ℕ → Class
class_of b =
    if b == 32 then Space
    else (if b == 44 then Comma
    else (if b == 120 then Ex
    else (if b == 40 then (Opens Round)
    else (if b == 91 then (Opens Square)
    else (if b == 41 then (Closes Round)
    else (if b == 93 then (Closes Square)
    else (if is_ascii_hexdigit b then (Digit (digit_value b))
    else Other)))))))

-- the open brackets, the innermost first, the numbers and brackets so far, and what may come next
pub record Scan : Type 0 where
  pub stack : List Bracket
  pub tokens : List Token
  pub mode : Mode

abbrev pub scan : List Bracket → List Token → Mode → Scan
scan ks ts m = record { stack = ks; tokens = ts; mode = m }

abbrev pub is_same : Bracket → Bracket → Bool
is_same Round Round = true
is_same Square Square = true
is_same _ _ = false

-- a value begins
abbrev pub begin : List Bracket → List Token → ℕ → Class → Option Scan
begin ks ts p (Digit zero) = Some (scan ks ts (Zero p))
begin ks ts p (Opens b) = Some (scan (b ∷ ks) (ts ++ Open p b ∷ []) First)
begin ks ts p _ = None

-- the innermost bracket closes
abbrev pub close : List Bracket → List Token → Bracket → Option Scan
close [] ts b = None
close (k ∷ ks) ts b = if is_same k b then (Some (scan ks (ts ++ Close ∷ []) After)) else None

-- behind a value
abbrev pub follow : List Bracket → List Token → Class → Option Scan
follow [] ts c = None
follow (k ∷ ks) ts Space = Some (scan (k ∷ ks) ts After)
follow (k ∷ ks) ts Comma = Some (scan (k ∷ ks) ts Next)
follow (k ∷ ks) ts (Closes b) = close (k ∷ ks) ts b
follow (k ∷ ks) ts _ = None

-- behind an opening bracket
abbrev pub first : List Bracket → List Token → ℕ → Class → Option Scan
first ks ts p Space = Some (scan ks ts First)
first ks ts p (Closes b) = close ks ts b
first ks ts p c = begin ks ts p c

-- behind a comma
abbrev pub next : List Bracket → List Token → ℕ → Class → Option Scan
next ks ts p Space = Some (scan ks ts Next)
next ks ts p c = begin ks ts p c

-- in a number of `n` digits so far
abbrev pub digits : List Bracket → List Token → ℕ → ℕ → ℕ → Class → Option Scan
digits ks ts at n v (Digit d) = if nat_lt n 32 then (Some (scan ks ts (Digits at (n + 1) (v * 16 + d)))) else None
digits ks ts at n v c = follow ks (ts ++ Number at v ∷ []) c

abbrev pub step_in : Mode → List Bracket → List Token → ℕ → Class → Option Scan
step_in Start ks ts p c = begin ks ts p c
step_in First ks ts p c = first ks ts p c
step_in Next ks ts p c = next ks ts p c
step_in (Zero at) ks ts p Ex = Some (scan ks ts (Hex at))
step_in (Zero at) ks ts p _ = None
step_in (Hex at) ks ts p (Digit d) = Some (scan ks ts (Digits at 1 d))
step_in (Hex at) ks ts p _ = None
step_in (Digits at n v) ks ts p c = digits ks ts at n v c
step_in After ks ts p c = follow ks ts c

-- the byte at the position `p`, or nothing where no value text goes on so
abbrev pub step : Scan → ℕ → Class → Option Scan
step s p c = step_in s.mode s.stack s.tokens p c

abbrev pub then_run : (Scan → Option Scan) → Option Scan → Option Scan
then_run f None = None
then_run f (Some s) = f s

-- the bytes from the position `p` on
abbrev pub run : Scan → ℕ → List ℕ → Option Scan
run s p [] = Some s
run s p (b ∷ bs) = then_run (λ t. run t (p + 1) bs) (step s p (class_of b))

abbrev pub ended_in : Mode → List Bracket → List Token → Option (List Token)
ended_in After [] ts = Some ts
ended_in (Digits at n v) [] ts = Some (ts ++ Number at v ∷ [])
ended_in _ ks ts = None

-- the numbers and brackets, where the text may end here
abbrev pub ended : Scan → Option (List Token)
ended s = ended_in s.mode s.stack s.tokens

abbrev pub started : Scan
started = scan [] [] Start
