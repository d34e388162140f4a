-- A number that is read has at most 4 bits a digit.
use Rattle.std.proofs.Common.{◌≡◌, ℕ, zero, suc, ◌+◌, ◌*◌, ◌^◌, ◌<◌, ◌≤◌, nat_lt, List, [], ◌∷◌, ◌++◌, Bool, true, false, if◌then◌else◌, Option, Some, None, sym, ap, subst, ◌∙◌, arith}
use Rattle.std.proofs.lemmas.Nat.{pow-add}
use Rattle.std.proofs.Math.Pow.{pow_mono}
use Rattle.xb_value.specs.declared.token.Bracket.{Bracket}
use Rattle.xb_value.specs.declared.token.Token.{Token}
use Rattle.xb_value.specs.declared.token.Token.TheVariants.{Number, Close}
use Rattle.xb_value.specs.declared.scan.Class.{Class}
use Rattle.xb_value.specs.declared.scan.Class.TheVariants.{Space, Comma, Ex, Opens, Closes, Digit, Other}
use Rattle.xb_value.specs.declared.scan.Mode.{Mode}
use Rattle.xb_value.specs.declared.scan.Mode.TheVariants.{Start, First, Next, Zero, Hex, Digits, After}
use Rattle.xb_value.specs.Inner.Scanner.{Scan, scan, begin, close, follow, first, next, digits, step, step_in, is_same}
use Rattle.xb_value.specs.Inner.ScannerState.{FitsDigits, IsSmall}

-- one more digit
more_below : (n v d : ℕ) → v < 2 ^ (4 * n) → d < 16 → v * 16 + d < 2 ^ (4 * (n + 1))
more_below n v d h small =
    let offset : 4 * (n + 1) ≡ 4 * n + 4 = omega arith in
    subst (λ k. v * 16 + d < k) (sym (ap (λ k. 2 ^ k) offset ∙ pow-add 2 (4 * n) 4)) (omega arith)

-- up to 32 digits fit 128 bits
pub digits_fit : (v n d : ℕ) → v < 2 ^ (4 * n) → n < 32 → d < 16 → v * 16 + d < 2 ^ 128
digits_fit v n d h less small =
    let within : 4 * (n + 1) ≤ 128 = omega arith in
    let longer : 2 ^ (4 * (n + 1)) ≤ 2 ^ 128 = pow_mono within in
    let below : v * 16 + d < 2 ^ (4 * (n + 1)) = more_below n v d h small in
    omega arith

abbrev FitsDigitsStep : Option Scan → Type 0
FitsDigitsStep None = Unit {0}
FitsDigitsStep (Some t) = FitsDigits t.mode

begin_sound : (ks : List Bracket) (ts : List Token) (p : ℕ) (c : Class) → FitsDigitsStep (begin ks ts p c)
begin_sound ks ts p (Digit zero) = tt
begin_sound ks ts p (Digit (suc d)) = tt
begin_sound ks ts p (Opens b) = tt
begin_sound ks ts p Space = tt
begin_sound ks ts p Comma = tt
begin_sound ks ts p Ex = tt
begin_sound ks ts p (Closes b) = tt
begin_sound ks ts p Other = tt

close_sound : (ks : List Bracket) (ts : List Token) (b : Bracket) → FitsDigitsStep (close ks ts b)
close_sound [] ts b = tt
close_sound (k ∷ ks) ts b = by_case (is_same k b)
  where
    by_case : (t : Bool) → FitsDigitsStep (if t then (Some (scan ks (ts ++ Close ∷ []) After)) else None)
    by_case true = tt
    by_case false = tt

follow_sound : (ks : List Bracket) (ts : List Token) (c : Class) → FitsDigitsStep (follow ks ts c)
follow_sound [] ts c = tt
follow_sound (k ∷ ks) ts Space = tt
follow_sound (k ∷ ks) ts Comma = tt
follow_sound (k ∷ ks) ts (Closes b) = close_sound (k ∷ ks) ts b
follow_sound (k ∷ ks) ts Ex = tt
follow_sound (k ∷ ks) ts (Opens b) = tt
follow_sound (k ∷ ks) ts (Digit d) = tt
follow_sound (k ∷ ks) ts Other = tt

first_sound : (ks : List Bracket) (ts : List Token) (p : ℕ) (c : Class) → FitsDigitsStep (first ks ts p c)
first_sound ks ts p Space = tt
first_sound ks ts p (Closes b) = close_sound ks ts b
first_sound ks ts p (Digit d) = begin_sound ks ts p (Digit d)
first_sound ks ts p (Opens b) = tt
first_sound ks ts p Comma = tt
first_sound ks ts p Ex = tt
first_sound ks ts p Other = tt

next_sound : (ks : List Bracket) (ts : List Token) (p : ℕ) (c : Class) → FitsDigitsStep (next ks ts p c)
next_sound ks ts p Space = tt
next_sound ks ts p (Closes b) = tt
next_sound ks ts p (Digit d) = begin_sound ks ts p (Digit d)
next_sound ks ts p (Opens b) = tt
next_sound ks ts p Comma = tt
next_sound ks ts p Ex = tt
next_sound ks ts p Other = tt

digits_sound : (ks : List Bracket) (ts : List Token) (at n v : ℕ) (c : Class) → v < 2 ^ (4 * n) → IsSmall c → FitsDigitsStep (digits ks ts at n v c)
digits_sound ks ts at n v (Digit d) h small = by_case (nat_lt n 32)
  where
    by_case : (t : Bool) → FitsDigitsStep (if t then (Some (scan ks ts (Digits at (n + 1) (v * 16 + d)))) else None)
    by_case true = more_below n v d h small
    by_case false = tt
digits_sound ks ts at n v Space h small = follow_sound ks (ts ++ Number at v ∷ []) Space
digits_sound ks ts at n v Comma h small = follow_sound ks (ts ++ Number at v ∷ []) Comma
digits_sound ks ts at n v Ex h small = follow_sound ks (ts ++ Number at v ∷ []) Ex
digits_sound ks ts at n v (Opens b) h small = follow_sound ks (ts ++ Number at v ∷ []) (Opens b)
digits_sound ks ts at n v (Closes b) h small = follow_sound ks (ts ++ Number at v ∷ []) (Closes b)
digits_sound ks ts at n v Other h small = follow_sound ks (ts ++ Number at v ∷ []) Other

zero_sound : (ks : List Bracket) (ts : List Token) (at p : ℕ) (c : Class) → FitsDigitsStep (step_in (Zero at) ks ts p c)
zero_sound ks ts at p Ex = tt
zero_sound ks ts at p Space = tt
zero_sound ks ts at p Comma = tt
zero_sound ks ts at p (Opens b) = tt
zero_sound ks ts at p (Closes b) = tt
zero_sound ks ts at p (Digit d) = tt
zero_sound ks ts at p Other = tt

hex_sound : (ks : List Bracket) (ts : List Token) (at p : ℕ) (c : Class) → IsSmall c → FitsDigitsStep (step_in (Hex at) ks ts p c)
hex_sound ks ts at p (Digit d) small = small
hex_sound ks ts at p Ex small = tt
hex_sound ks ts at p Space small = tt
hex_sound ks ts at p Comma small = tt
hex_sound ks ts at p (Opens b) small = tt
hex_sound ks ts at p (Closes b) small = tt
hex_sound ks ts at p Other small = tt

sound_in : (m : Mode) (ks : List Bracket) (ts : List Token) (p : ℕ) (c : Class) → FitsDigits m → IsSmall c → FitsDigitsStep (step_in m ks ts p c)
sound_in Start ks ts p c h small = begin_sound ks ts p c
sound_in First ks ts p c h small = first_sound ks ts p c
sound_in Next ks ts p c h small = next_sound ks ts p c
sound_in (Zero at) ks ts p c h small = zero_sound ks ts at p c
sound_in (Hex at) ks ts p c h small = hex_sound ks ts at p c small
sound_in (Digits at n v) ks ts p c h small = digits_sound ks ts at n v c h small
sound_in After ks ts p c h small = follow_sound ks ts c

-- a step keeps it
pub step_sound : (s t : Scan) (p : ℕ) (c : Class) → FitsDigits s.mode → IsSmall c → step s p c ≡ Some t → FitsDigits t.mode
step_sound s t p c h small e = subst FitsDigitsStep e (sound_in s.mode s.stack s.tokens p c h small)
