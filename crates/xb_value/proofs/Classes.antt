-- Which bytes the classes have.
use Rattle.std.proofs.Common.{◌≡◌, ℕ, ◌==◌, nat_le, Bool, true, false, cond, IsTrue, refl, sym, ap, ◌∙◌, arith}
use Rattle.std.proofs.lemmas.Bool.Decides.{nat_tests}
use Rattle.xb_value.specs.declared.token.Bracket.TheVariants.{Round, Square}
use Rattle.xb_value.specs.declared.scan.Class.{Class}
use Rattle.xb_value.specs.declared.scan.Class.TheVariants.{Space, Comma, Ex, Opens, Closes, Digit, Other}
use Rattle.xb_value.specs.Form.{opening, closing}
use Rattle.std.specs.Char.{is_ascii_hexdigit, digit_value}
use Rattle.xb_value.specs.Inner.Scanner.{class_of}

-- what the class of a byte says of the byte
abbrev pub IsOf : ℕ → Class → Type 0
IsOf b Space = b ≡ 32
IsOf b Comma = b ≡ 44
IsOf b Ex = b ≡ 120
IsOf b (Opens k) = b ≡ opening k
IsOf b (Closes k) = b ≡ closing k
IsOf b (Digit d) = IsTrue (is_ascii_hexdigit b) × (d ≡ digit_value b)
IsOf b Other = Unit {0}

-- a choice by a test gives the class that the test shows, or that of the rest
chosen : (b : ℕ) (c : Class) (rest : Class) (t : Bool) → (t ≡ true → IsOf b c) → IsOf b rest → IsOf b (cond t c rest)
chosen b c rest true first later = first refl
chosen b c rest false first later = later

is_equal : (b k : ℕ) → (b == k) ≡ true → b ≡ k
is_equal b k h = grind (arith, nat_tests)

pub class_of-is : (b : ℕ) → IsOf b (class_of b)
class_of-is b =
    chosen b Space _ (b == 32) (is_equal b 32)
    (chosen b Comma _ (b == 44) (is_equal b 44)
    (chosen b Ex _ (b == 120) (is_equal b 120)
    (chosen b (Opens Round) _ (b == 40) (is_equal b 40)
    (chosen b (Opens Square) _ (b == 91) (is_equal b 91)
    (chosen b (Closes Round) _ (b == 41) (is_equal b 41)
    (chosen b (Closes Square) _ (b == 93) (is_equal b 93)
    (chosen b (Digit (digit_value b)) Other (is_ascii_hexdigit b) (λ h. (h, refl)) tt)))))))

-- a byte that is a digit is none of the others
apart : (d k : ℕ) → IsTrue (is_ascii_hexdigit d) → is_ascii_hexdigit k ≡ false → (d == k) ≡ false
apart d k h none = by_case (d == k) refl
  where
    by_case : (t : Bool) → (d == k) ≡ t → (d == k) ≡ false
    by_case false e = e
    by_case true e = let same : d ≡ k = is_equal d k e in let bad : true ≡ false = sym h ∙ ap is_ascii_hexdigit same ∙ none in absurd (cc)

pub class_of-hex : (d : ℕ) → IsTrue (is_ascii_hexdigit d) → class_of d ≡ Digit (digit_value d)
class_of-hex d h =
    rw (apart d 32 h refl, apart d 44 h refl, apart d 120 h refl, apart d 40 h refl, apart d 91 h refl, apart d 41 h refl, apart d 93 h refl)
    (rw h refl)

-- only the digit 0 has the value 0
pub zero_digit : (b : ℕ) → IsTrue (is_ascii_hexdigit b) → 0 ≡ digit_value b → b ≡ 48
zero_digit b h z =
    by_case (nat_le b 57) refl (nat_le b 70) refl
  where
    by_case : (s : Bool) → nat_le b 57 ≡ s → (t : Bool) → nat_le b 70 ≡ t → b ≡ 48
    by_case true e t f = grind (arith, nat_tests, h, z, e)
    by_case false e true f = grind (arith, nat_tests, h, z, e, f)
    by_case false e false f = grind (arith, nat_tests, h, z, e, f)
