-- Choices by a bit, and tests of numbers.
use Rattle.std.proofs.Common.{◌≡◌, ℕ, suc, ◌+◌, List, [], ◌∷◌, refl, arith, cond, true, false, Bool, eqb}
use Rattle.std.specs.Prelude.{◌||◌, ◌&&◌, not}
use Rattle.std.proofs.lemmas.Bool.Decides.{nat_tests}
use Rattle.xb_bits.specs.Word.{Word}

pub eqb-eq : (a c : ℕ) → eqb a c ≡ true → a ≡ c
eqb-eq a c h = grind (arith, nat_tests)

pub eq-eqb : (a c : ℕ) → a ≡ c → eqb a c ≡ true
eq-eqb a c h = grind (arith, nat_tests)

pub eqb-same : (c : ℕ) → eqb c c ≡ true
eqb-same c = grind (arith, nat_tests)

pub eq_apart : (i k : ℕ) → (i ≡ k → ⊥) → eqb i k ≡ false
eq_apart i k ne = grind (arith, nat_tests)

pub or_false : (x y : Bool) → x ≡ false → y ≡ false → (x || y) ≡ false
or_false x y e f = rw (e, f)

pub or_kept : (x y z : Bool) → y ≡ true → z ≡ false → (x || (y && not z)) ≡ true
or_kept true y z e f = refl
or_kept false y z e f = rw (e, f)

-- a word that isn't there, in front of none
pub if_none : (t : Bool) (w : Word) (xs : List Word) → (t ≡ true → ⊥) → xs ≡ [] → cond t (w ∷ xs) xs ≡ []
if_none true w xs h e = absurd (h refl)
if_none false w xs h e = e

-- one more, perhaps, in a sum
pub if_plus : (t : Bool) (m n k : ℕ) → m ≡ n + k → cond t (suc m) m ≡ cond t (suc n) n + k
if_plus true m n k e = omega arith
if_plus false m n k e = e
