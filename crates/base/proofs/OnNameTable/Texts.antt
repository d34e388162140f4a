-- Equality of texts.
use Rattle.std.proofs.Common.{◌≡◌, ℕ, List, [], ◌∷◌, ◌==◌, Bool, true, false, ◌&&◌, Option, Some, None, refl, ap, ◌∙◌, arith}
use Rattle.std.proofs.lemmas.Bool.Decides.{nat_tests}
use Rattle.std.specs.Prelude.{if◌then◌else◌, is_some}
use Rattle.std.proofs.lemmas.Slice.Eq.{bytes_eq-Decides}
use Rattle.std.specs.Str.{bytes_eq}
use Rattle.base.specs.NameTable.Found.{or_else}

same_number : (x y : ℕ) → (x == y) ≡ (y == x)
same_number x y = grind (arith, nat_tests)

pub bytes_eq-sym : (a b : List ℕ) → bytes_eq a b ≡ bytes_eq b a
bytes_eq-sym [] [] = refl
bytes_eq-sym [] (y ∷ b) = refl
bytes_eq-sym (x ∷ a) [] = refl
bytes_eq-sym (x ∷ a) (y ∷ b) = ap (λ c. c && bytes_eq a b) (same_number x y) ∙ ap (λ c. (y == x) && c) (bytes_eq-sym a b)

pub or_none : {X : Type 0} (o : Option X) → o ≡ or_else o None
or_none None = refl
or_none (Some x) = refl

no_value : {X : Type 0} (o : Option X) (v : X) → is_some o ≡ true → o ≡ or_else o (Some v)
no_value None v h = absurd (cc)
no_value (Some x) v h = refl

-- a name that is there stays
pub stays : {X : Type 0} (look : List ℕ → Option X) (name : List ℕ) (v : X) → is_some (look name) ≡ true → (n : List ℕ) → look n ≡ or_else (look n) (if bytes_eq n name then Some v else None)
stays look name v h n = stays_case (bytes_eq n name) refl
  where
    stays_case : (b : Bool) → bytes_eq n name ≡ b → look n ≡ or_else (look n) (if b then Some v else None)
    stays_case true e = let same : n ≡ name = (bytes_eq-Decides n name).0 e in no_value (look n) v (ap (λ x. is_some (look x)) same ∙ h)
    stays_case false e = or_none (look n)

new_value : {X : Type 0} (o : Option X) (v : X) → is_some o ≡ false → Some v ≡ or_else o (Some v)
new_value None v h = refl
new_value (Some x) v h = absurd (cc)

-- a name that isn't there is put
pub comes : {X : Type 0} (look look' : List ℕ → Option X) (name : List ℕ) (v : X) → is_some (look name) ≡ false → ((n : List ℕ) → look' n ≡ (if bytes_eq n name then Some v else look n))
    → (n : List ℕ) → look' n ≡ or_else (look n) (if bytes_eq n name then Some v else None)
comes look look' name v h puts n = puts n ∙ comes_case (bytes_eq n name) refl
  where
    comes_case : (b : Bool) → bytes_eq n name ≡ b → (if b then Some v else look n) ≡ or_else (look n) (if b then Some v else None)
    comes_case true e = let same : n ≡ name = (bytes_eq-Decides n name).0 e in new_value (look n) v (ap (λ x. is_some (look x)) same ∙ h)
    comes_case false e = or_none (look n)
