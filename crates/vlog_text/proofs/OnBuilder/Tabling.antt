-- A table of names with one name more.
use Rattle.std.proofs.Common.{◌≡◌, ℕ, suc, ◌+◌, ◌==◌, ◌&&◌, Bool, true, false, List, [], ◌∷◌, ◌++◌, length, Option, Some, None, refl, sym, ap, ◌∙◌, arith}
use Rattle.std.specs.Prelude.{if◌then◌else◌, is_some, min}
use Rattle.std.specs.Str.{bytes_eq}
use Rattle.std.proofs.lemmas.Bool.Decides.{nat_tests}
use Rattle.std.proofs.lemmas.Slice.Eq.{bytes_eq-Decides}
use Rattle.base.specs.NameTable.Found.{or_else}
use Rattle.vlog_text.specs.Builder.Parts.{index_from, undeclared}

same_number : (x y : ℕ) → (x == y) ≡ (y == x)
same_number x y = grind (arith, nat_tests)

pub bytes_eq-sym : (a b : List ℕ) → bytes_eq a b ≡ bytes_eq b a
bytes_eq-sym [] [] = refl
bytes_eq-sym [] (y ∷ b) = refl
bytes_eq-sym (x ∷ a) [] = refl
bytes_eq-sym (x ∷ a) (y ∷ b) = ap (λ c. c && bytes_eq a b) (same_number x y) ∙ ap (λ c. (y == x) && c) (bytes_eq-sym a b)

or_none : {X : Type 0} (o : Option X) → o ≡ or_else o None
or_none None = refl
or_none (Some x) = refl

no_value : {X : Type 0} (o : Option X) (v : X) → is_some o ≡ true → o ≡ or_else o (Some v)
no_value None v h = absurd (cc)
no_value (Some x) v h = refl

-- a name that is there stays
pub stays : {X : Type 0} (look : List ℕ → Option X) (name : List ℕ) (v : X) → is_some (look name) ≡ true → (n : List ℕ) → look n ≡ or_else (look n) (if bytes_eq n name then Some v else None)
stays look name v h n = stays_case (bytes_eq n name) refl
  where
    stays_case : (b : Bool) → bytes_eq n name ≡ b → look n ≡ or_else (look n) (if b then Some v else None)
    stays_case true e = let same : n ≡ name = (bytes_eq-Decides n name).0 e in no_value (look n) v (ap (λ x. is_some (look x)) same ∙ h)
    stays_case false e = or_none (look n)

new_value : {X : Type 0} (o : Option X) (v : X) → is_some o ≡ false → Some v ≡ or_else o (Some v)
new_value None v h = refl
new_value (Some x) v h = absurd (cc)

-- a name that isn't there is put
pub comes : {X : Type 0} (look look' : List ℕ → Option X) (name : List ℕ) (v : X) → is_some (look name) ≡ false → ((n : List ℕ) → look' n ≡ (if bytes_eq n name then Some v else look n))
    → (n : List ℕ) → look' n ≡ or_else (look n) (if bytes_eq n name then Some v else None)
comes look look' name v h puts n = puts n ∙ comes_case (bytes_eq n name) refl
  where
    comes_case : (b : Bool) → bytes_eq n name ≡ b → (if b then Some v else look n) ≡ or_else (look n) (if b then Some v else None)
    comes_case true e = let same : n ≡ name = (bytes_eq-Decides n name).0 e in new_value (look n) v (ap (λ x. is_some (look x)) same ∙ h)
    comes_case false e = or_none (look n)

index_behind : (i : ℕ) (names : List (List ℕ)) (name q : List ℕ)
    → index_from i (names ++ name ∷ []) q ≡ or_else (index_from i names q) (if bytes_eq q name then Some (min (i + length names) undeclared) else None)
index_behind i [] name q = go (bytes_eq q name)
  where
    none : i ≡ i + 0
    none = omega arith

    go : (b : Bool) → (if b then Some (min i undeclared) else None) ≡ (if b then Some (min (i + 0) undeclared) else None)
    go true = ap (λ k. Some (min k undeclared)) none
    go false = refl
index_behind i (n ∷ names) name q = go (bytes_eq q n) (index_behind (suc i) names name q)
  where
    same : suc i + length names ≡ i + length (n ∷ names)
    same = omega arith

    go : (b : Bool) → index_from (suc i) (names ++ name ∷ []) q ≡ or_else (index_from (suc i) names q) (if bytes_eq q name then Some (min (suc i + length names) undeclared) else None)
        → (if b then Some (min i undeclared) else index_from (suc i) (names ++ name ∷ []) q)
        ≡ or_else (if b then Some (min i undeclared) else index_from (suc i) names q) (if bytes_eq q name then Some (min (i + length (n ∷ names)) undeclared) else None)
    go true e = refl
    go false e = e ∙ ap (λ k. or_else (index_from (suc i) names q) (if bytes_eq q name then Some (min k undeclared) else None)) same

pub one_more_name : (names : List (List ℕ)) (name : List ℕ) (old new : List ℕ → Option ℕ) (place : ℕ) → ((q : List ℕ) → old q ≡ index_from 0 names q) → place ≡ min (length names) undeclared
    → ((q : List ℕ) → new q ≡ or_else (old q) (if bytes_eq q name then Some place else None)) → (q : List ℕ) → new q ≡ index_from 0 (names ++ name ∷ []) q
one_more_name names name old new place held is put q =
    let number : place ≡ min (0 + length names) undeclared = is ∙ ap (λ k. min k undeclared) (zero_more (length names)) in
    put q
    ∙ ap (λ o. or_else o (if bytes_eq q name then Some place else None)) (held q)
    ∙ ap (λ k. or_else (index_from 0 names q) (if bytes_eq q name then Some k else None)) number
    ∙ sym (index_behind 0 names name q)
  where
    zero_more : (n : ℕ) → n ≡ 0 + n
    zero_more n = omega arith
