-- Items of a list, from the last one on.
use Rattle.std.proofs.Common.{◌≡◌, ◌+◌, ◌-◌, ◌<◌, ◌≤◌, ℕ, zero, suc, List, [], ◌∷◌, drop, get_or, length, refl, sym, ap, ◌∙◌, arith}

pub at_item : {A : Type 0} (xs : List A) (i : ℕ) (x : A) → i < length xs → x ≡ get_or xs i x → drop i xs ≡ x ∷ drop (i + 1) xs
at_item [] i x h e = absurd (omega arith)
at_item (y ∷ xs) zero x h e = ap (λ z. z ∷ xs) (sym e)
at_item (y ∷ xs) (suc i) x h e =
    let f : suc i + 1 ≡ suc (i + 1) = omega arith in
    at_item xs i x (omega arith) e ∙ ap (λ (n : ℕ). x ∷ drop n (y ∷ xs)) (sym f)

-- one more from the end
pub one_before : {A : Type 0} (xs : List A) (i k : ℕ) (x : A) → k + i + 1 ≡ length xs → x ≡ get_or xs k x → drop (length xs - (i + 1)) xs ≡ x ∷ drop (length xs - i) xs
one_before xs i k x at is =
    let here : length xs - (i + 1) ≡ k = omega (arith, at) in
    let next : k + 1 ≡ length xs - i = omega (arith, at) in
    let inside : k < length xs = omega (arith, at) in
    ap (λ (n : ℕ). drop n xs) here ∙ at_item xs k x inside is ∙ ap (λ (n : ℕ). x ∷ drop n xs) next

-- none yet
pub none_left : {A : Type 0} (xs : List A) → drop (length xs - 0) xs ≡ []
none_left xs = let all : length xs - 0 ≡ length xs = omega arith in ap (λ (n : ℕ). drop n xs) all ∙ ended xs
  where
    ended : {A : Type 0} (ys : List A) → drop (length ys) ys ≡ []
    ended [] = refl
    ended (y ∷ ys) = ended ys

-- all of them
pub all_left : {A : Type 0} (xs : List A) (i : ℕ) → length xs ≤ i → drop (length xs - i) xs ≡ xs
all_left xs i past = let none : length xs - i ≡ 0 = omega (arith, past) in ap (λ (n : ℕ). drop n xs) none
