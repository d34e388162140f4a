-- Lists that were pushed onto a stack, the first element first.
use Rattle.std.proofs.Common.{◌≡◌, ◌∙◌, ◌+◌, ℕ, suc, List, [], ◌∷◌, ◌++◌, length, map, take, drop, reverse, ap, sym, refl, arith}
use Rattle.std.proofs.lemmas.List.{append_assoc, append-nil}
use Rattle.std.proofs.lemmas.Grind.{reverse_onto}

-- the elements of the first list pushed onto the second one
abbrev pub onto : {T : Type 0} → List T → List T → List T
onto [] ys = ys
onto (x ∷ xs) ys = onto xs (x ∷ ys)

shift_one : (n k : ℕ) → suc n + k ≡ n + suc k
shift_one n k = omega arith

dropped_past : {T U : Type 0} (f : T → U) (xs : List T) (ys : List U) (k : ℕ) → drop (length xs + k) (onto (map f xs) ys) ≡ drop k ys
dropped_past f [] ys k = ap (λ (n : ℕ). drop n ys) (none_past k)
  where
    none_past : (n : ℕ) → 0 + n ≡ n
    none_past n = omega arith
dropped_past f (x ∷ xs) ys k = ap (λ (n : ℕ). drop n (onto (map f xs) (f x ∷ ys))) (shift_one (length xs) k) ∙ dropped_past f xs (f x ∷ ys) (suc k)

taken_past : {T U : Type 0} (f : T → U) (xs : List T) (ys : List U) (k : ℕ) → reverse (take (length xs + k) (onto (map f xs) ys)) ≡ reverse (take k ys) ++ map f xs
taken_past f [] ys k = ap (λ (n : ℕ). reverse (take n ys)) (none_past k) ∙ sym (append-nil (reverse (take k ys)))
  where
    none_past : (n : ℕ) → 0 + n ≡ n
    none_past n = omega arith
taken_past f (x ∷ xs) ys k =
    ap (λ (n : ℕ). reverse (take n (onto (map f xs) (f x ∷ ys)))) (shift_one (length xs) k)
    ∙ taken_past f xs (f x ∷ ys) (suc k)
    ∙ ap (λ t. t ++ map f xs) (reverse_onto (take k ys) (f x) [])
    ∙ append_assoc (reverse (take k ys)) (f x ∷ []) (map f xs)

all_of : (n : ℕ) → n ≡ n + 0
all_of n = omega arith

-- what stands below them is left
pub dropped_by : {T U : Type 0} (f : T → U) (xs : List T) (ys : List U) → drop (length xs) (onto (map f xs) ys) ≡ ys
dropped_by f xs ys = ap (λ (n : ℕ). drop n (onto (map f xs) ys)) (all_of (length xs)) ∙ dropped_past f xs ys 0

-- and they are taken in their order
pub taken_by : {T U : Type 0} (f : T → U) (xs : List T) (ys : List U) → reverse (take (length xs) (onto (map f xs) ys)) ≡ map f xs
taken_by f xs ys = ap (λ (n : ℕ). reverse (take n (onto (map f xs) ys))) (all_of (length xs)) ∙ taken_past f xs ys 0

same_list : {T : Type 0} (xs : List T) → map (λ x. x) xs ≡ xs
same_list [] = refl
same_list (x ∷ xs) = ap (λ t. x ∷ t) (same_list xs)

pub dropped : {T : Type 0} (xs ys : List T) → drop (length xs) (onto xs ys) ≡ ys
dropped {T} xs ys = ap (λ (t : List T). drop (length xs) (onto t ys)) (sym (same_list xs)) ∙ dropped_by (λ x. x) xs ys

pub taken : {T : Type 0} (xs ys : List T) → reverse (take (length xs) (onto xs ys)) ≡ xs
taken {T} xs ys = ap (λ (t : List T). reverse (take (length xs) (onto t ys))) (sym (same_list xs)) ∙ taken_by (λ x. x) xs ys ∙ same_list xs

-- onto an empty stack
reversed_onto : {T : Type 0} (xs ys : List T) → reverse (onto xs ys) ≡ reverse ys ++ xs
reversed_onto [] ys = sym (append-nil (reverse ys))
reversed_onto (x ∷ xs) ys = reversed_onto xs (x ∷ ys) ∙ ap (λ t. t ++ xs) (reverse_onto ys x []) ∙ append_assoc (reverse ys) (x ∷ []) xs

pub reversed : {T : Type 0} (xs : List T) → reverse (onto xs []) ≡ xs
reversed xs = reversed_onto xs []
