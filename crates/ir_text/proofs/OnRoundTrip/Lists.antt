-- Stacks: a list that is pushed element by element, and taken off again.
use Rattle.std.proofs.Common.{◌≡◌, ◌<◌, ℕ, suc, ◌+◌, ◌^◌, min, List, [], ◌∷◌, ◌++◌, take, drop, length, reverse, refl, sym, ap, ◌∙◌, arith, append_assoc}
use Rattle.std.proofs.lemmas.List.{drop_at, length-reverse, reverse-append, reverse-reverse, take_at}

-- the stack with these pushed on it, the first one first
abbrev pub onto : {T : Type 0} → List T → List T → List T
onto [] ys = ys
onto (x ∷ xs) ys = onto xs (x ∷ ys)

reverse_more : {T : Type 0} (x : T) (xs : List T) → reverse (x ∷ xs) ≡ reverse xs ++ x ∷ []
reverse_more x xs = reverse-append (x ∷ []) xs

pub onto_is : {T : Type 0} (xs ys : List T) → onto xs ys ≡ reverse xs ++ ys
onto_is [] ys = refl
onto_is (x ∷ xs) ys = onto_is xs (x ∷ ys) ∙ sym (append_assoc (reverse xs) (x ∷ []) ys) ∙ ap (λ l. l ++ ys) (sym (reverse_more x xs))

-- what was pushed is on top
pub taken : {T : Type 0} (xs ys : List T) → reverse (take (length xs) (onto xs ys)) ≡ xs
taken xs ys =
    ap (λ l. reverse (take (length xs) l)) (onto_is xs ys)
    ∙ ap reverse (take_at (reverse xs) ys (length xs) (length-reverse xs))
    ∙ reverse-reverse xs

pub left_over : {T : Type 0} (xs ys : List T) → drop (length xs) (onto xs ys) ≡ ys
left_over xs ys = ap (λ l. drop (length xs) l) (onto_is xs ys) ∙ drop_at (reverse xs) ys (length xs) (length-reverse xs)

-- all that was pushed on nothing
pub all_taken : {T : Type 0} (xs : List T) → reverse (onto xs []) ≡ xs
all_taken xs = ap reverse (onto_is xs [] ∙ append_nothing (reverse xs)) ∙ reverse-reverse xs
  where
    append_nothing : {T : Type 0} (l : List T) → l ++ [] ≡ l
    append_nothing [] = refl
    append_nothing (x ∷ l) = ap (λ t. x ∷ t) (append_nothing l)

-- pushed the other way round
pub onto_twice : {T : Type 0} (xs ms ys : List T) → onto (onto xs ms) ys ≡ onto ms (xs ++ ys)
onto_twice [] ms ys = refl
onto_twice (x ∷ xs) ms ys = onto_twice xs (x ∷ ms) ys

pub length_onto : {T : Type 0} (xs ys : List T) → length (onto xs ys) ≡ length xs + length ys
length_onto [] ys = omega arith
length_onto (x ∷ xs) ys = let more = length_onto xs (x ∷ ys) in omega (arith, more)

-- a count goes on to the most that memory holds
pub one_more : (n : ℕ) → suc n < 2 ^ 64 → min (n + 1) 18446744073709551615 ≡ suc n
one_more n h = omega arith
