-- The end of a list, as the top of a stack.
use Rattle.std.proofs.Common.{zero, suc, get_or, ◌≡◌, ◌≤◌, ◌<◌, leb, inl, inr, ◌+◌, ◌-◌, ℕ, List, [], ◌∷◌, ◌++◌, take, drop, length, reverse, refl, ap, sym, ◌∙◌, subst, arith}
use Rattle.std.proofs.lemmas.List.{get_or-reverse, length-drop, length-reverse, reverse-append, reverse-reverse, take-append-drop, take_all}
use Rattle.std.proofs.lemmas.Bool.{cases_Bool, leb-true, leb-false}
use Rattle.std.proofs.Math.ListN.{drop_of_length-le}
use Rattle.base.specs.Stacks.Tops.{top_or}

-- a list of two parts, the other way round
reversed_parts : {T : Type 0} (n : ℕ) (xs : List T) → reverse xs ≡ reverse (drop n xs) ++ reverse (take n xs)
reversed_parts n xs = ap reverse (sym (take-append-drop n xs)) ∙ reverse-append (take n xs) (drop n xs)

take_prefix : {T : Type 0} (a b : List T) → take (length a) (a ++ b) ≡ a
take_prefix [] b = refl
take_prefix (x ∷ xs) b = ap (λ t. x ∷ t) (take_prefix xs b)

drop_prefix : {T : Type 0} (a b : List T) → drop (length a) (a ++ b) ≡ b
drop_prefix [] b = refl
drop_prefix (x ∷ xs) b = drop_prefix xs b

-- so many from the end, where there are so many
reversed_end : {T : Type 0} (k : ℕ) (xs : List T) → k ≤ length xs → length (reverse (drop (length xs - k) xs)) ≡ k
reversed_end k xs h = omega (arith, length-reverse (drop (length xs - k) xs), length-drop (length xs - k) xs)

pub taken_is : {T : Type 0} (k : ℕ) (xs : List T) → reverse (take k (reverse xs)) ≡ drop (length xs - k) xs
taken_is {T} k xs = elim (cases_Bool (leb k (length xs))) [
  | inl fits ↦
      let count = reversed_end k xs (leb-true k (length xs) fits) in
      ap (λ (t : List T). reverse (take k t)) (reversed_parts (length xs - k) xs)
      ∙ ap (λ (m : ℕ). reverse (take m (reverse (drop (length xs - k) xs) ++ reverse (take (length xs - k) xs)))) (sym count)
      ∙ ap reverse (take_prefix (reverse (drop (length xs - k) xs)) (reverse (take (length xs - k) xs)))
      ∙ reverse-reverse (drop (length xs - k) xs)
  | inr past ↦
      let more : length xs < k = leb-false k (length xs) past in
      let none : length xs - k ≡ 0 = omega arith in
      let whole : length (reverse xs) ≤ k = omega (arith, length-reverse xs) in
      ap reverse (take_all k (reverse xs) whole) ∙ reverse-reverse xs ∙ ap (λ (m : ℕ). drop m xs) (sym none)
]

pub taken_down_is : {T : Type 0} (k : ℕ) (xs : List T) → take k (reverse xs) ≡ reverse (drop (length xs - k) xs)
taken_down_is {T} k xs = sym (reverse-reverse (take k (reverse xs))) ∙ ap reverse (taken_is k xs)

pub left_is : {T : Type 0} (k : ℕ) (xs : List T) → drop k (reverse xs) ≡ reverse (take (length xs - k) xs)
left_is {T} k xs = elim (cases_Bool (leb k (length xs))) [
  | inl fits ↦
      let count = reversed_end k xs (leb-true k (length xs) fits) in
      ap (λ (t : List T). drop k t) (reversed_parts (length xs - k) xs)
      ∙ ap (λ (m : ℕ). drop m (reverse (drop (length xs - k) xs) ++ reverse (take (length xs - k) xs))) (sym count)
      ∙ drop_prefix (reverse (drop (length xs - k) xs)) (reverse (take (length xs - k) xs))
  | inr past ↦
      let more : length xs < k = leb-false k (length xs) past in
      let none : length xs - k ≡ 0 = omega arith in
      let whole : length (reverse xs) ≤ k = omega (arith, length-reverse xs) in
      drop_of_length-le (reverse xs) whole ∙ ap (λ (m : ℕ). reverse (take m xs)) (sym none)
]

none_below : (k : ℕ) → k < 0 → ⊥
none_below k within = omega arith

-- the element so far below the top
top_at : {T : Type 0} (xs : List T) (k : ℕ) (other x : T) → k < length xs → get_or xs k x ≡ top_or other (drop k xs)
top_at [] k other x within = absurd (none_below k within)
top_at (y ∷ xs) zero other x within = refl
top_at (y ∷ xs) (suc k) other x within = top_at xs k other x (omega arith)

pub peeked_within : {T : Type 0} (xs : List T) (k : ℕ) (other x : T) → k < length xs → x ≡ get_or xs (length xs - 1 - k) x → x ≡ top_or other (drop k (reverse xs))
peeked_within xs k other x within is =
    is ∙ sym (get_or-reverse xs k x within) ∙ top_at (reverse xs) k other x (omega (arith, length-reverse xs))

pub peeked_past : {T : Type 0} (xs : List T) (k : ℕ) (other : T) → length xs ≤ k → other ≡ top_or other (drop k (reverse xs))
peeked_past {T} xs k other past =
    let whole : length (reverse xs) ≤ k = omega (arith, length-reverse xs) in
    ap (λ (t : List T). top_or other t) (sym (drop_of_length-le (reverse xs) whole))

pub cons_both : {T : Type 0} {x y : T} {xs ys : List T} → x ≡ y → xs ≡ ys → x ∷ xs ≡ y ∷ ys
cons_both first rest = λ i. first i ∷ rest i
