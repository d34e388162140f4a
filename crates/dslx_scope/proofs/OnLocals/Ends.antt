-- What is bound, from the last name on.
use Rattle.std.proofs.Common.{◌≡◌, ◌<◌, ◌≤◌, ◌+◌, ◌-◌, ℕ, suc, Bool, true, false, List, [], ◌∷◌, ◌++◌, Option, Some, None, take, drop, length, reverse, get_or, leb, inl, inr, refl, sym, ap, ◌∙◌, arith}
use Rattle.std.specs.Prelude.{is_some, if◌then◌else◌}
use Rattle.std.specs.Str.{bytes_eq}
use Rattle.std.proofs.Math.Seq.{drop-cons}
use Rattle.std.proofs.lemmas.Bool.{cases_Bool, leb-true, leb-false}
use Rattle.std.proofs.lemmas.List.{length-drop, length-reverse, reverse-append, take-append-drop, take_all, get_or-reverse}
use Rattle.dslx_meaning.specs.Lists.{is_in}
use Rattle.dslx_core.specs.Lowering.CoreScopes.{BoundSlot, local_in, slot_names}

-- as many as were bound
pub counted : (xs : List BoundSlot) → length (reverse xs) ≡ length xs
counted xs = length-reverse xs

-- names that are bound behind others
pub joined : (xs ys : List BoundSlot) → reverse (xs ++ ys) ≡ reverse ys ++ reverse xs
joined xs ys = reverse-append xs ys

drop_prefix : {T : Type 0} (a b : List T) → drop (length a) (a ++ b) ≡ b
drop_prefix [] b = refl
drop_prefix (x ∷ xs) b = drop_prefix xs b

-- the first names are kept
pub kept : (k : ℕ) (xs : List BoundSlot) → reverse (take k xs) ≡ drop (length (reverse xs) - k) (reverse xs)
kept k xs = elim (cases_Bool (leb k (length xs))) [
  | inl fits ↦
      let within : k ≤ length xs = leb-true k (length xs) fits in
      let count : length (reverse (drop k xs)) ≡ length (reverse xs) - k = omega (arith, length-reverse (drop k xs), length-drop k xs, length-reverse xs) in
      sym (drop_prefix (reverse (drop k xs)) (reverse (take k xs)))
      ∙ ap (λ (t : List BoundSlot). drop (length (reverse (drop k xs))) t) (sym (ap reverse (sym (take-append-drop k xs)) ∙ reverse-append (take k xs) (drop k xs)))
      ∙ ap (λ (m : ℕ). drop m (reverse xs)) count
  | inr past ↦
      let more : length xs < k = leb-false k (length xs) past in
      let none : length (reverse xs) - k ≡ 0 = omega (arith, length-reverse xs) in
      ap reverse (take_all k xs (omega arith)) ∙ ap (λ (m : ℕ). drop m (reverse xs)) (sym none)
]

-- the one of a place, from the end
from_end : (xs : List BoundSlot) (i m : ℕ) (l : BoundSlot) → i < length xs → m ≡ length xs - 1 - i → l ≡ get_or xs m l → drop i (reverse xs) ≡ l ∷ drop (suc i) (reverse xs)
from_end xs i m l within at is =
    let inside : i < length (reverse xs) = omega (arith, length-reverse xs) in
    drop-cons (reverse xs) i l inside
    ∙ ap (λ (g : BoundSlot). g ∷ drop (suc i) (reverse xs)) (get_or-reverse xs i l within ∙ ap (λ (j : ℕ). get_or xs j l) (sym at) ∙ sym is)

pub found_here : (name : List ℕ) (xs : List BoundSlot) (i m : ℕ) (l : BoundSlot) → i < length xs → m ≡ length xs - 1 - i → l ≡ get_or xs m l → bytes_eq name l.name ≡ true
    → local_in name (drop i (reverse xs)) ≡ Some l
found_here name xs i m l within at is same = let e = from_end xs i m l within at is in rw (e, same) refl

pub passed_here : (name : List ℕ) (xs : List BoundSlot) (i m : ℕ) (l : BoundSlot) → i < length xs → m ≡ length xs - 1 - i → l ≡ get_or xs m l → bytes_eq name l.name ≡ false
    → local_in name (drop i (reverse xs)) ≡ local_in name (drop (i + 1) (reverse xs))
passed_here name xs i m l within at is other =
    let e = from_end xs i m l within at is in
    let next : suc i ≡ i + 1 = omega arith in
    rw (e, other) (ap (λ (j : ℕ). local_in name (drop j (reverse xs))) next)

-- ---- whether a name is bound

by_test : (b : Bool) (found : Option BoundSlot) (l : BoundSlot) (rest : Bool) → is_some found ≡ rest → is_some (if b then Some l else found) ≡ (if b then true else rest)
by_test true found l rest same = refl
by_test false found l rest same = same

bound_where_found : (name : List ℕ) (xs : List BoundSlot) → is_some (local_in name xs) ≡ is_in name (slot_names xs)
bound_where_found name [] = refl
bound_where_found name (l ∷ ls) = by_test (bytes_eq name l.name) (local_in name ls) l (is_in name (slot_names ls)) (bound_where_found name ls)

pub is_bound : (name : List ℕ) (xs : List BoundSlot) (l : BoundSlot) → local_in name xs ≡ Some l → true ≡ is_in name (slot_names xs)
is_bound name xs l found = sym (ap is_some found) ∙ bound_where_found name xs

pub is_not_bound : (name : List ℕ) (xs : List BoundSlot) → local_in name xs ≡ None → false ≡ is_in name (slot_names xs)
is_not_bound name xs none = sym (ap is_some none) ∙ bound_where_found name xs
