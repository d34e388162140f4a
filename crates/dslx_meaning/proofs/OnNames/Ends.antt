-- What is bound, from the last name on.
use Rattle.std.proofs.Common.{◌≡◌, ◌<◌, ◌≤◌, ◌+◌, ◌-◌, ℕ, suc, true, false, List, [], ◌∷◌, ◌++◌, Some, take, drop, length, map, reverse, get_or, leb, inl, inr, refl, sym, ap, ◌∙◌, arith}
use Rattle.std.specs.Str.{bytes_eq}
use Rattle.std.proofs.Math.ListN.{drop_of_length-le, get_or-map}
use Rattle.std.proofs.Math.Seq.{drop-cons}
use Rattle.std.proofs.lemmas.Bool.{cases_Bool, leb-true, leb-false}
use Rattle.std.proofs.lemmas.List.{length-drop, length-map, length-reverse, map-append, reverse-append, take-append-drop, take-map, get_or-reverse}
use Rattle.dslx_meaning.specs.Environment.{Given, given_in}
use Rattle.dslx_meaning.specs.Names.Bound.{given}
use Rattle.dslx_meaning.specs.declared.names.scope.Binding.{Binding}
use Rattle.dslx_meaning.proofs.Lemmas.Names.FirstNames.{drop_prefix}

left_is : {T : Type 0} (k : ℕ) (xs : List T) → drop k (reverse xs) ≡ reverse (take (length xs - k) xs)
left_is {T} k xs = elim (cases_Bool (leb k (length xs))) [
  | inl fits ↦
      let within : k ≤ length xs = leb-true k (length xs) fits in
      let count : length (reverse (drop (length xs - k) xs)) ≡ k = omega (arith, length-reverse (drop (length xs - k) xs), length-drop (length xs - k) xs) in
      ap (λ (t : List T). drop k t) (ap reverse (sym (take-append-drop (length xs - k) xs)) ∙ reverse-append (take (length xs - k) xs) (drop (length xs - k) xs))
      ∙ ap (λ (m : ℕ). drop m (reverse (drop (length xs - k) xs) ++ reverse (take (length xs - k) xs))) (sym count)
      ∙ drop_prefix (reverse (drop (length xs - k) xs)) (reverse (take (length xs - k) xs))
  | inr past ↦
      let more : length xs < k = leb-false k (length xs) past in
      let none : length xs - k ≡ 0 = omega arith in
      let whole : length (reverse xs) ≤ k = omega (arith, length-reverse xs) in
      drop_of_length-le (reverse xs) whole ∙ ap (λ (m : ℕ). reverse (take m xs)) (sym none)
]

-- the last names are forgotten
pub forgotten : (k : ℕ) (xs : List Binding) → reverse (map given (take (length xs - k) xs)) ≡ drop k (reverse (map given xs))
forgotten k xs =
    ap reverse (sym (take-map given (length xs - k) xs))
    ∙ ap (λ (m : ℕ). reverse (take (m - k) (map given xs))) (sym (length-map xs given))
    ∙ sym (left_is k (map given xs))

-- the one of a place, from the end
from_end : (xs : List Binding) (i m : ℕ) (b : Binding) → i < length xs → m ≡ length xs - 1 - i → b ≡ get_or xs m b
    → drop i (reverse (map given xs)) ≡ given b ∷ drop (suc i) (reverse (map given xs))
from_end xs i m b within at is =
    let ys = map given xs in
    let count : length ys ≡ length xs = length-map xs given in
    let inside : i < length (reverse ys) = omega (arith, length-reverse ys) in
    let there : i < length ys = omega arith in
    let same : length ys - 1 - i ≡ m = omega arith in
    drop-cons (reverse ys) i (given b) inside
    ∙ ap (λ (g : Given). g ∷ drop (suc i) (reverse ys))
    (get_or-reverse ys i (given b) there ∙ ap (λ (j : ℕ). get_or ys j (given b)) same ∙ get_or-map given xs m b ∙ ap given (sym is))

pub found_here : (name : List ℕ) (xs : List Binding) (i m : ℕ) (b : Binding) → i < length xs → m ≡ length xs - 1 - i → b ≡ get_or xs m b → bytes_eq name b.name.now ≡ true
    → given_in name (drop i (reverse (map given xs))) ≡ Some b.value
found_here name xs i m b within at is same = let e = from_end xs i m b within at is in rw (e, same) refl

pub passed_here : (name : List ℕ) (xs : List Binding) (i m : ℕ) (b : Binding) → i < length xs → m ≡ length xs - 1 - i → b ≡ get_or xs m b → bytes_eq name b.name.now ≡ false
    → given_in name (drop i (reverse (map given xs))) ≡ given_in name (drop (i + 1) (reverse (map given xs)))
passed_here name xs i m b within at is other =
    let e = from_end xs i m b within at is in
    let next : suc i ≡ i + 1 = omega arith in
    rw (e, other) (ap (λ (j : ℕ). given_in name (drop j (reverse (map given xs)))) next)

-- as many as were bound
pub counted : (xs : List Binding) → length (reverse (map given xs)) ≡ length xs
counted xs = length-reverse (map given xs) ∙ length-map xs given

-- names that are bound behind others
pub joined : (xs ys : List Binding) → reverse (map given (xs ++ ys)) ≡ reverse (map given ys) ++ reverse (map given xs)
joined xs ys = ap reverse (map-append given xs ys) ∙ reverse-append (map given xs) (map given ys)
