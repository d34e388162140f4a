-- What is bound, from the last name on.
use Rattle.std.proofs.Common.{◌≡◌, ◌<◌, ◌≤◌, ◌+◌, ◌-◌, ℕ, suc, Bool, true, false, List, [], ◌∷◌, ◌++◌, Option, Some, None, take, drop, length, map, reverse, get_or, leb, slice_get, inl, inr, refl, sym, ap, ◌∙◌, arith}
use Rattle.std.specs.Prelude.{is_some, if◌then◌else◌}
use Rattle.std.specs.Option.{option_map}
use Rattle.std.specs.Str.{bytes_eq}
use Rattle.std.proofs.Math.ListN.{get_or-map}
use Rattle.std.proofs.Math.Seq.{drop-cons}
use Rattle.std.proofs.lemmas.Bool.{cases_Bool, leb-true, leb-false}
use Rattle.std.proofs.lemmas.Option.{slice_get-map}
use Rattle.std.proofs.lemmas.List.{length-drop, length-map, length-reverse, map-append, reverse-append, reverse-reverse, take-append-drop, take_all, take-map, get_or-reverse}
use Rattle.dslx_meaning.specs.Lists.{is_in}
use Rattle.dslx_check_facts.specs.Bound.{bound_of, bound_in, bound_names}
use Rattle.dslx_check_facts.specs.declared.bindings.Binding.{Binding}

-- as many as were bound
pub counted : {T : Type 0} (xs : List (Binding T)) → length (reverse (map bound_of xs)) ≡ length xs
counted xs = length-reverse (map bound_of xs) ∙ length-map xs bound_of

-- names that are bound behind others
pub joined : {T : Type 0} (xs ys : List (Binding T)) → reverse (map bound_of (xs ++ ys)) ≡ reverse (map bound_of ys) ++ reverse (map bound_of xs)
joined xs ys = ap reverse (map-append bound_of xs ys) ∙ reverse-append (map bound_of xs) (map bound_of ys)

drop_prefix : {A : Type 0} (a b : List A) → drop (length a) (a ++ b) ≡ b
drop_prefix [] b = refl
drop_prefix (x ∷ xs) b = drop_prefix xs b

kept_of : {A : Type 0} (k : ℕ) (xs : List A) → reverse (take k xs) ≡ drop (length (reverse xs) - k) (reverse xs)
kept_of {A} k xs = elim (cases_Bool (leb k (length xs))) [
  | inl fits ↦
      let within : k ≤ length xs = leb-true k (length xs) fits in
      let count : length (reverse (drop k xs)) ≡ length (reverse xs) - k = omega (arith, length-reverse (drop k xs), length-drop k xs, length-reverse xs) in
      sym (drop_prefix (reverse (drop k xs)) (reverse (take k xs)))
      ∙ ap (λ (t : List A). drop (length (reverse (drop k xs))) t) (sym (ap reverse (sym (take-append-drop k xs)) ∙ reverse-append (take k xs) (drop k xs)))
      ∙ ap (λ (m : ℕ). drop m (reverse xs)) count
  | inr past ↦
      let more : length xs < k = leb-false k (length xs) past in
      let none : length (reverse xs) - k ≡ 0 = omega (arith, length-reverse xs) in
      ap reverse (take_all k xs (omega arith)) ∙ ap (λ (m : ℕ). drop m (reverse xs)) (sym none)
]

-- the first names are kept
pub kept : {T : Type 0} (k : ℕ) (xs : List (Binding T)) → reverse (map bound_of (take k xs)) ≡ drop (length (reverse (map bound_of xs)) - k) (reverse (map bound_of xs))
kept k xs = ap reverse (sym (take-map bound_of k xs)) ∙ kept_of k (map bound_of xs)

-- the one of a place, from the end
from_end : {T : Type 0} (xs : List (Binding T)) (i m : ℕ) (b : Binding T) → i < length xs → m ≡ length xs - 1 - i → b ≡ get_or xs m b
    → drop i (reverse (map bound_of xs)) ≡ bound_of b ∷ drop (suc i) (reverse (map bound_of xs))
from_end {T} xs i m b within at is =
    let ys : List (List ℕ × T) = map bound_of xs in
    let count : length ys ≡ length xs = length-map xs bound_of in
    let inside : i < length (reverse ys) = omega (arith, length-reverse ys) in
    let there : i < length ys = omega arith in
    let same : length ys - 1 - i ≡ m = omega arith in
    drop-cons (reverse ys) i (bound_of b) inside
    ∙ ap (λ (g : List ℕ × T). g ∷ drop (suc i) (reverse ys))
    (get_or-reverse ys i (bound_of b) there ∙ ap (λ (j : ℕ). get_or ys j (bound_of b)) same ∙ get_or-map bound_of xs m b ∙ ap bound_of (sym is))

pub found_here : {T : Type 0} (name : List ℕ) (xs : List (Binding T)) (i m : ℕ) (b : Binding T) → i < length xs → m ≡ length xs - 1 - i → b ≡ get_or xs m b
    → bytes_eq name b.name.now ≡ true → bound_in name (drop i (reverse (map bound_of xs))) ≡ Some b.value
found_here name xs i m b within at is same = let e = from_end xs i m b within at is in rw (e, same) refl

pub passed_here : {T : Type 0} (name : List ℕ) (xs : List (Binding T)) (i m : ℕ) (b : Binding T) → i < length xs → m ≡ length xs - 1 - i → b ≡ get_or xs m b
    → bytes_eq name b.name.now ≡ false → bound_in name (drop i (reverse (map bound_of xs))) ≡ bound_in name (drop (i + 1) (reverse (map bound_of xs)))
passed_here name xs i m b within at is other =
    let e = from_end xs i m b within at is in
    let next : suc i ≡ i + 1 = omega arith in
    rw (e, other) (ap (λ (j : ℕ). bound_in name (drop j (reverse (map bound_of xs)))) next)

-- ---- by places from the first name on

pub placed : {T : Type 0} (xs slice : List (Binding T)) (bs : List (List ℕ × T)) (at : ℕ) (found : Option (Binding T)) → reverse (map bound_of xs) ≡ bs → slice ≡ xs → found ≡ slice_get slice at
    → option_map bound_of found ≡ slice_get (reverse bs) at
placed {T} xs slice bs at found view same e =
    ap (option_map bound_of) (e ∙ ap (λ (l : List (Binding T)). slice_get l at) same)
    ∙ sym (slice_get-map bound_of xs at)
    ∙ ap (λ (l : List (List ℕ × T)). slice_get l at) (sym (reverse-reverse (map bound_of xs)) ∙ ap reverse view)

-- ---- whether a name is bound

by_test : {T : Type 0} (b : Bool) (found : Option T) (x : T) (rest : Bool) → is_some found ≡ rest → is_some (if b then Some x else found) ≡ (if b then true else rest)
by_test true found x rest same = refl
by_test false found x rest same = same

pub bound_where_found : {T : Type 0} (name : List ℕ) (bs : List (List ℕ × T)) → is_some (bound_in name bs) ≡ is_in name (bound_names bs)
bound_where_found name [] = refl
bound_where_found name (b ∷ bs) = by_test (bytes_eq name b.0) (bound_in name bs) b.1 (is_in name (bound_names bs)) (bound_where_found name bs)

pub is_bound : {T : Type 0} (name : List ℕ) (bs : List (List ℕ × T)) (x : T) → bound_in name bs ≡ Some x → true ≡ is_in name (bound_names bs)
is_bound name bs x found = sym (ap is_some found) ∙ bound_where_found name bs

pub is_not_bound : {T : Type 0} (name : List ℕ) (bs : List (List ℕ × T)) → bound_in name bs ≡ None → false ≡ is_in name (bound_names bs)
is_not_bound name bs none = sym (ap is_some none) ∙ bound_where_found name bs
