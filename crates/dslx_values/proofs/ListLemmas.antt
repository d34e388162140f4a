-- Lists and names, as the definitions of the language use them.
use Rattle.std.proofs.Common.{◌≡◌, ℕ, zero, suc, ◌+◌, ◌-◌, List, [], ◌∷◌, ◌++◌, length, drop, slice_get, get_or, ◌<◌, true, false, Option, Some, None, refl, ap, sym, ◌∙◌, arith}
use Rattle.std.specs.Option.{option_map}
use Rattle.std.specs.Str.{bytes_eq}
use Rattle.std.proofs.Math.Seq.{drop-cons}
use Rattle.std.proofs.lemmas.List.{append_assoc}
use Rattle.dslx_meaning.specs.Lists.{index_in, last_of, repeated}

last_at : {A : Type 0} (x : A) (xs : List A) → slice_get (x ∷ xs) (length xs) ≡ last_of (x ∷ xs)
last_at x [] = refl
last_at x (y ∷ ys) = last_at y ys

-- the last of a list stands at its last place
pub last_is : {A : Type 0} (xs : List A) → slice_get xs (length xs - 1) ≡ last_of xs
last_is [] = refl
last_is (x ∷ xs) = let e : suc (length xs) - 1 ≡ length xs = omega arith in ap (slice_get (x ∷ xs)) e ∙ last_at x xs

repeated_more : {A : Type 0} (k : ℕ) (x : A) → repeated k x ++ x ∷ [] ≡ x ∷ repeated k x
repeated_more zero x = refl
repeated_more (suc k) x = ap (λ xs. x ∷ xs) (repeated_more k x)

-- one copy more
pub repeated_behind : {A : Type 0} (xs : List A) (k : ℕ) (x : A) → (xs ++ repeated k x) ++ x ∷ [] ≡ xs ++ repeated (k + 1) x
repeated_behind xs k x =
    let more : suc k ≡ k + 1 = omega arith in
    append_assoc xs (repeated k x) (x ∷ []) ∙ ap (λ ys. xs ++ ys) (repeated_more k x) ∙ ap (λ j. xs ++ repeated j x) more

parted : {A : Type 0} (xs : List A) (i : ℕ) (x : A) → i < length xs → x ≡ get_or xs i x → drop i xs ≡ x ∷ drop (i + 1) xs
parted xs i x within e =
    let later : suc i ≡ i + 1 = omega arith in
    drop-cons xs i x within ∙ ap (λ y. y ∷ drop (suc i) xs) (sym e) ∙ ap (λ j. x ∷ drop j xs) later

abbrev next : Option ℕ → Option ℕ
next None = None
next (Some k) = Some (suc k)

next_from : (i : ℕ) (o : Option ℕ) → option_map (λ k. i + k) (next o) ≡ option_map (λ k. i + 1 + k) o
next_from i None = refl
next_from i (Some k) = ap Some (omega arith)

-- a name is found where it stands
pub found_at : (name : List ℕ) (names : List (List ℕ)) (i : ℕ) (n : List ℕ) → i < length names → n ≡ get_or names i n → bytes_eq name n ≡ true →
    option_map (λ k. i + k) (index_in name (drop i names)) ≡ Some i
found_at name names i n within e b = let d = parted names i n within e in rw (d, b) (ap Some (omega arith))

-- another name is passed
pub passed_at : (name : List ℕ) (names : List (List ℕ)) (i : ℕ) (n : List ℕ) → i < length names → n ≡ get_or names i n → bytes_eq name n ≡ false →
    option_map (λ k. i + k) (index_in name (drop i names)) ≡ option_map (λ k. i + 1 + k) (index_in name (drop (i + 1) names))
passed_at name names i n within e b = let d = parted names i n within e in rw (d, b) (next_from i (index_in name (drop (i + 1) names)))
