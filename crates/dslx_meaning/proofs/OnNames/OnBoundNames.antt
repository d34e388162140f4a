-- What is bound, from the last name on.
use Rattle.std.proofs.Common.{◌≡◌, ◌-◌, ℕ, Bool, true, false, if◌then◌else◌, List, [], ◌∷◌, ◌++◌, take, drop, length, map, reverse, refl, sym, ap, ◌∙◌}
use denote.Ref.{Bor}
use Rattle.std.specs.Str.{bytes_eq}
use Rattle.std.proofs.lemmas.List.{length-drop, length-map, length-reverse, reverse-append, take-append-drop, take-map}
use Rattle.dslx_meaning.specs.Lists.{is_in}
use Rattle.dslx_meaning.specs.Names.FirstNames.{first_names}
use Rattle.dslx_meaning.proofs.Lemmas.Names.FirstNames.{drop_prefix}

abbrev pub plain : List (Bor (List ℕ)) → List (List ℕ)
plain names = map (λ (name : Bor (List ℕ)). name.now) names

-- as many as were bound
pub counted : (xs : List (Bor (List ℕ))) → length (reverse (plain xs)) ≡ length xs
counted xs = length-reverse (plain xs) ∙ length-map xs (λ (name : Bor (List ℕ)). name.now)

-- ---- whether a name is among them, in any order

in_either : (name : List ℕ) (xs ys : List (List ℕ)) → is_in name (xs ++ ys) ≡ (if is_in name xs then true else is_in name ys)
in_either name [] ys = refl
in_either name (x ∷ xs) ys = by (bytes_eq name x) (in_either name xs ys)
  where
    by : (b : Bool) → is_in name (xs ++ ys) ≡ (if is_in name xs then true else is_in name ys)
        → (if b then true else is_in name (xs ++ ys)) ≡ (if (if b then true else is_in name xs) then true else is_in name ys)
    by true e = refl
    by false e = e

-- the last of them may as well be asked first
last_first : (a b : Bool) → (if a then true else (if b then true else false)) ≡ (if b then true else a)
last_first true true = refl
last_first true false = refl
last_first false true = refl
last_first false false = refl

is_in_reverse : (name : List ℕ) (xs : List (List ℕ)) → is_in name (reverse xs) ≡ is_in name xs
is_in_reverse name [] = refl
is_in_reverse name (x ∷ xs) =
    ap (is_in name) (reverse-append (x ∷ []) xs) ∙ in_either name (reverse xs) (x ∷ []) ∙ ap (λ (b : Bool). if b then true else is_in name (x ∷ [])) (is_in_reverse name xs)
    ∙ last_first (is_in name xs) (bytes_eq name x)

pub in_any_order : (name : List ℕ) (xs : List (Bor (List ℕ))) → is_in name (plain xs) ≡ is_in name (reverse (plain xs))
in_any_order name xs = sym (is_in_reverse name (plain xs))

-- ---- the first so many

first_are : (n : ℕ) (xs : List (List ℕ)) → first_names n (reverse xs) ≡ reverse (take n xs)
first_are n xs =
    let parts : reverse xs ≡ reverse (drop n xs) ++ reverse (take n xs) = ap reverse (sym (take-append-drop n xs)) ∙ reverse-append (take n xs) (drop n xs) in
    let count : length (reverse xs) - n ≡ length (reverse (drop n xs)) = ap (λ (m : ℕ). m - n) (length-reverse xs) ∙ sym (length-drop n xs) ∙ sym (length-reverse (drop n xs)) in
    ap (λ (m : ℕ). drop m (reverse xs)) count ∙ ap (λ (ys : List (List ℕ)). drop (length (reverse (drop n xs))) ys) parts ∙ drop_prefix (reverse (drop n xs)) (reverse (take n xs))

pub cut : (n : ℕ) (xs : List (Bor (List ℕ))) → reverse (plain (take n xs)) ≡ first_names n (reverse (plain xs))
cut n xs = ap reverse (sym (take-map (λ (name : Bor (List ℕ)). name.now) n xs)) ∙ sym (first_are n (plain xs))
