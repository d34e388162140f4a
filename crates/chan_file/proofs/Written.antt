-- Lines that are written one at a time.
use Rattle.std.proofs.Common.{◌≡◌, ℕ, zero, suc, Some, ◌+◌, ◌<◌, ◌≤◌, List, [], ◌∷◌, ◌++◌, length, drop, get_or, append_assoc, append-nil, refl, sym, ap, ap₂, ◌∙◌, arith, min}
use Rattle.std.specs.Prelude.{flat_map, slice_get}
use Rattle.std.proofs.lemmas.Option.{slice_get-get_or}
use Rattle.std.proofs.lemmas.List.{drop_more}
use Rattle.chan_file.specs.OutcomeText.{lines_by}

-- one line more
pub line_more : {A B : Type 0} (f : A → B → List ℕ) (xs : List A) (ys : List B) (i : ℕ) (x : A) (y : B) (before after all : List ℕ) → i < length xs → i < length ys
    → x ≡ get_or xs i x → y ≡ get_or ys i y → before ++ lines_by f (drop i xs) (drop i ys) ≡ all → after ≡ before ++ f x y
    → after ++ lines_by f (drop (i + 1) xs) (drop (i + 1) ys) ≡ all
line_more f xs ys i x y before after all h k x_is y_is so_far more =
    let rest = lines_by f (drop (i + 1) xs) (drop (i + 1) ys) in
    let first = drop_more xs i x h ∙ ap (λ z. z ∷ drop (i + 1) xs) (sym x_is) in
    let second = drop_more ys i y k ∙ ap (λ z. z ∷ drop (i + 1) ys) (sym y_is) in
    ap (λ t. t ++ rest) more ∙ append_assoc before (f x y) rest ∙ ap (λ t. before ++ t) (sym (ap₂ (lines_by f) first second)) ∙ so_far

none_left : {A B : Type 0} (f : A → B → List ℕ) (xs : List A) → lines_by f xs [] ≡ []
none_left f [] = refl
none_left f (x ∷ xs) = refl

over : {A B : Type 0} (f : A → B → List ℕ) (xs : List A) (ys : List B) (i : ℕ) → min (length xs) (length ys) ≤ i → lines_by f (drop i xs) (drop i ys) ≡ []
over f [] ys zero h = refl
over f (x ∷ xs) [] zero h = refl
over f (x ∷ xs) (y ∷ ys) zero h = absurd (omega arith)
over f [] ys (suc i) h = refl
over f (x ∷ xs) [] (suc i) h = none_left f (drop i xs)
over f (x ∷ xs) (y ∷ ys) (suc i) h = over f xs ys i (omega arith)

pub lines_done : {A B : Type 0} (f : A → B → List ℕ) (xs : List A) (ys : List B) (i : ℕ) (before all : List ℕ) → min (length xs) (length ys) ≤ i
    → before ++ lines_by f (drop i xs) (drop i ys) ≡ all → before ≡ all
lines_done f xs ys i before all h so_far = sym (append-nil before) ∙ ap (λ t. before ++ t) (sym (over f xs ys i h)) ∙ so_far

-- an element that was read stands at its place
pub read_there : {A : Type 0} (xs : List A) (i : ℕ) (x : A) → i < length xs → x ≡ get_or xs i x → slice_get xs i ≡ Some x
read_there xs i x h is = slice_get-get_or xs i x h ∙ ap Some (sym is)

-- one word more
pub word_more : {A : Type 0} (f : A → List ℕ) (xs : List A) (i : ℕ) (x : A) (before after all : List ℕ) → i < length xs → x ≡ get_or xs i x
    → before ++ flat_map f (drop i xs) ≡ all → after ≡ before ++ f x → after ++ flat_map f (drop (i + 1) xs) ≡ all
word_more f xs i x before after all h is so_far more =
    let rest = flat_map f (drop (i + 1) xs) in
    let first = drop_more xs i x h ∙ ap (λ z. z ∷ drop (i + 1) xs) (sym is) in
    ap (λ t. t ++ rest) more ∙ append_assoc before (f x) rest ∙ ap (λ t. before ++ t) (sym (ap (flat_map f) first)) ∙ so_far
