-- One step of a list that is printed with `, ` between its parts.
use Rattle.std.proofs.Common.{◌≡◌, ℕ, suc, ◌+◌, ◌<◌, List, [], ◌∷◌, ◌++◌, map, drop, length, get_or, sym, ap, ◌∙◌, drop-cons, add-one, append_assoc}
use Rattle.xb_value.specs.Text.{listed}

front : {A : Type 0} (xs : List A) (i : ℕ) (x : A) → i < length xs → x ≡ get_or xs i x → x ∷ drop (i + 1) xs ≡ drop i xs
front xs i x h e = rw add-one (ap (λ u. u ∷ drop (suc i) xs) e ∙ sym (drop-cons xs i x h))

regrouped : (a b c d : List ℕ) → ((a ++ b) ++ c) ++ d ≡ a ++ (b ++ (c ++ d))
regrouped a b c d = simp append_assoc

pub listed_step : {A : Type 0} (f : A → List ℕ) (xs : List A) (i : ℕ) (x : A) (sep held one two whole : List ℕ) → i < length xs → x ≡ get_or xs i x → one ≡ held ++ sep → two ≡ one ++ f x
    → held ++ listed sep (map f (drop i xs)) ≡ whole → two ++ listed (44 ∷ 32 ∷ []) (map f (drop (i + 1) xs)) ≡ whole
listed_step f xs i x sep held one two whole h e o t w =
    ap (λ y. y ++ listed (44 ∷ 32 ∷ []) (map f (drop (i + 1) xs))) (t ∙ ap (λ y. y ++ f x) o)
    ∙ regrouped held sep (f x) (listed (44 ∷ 32 ∷ []) (map f (drop (i + 1) xs)))
    ∙ ap (λ ys. held ++ listed sep (map f ys)) (front xs i x h e)
    ∙ w
