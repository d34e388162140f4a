-- A list has one first fault at most.
use Rattle.std.proofs.Common.{◌≡◌, ℕ, ◌+◌, ◌<◌, ◌≤◌, List, ◌++◌, take, drop, sym, ap, ◌∙◌, subst, arith, append_assoc}
use Rattle.std.proofs.lemmas.List.{take-take, take-append-drop}
use Rattle.base.specs.Lists.Fault.{IsViablePrefix, IsFirstFault}

-- what begins a list of the language, its fronts begin too
pub IsViablePrefix-take : {A : Type 0} (L : List A → Type 0) (xs : List A) (m n : ℕ) → m ≤ n → IsViablePrefix L (take n xs) → IsViablePrefix L (take m xs)
IsViablePrefix-take L xs m n le b =
    let cut : take m (take n xs) ++ drop m (take n xs) ≡ take n xs = take-append-drop m (take n xs) in
    let front : take m xs ++ drop m (take n xs) ≡ take n xs = ap (λ f. f ++ drop m (take n xs)) (sym (take-take m n xs le)) ∙ cut in
    let all : take n xs ++ b.0 ≡ take m xs ++ (drop m (take n xs) ++ b.0) =
    ap (λ f. f ++ b.0) (sym front) ∙ append_assoc (take m xs) (drop m (take n xs)) b.0 in
    (drop m (take n xs) ++ b.0, subst L all b.1)

-- a fault does not stand before another
fault-order : {A : Type 0} (L : List A → Type 0) (xs : List A) (i j : ℕ) → IsFirstFault L xs i → IsFirstFault L xs j → i < j → ⊥
fault-order L xs i j f g lt =
    let within = g.within in
    f.never (omega arith) (IsViablePrefix-take L xs (i + 1) j (omega arith) g.before)

pub IsFirstFault-unique : {A : Type 0} (L : List A → Type 0) (xs : List A) (i j : ℕ) → IsFirstFault L xs i → IsFirstFault L xs j → i ≡ j
IsFirstFault-unique L xs i j f g =
    let less : ¬ (i < j) = fault-order L xs i j f g in
    let more : ¬ (j < i) = fault-order L xs j i g f in
    omega arith
