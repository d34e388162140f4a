-- Places of names, and lists that are filled.
use Rattle.std.proofs.Common.{◌≡◌, ℕ, zero, suc, ◌+◌, ◌-◌, List, [], ◌∷◌, ◌++◌, length, drop, get_or, ◌<◌, true, false, Option, Some, None, refl, ap, sym, ◌∙◌, arith}
use Rattle.std.specs.Option.{option_map}
use Rattle.std.specs.Str.{bytes_eq}
use Rattle.std.proofs.Math.Seq.{drop-cons}
use Rattle.std.proofs.lemmas.List.{append_assoc}
use Rattle.dslx_meaning.specs.Lists.{index_in, repeated}
use Rattle.dslx_core.specs.declared.expr.CoreExpr.{CoreExpr}
use Rattle.dslx_core.specs.declared.expr.CoreExpr as core
use Rattle.dslx_core.specs.Lowering.Lowering.{LoweredExpr}
use Rattle.dslx_core.specs.Lowering.Trees.{slots_from}

repeated_more : {A : Type 0} (k : ℕ) (x : A) → repeated k x ++ x ∷ [] ≡ x ∷ repeated k x
repeated_more zero x = refl
repeated_more (suc k) x = ap (λ xs. x ∷ xs) (repeated_more k x)

-- one copy more
pub repeated_behind : {A : Type 0} (xs : List A) (k : ℕ) (x : A) → (xs ++ repeated k x) ++ x ∷ [] ≡ xs ++ repeated (k + 1) x
repeated_behind xs k x =
    let more : suc k ≡ k + 1 = omega arith in
    append_assoc xs (repeated k x) (x ∷ []) ∙ ap (λ ys. xs ++ ys) (repeated_more k x) ∙ ap (λ j. xs ++ repeated j x) more

parted : {A : Type 0} (xs : List A) (i : ℕ) (x : A) → i < length xs → x ≡ get_or xs i x → drop i xs ≡ x ∷ drop (i + 1) xs
parted xs i x within e =
    let later : suc i ≡ i + 1 = omega arith in
    drop-cons xs i x within ∙ ap (λ y. y ∷ drop (suc i) xs) (sym e) ∙ ap (λ j. x ∷ drop j xs) later

abbrev next : Option ℕ → Option ℕ
next None = None
next (Some k) = Some (suc k)

next_from : (i : ℕ) (o : Option ℕ) → option_map (λ k. i + k) (next o) ≡ option_map (λ k. i + 1 + k) o
next_from i None = refl
next_from i (Some k) = ap Some (omega arith)

-- a name is found where it stands
pub found_at : (name : List ℕ) (names : List (List ℕ)) (i : ℕ) (n : List ℕ) → i < length names → n ≡ get_or names i n → bytes_eq name n ≡ true →
    option_map (λ k. i + k) (index_in name (drop i names)) ≡ Some i
found_at name names i n within e b = let d = parted names i n within e in rw (d, b) (ap Some (omega arith))

-- another name is passed
pub passed_at : (name : List ℕ) (names : List (List ℕ)) (i : ℕ) (n : List ℕ) → i < length names → n ≡ get_or names i n → bytes_eq name n ≡ false →
    option_map (λ k. i + k) (index_in name (drop i names)) ≡ option_map (λ k. i + 1 + k) (index_in name (drop (i + 1) names))
passed_at name names i n within e b = let d = parted names i n within e in rw (d, b) (next_from i (index_in name (drop (i + 1) names)))

one_slot : (n i : ℕ) (es : List LoweredExpr) → i < length es → slots_from n (drop i es) ≡ core.Slot n ∷ slots_from (suc n) (drop (suc i) es)
one_slot n i [] within = absurd (omega arith)
one_slot n zero (e ∷ es) within = refl
one_slot n (suc i) (e ∷ es) within = one_slot n i es (omega arith)

-- one slot more
pub slot_behind : (first i n : ℕ) (es : List LoweredExpr) (slots more : List CoreExpr) → i < length es → n ≡ first + i → more ≡ slots ++ core.Slot n ∷ []
    → slots ++ slots_from (first + i) (drop i es) ≡ slots_from first es → more ++ slots_from (first + (i + 1)) (drop (i + 1) es) ≡ slots_from first es
slot_behind first i n es slots more within here put all =
    let later : first + (i + 1) ≡ suc (first + i) = omega arith in
    let next : i + 1 ≡ suc i = omega arith in
    ap (λ k. more ++ slots_from k (drop (i + 1) es)) later
    ∙ ap (λ k. more ++ slots_from (suc (first + i)) (drop k es)) next
    ∙ ap (λ ss. ss ++ slots_from (suc (first + i)) (drop (suc i) es)) (put ∙ ap (λ k. slots ++ core.Slot k ∷ []) here)
    ∙ append_assoc slots (core.Slot (first + i) ∷ []) (slots_from (suc (first + i)) (drop (suc i) es))
    ∙ ap (λ ss. slots ++ ss) (sym (one_slot (first + i) i es within))
    ∙ all
