-- The size of an instance is looked for among the first of the order.
use Rattle.std.proofs.Common.{◌≡◌, ◌<◌, ◌≤◌, ◌+◌, ◌∙◌, ℕ, zero, suc, List, [], ◌∷◌, drop, get_or, length, false, if◌then◌else◌, Some, refl, sym, ap, subst, arith}
use Rattle.std.specs.Prelude.{slice_get}
use Rattle.std.proofs.lemmas.List.{drop_all}
use Rattle.dslx_core.specs.Lowering.Functions.{Instantiated}
use Rattle.dslx_core.proofs.Lemmas.Typing.Typed.{none_some, same_some}
use Rattle.dslx.specs.declared.count.size.NetworkSize.{NetworkSize}
use Rattle.dslx.specs.Count.Counting.{is_same_instance, no_size, size_among}

-- one that is there, as code finds it
pub there : (order : List Instantiated) (k : ℕ) (other : Instantiated) → k < length order → other ≡ get_or order k other → slice_get order k ≡ Some other
there [] k other within e = absurd (omega (arith, within))
there (x ∷ xs) zero other within e = ap Some (sym e)
there (x ∷ xs) (suc k) other within e = there xs k other (omega (arith, within)) e

-- one that isn't looked for
passed : (order : List Instantiated) (sizes : List NetworkSize) (i : Instantiated) (k : ℕ) (other : Instantiated) → k < length sizes → slice_get order k ≡ Some other → is_same_instance i other ≡ false
    → size_among (drop (suc k) order) (drop (suc k) sizes) i ≡ size_among (drop k order) (drop k sizes) i
passed [] sizes i k other within e apart = none_some other e
passed (x ∷ xs) [] i k other within e apart = absurd (omega (arith, within))
passed (x ∷ xs) (size ∷ sizes) i zero other within e apart =
    let differs : is_same_instance i x ≡ false = ap (λ (y : Instantiated). is_same_instance i y) (same_some x other e) ∙ apart in λ t. if sym differs t then size else size_among xs sizes i
passed (x ∷ xs) (size ∷ sizes) i (suc k) other within e apart = passed xs sizes i k other (omega (arith, within)) e apart

pub passed_one : (order : List Instantiated) (sizes : List NetworkSize) (i : Instantiated) (k : ℕ) (other : Instantiated) → k < length sizes → slice_get order k ≡ Some other → is_same_instance i other ≡ false
    → size_among (drop k order) (drop k sizes) i ≡ size_among order sizes i → size_among (drop (k + 1) order) (drop (k + 1) sizes) i ≡ size_among order sizes i
passed_one order sizes i k other within e apart so_far =
    let next : suc k ≡ k + 1 = omega arith in
    subst (λ n. size_among (drop n order) (drop n sizes) i ≡ size_among order sizes i) next (passed order sizes i k other within e apart ∙ so_far)

no_sizes : (is : List Instantiated) (i : Instantiated) → size_among is [] i ≡ no_size
no_sizes [] i = refl
no_sizes (x ∷ xs) i = refl

-- none is left
pub none_left : (order : List Instantiated) (sizes : List NetworkSize) (i : Instantiated) (k : ℕ) → length sizes ≤ k → size_among (drop k order) (drop k sizes) i ≡ size_among order sizes i → no_size ≡ size_among order sizes i
none_left order sizes i k past so_far = sym (no_sizes (drop k order) i) ∙ ap (λ (rest : List NetworkSize). size_among (drop k order) rest i) (sym (drop_all k sizes past)) ∙ so_far
