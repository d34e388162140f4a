-- The first of a list, as the top of a stack.
use Rattle.std.proofs.Common.{◌≡◌, List, [], ◌∷◌, Some, None, drop, refl, ap, sym, ◌∙◌}
use Rattle.std.specs.Prelude.{slice_get}

pub popped : {A : Type 0} (xs rest : List A) (x : A) → slice_get xs 0 ≡ Some x → rest ≡ drop 1 xs → xs ≡ x ∷ rest
popped [] rest x top left = absurd (cc)
popped (y ∷ ys) rest x top left =
    let e : y ≡ x = cc in
    ap (λ z. z ∷ ys) e ∙ ap (λ zs. x ∷ zs) (sym left)

pub emptied : {A : Type 0} (xs : List A) → slice_get xs 0 ≡ None → xs ≡ []
emptied [] none = refl
emptied (y ∷ ys) none = absurd (cc)

pub left_empty : {A : Type 0} (xs rest : List A) → slice_get xs 0 ≡ None → rest ≡ drop 1 xs → rest ≡ []
left_empty [] rest none left = left
left_empty (y ∷ ys) rest none left = absurd (cc)
