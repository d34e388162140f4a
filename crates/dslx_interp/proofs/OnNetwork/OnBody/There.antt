-- What stands in a list.
use Rattle.std.proofs.Common.{◌≡◌, ◌+◌, ◌<◌, ◌&&◌, ℕ, zero, suc, List, [], ◌∷◌, length, drop, map, get_or, Bool, true, false, IsTrue, Some, refl, sym, ap, subst, ◌∙◌, arith}
use Rattle.std.specs.Prelude.{slice_get}
use Rattle.std.specs.List.{list_all}

pub map_at : {A B : Type 0} (f : A → B) (xs : List A) (k : ℕ) (x : A) → slice_get xs k ≡ Some x → slice_get (map f xs) k ≡ Some (f x)
map_at f [] k x e = absurd (cc)
map_at f (y ∷ ys) zero x e = let same : y ≡ x = cc in ap (λ z. Some (f z)) same
map_at f (y ∷ ys) (suc k) x e = map_at f ys k x e

both_hold : (a b : Bool) → IsTrue (a && b) → IsTrue a × IsTrue b
both_hold true b h = (refl, h)
both_hold false b h = absurd (cc)

-- what all pass, one that is there passes
pub passes_at : {A : Type 0} (p : A → Bool) (xs : List A) (k : ℕ) (x : A) → IsTrue (list_all p xs) → k < length xs → x ≡ get_or xs k x → IsTrue (p x)
passes_at p [] k x h within is = absurd (omega (arith, within))
passes_at p (y ∷ ys) zero x h within is = subst (λ z. IsTrue (p z)) (sym is) (both_hold (p y) (list_all p ys) h).0
passes_at p (y ∷ ys) (suc k) x h within is = passes_at p ys k x (both_hold (p y) (list_all p ys) h).1 (omega (arith, within)) is

pub drop_there : {A : Type 0} (xs : List A) (k : ℕ) (x : A) → k < length xs → x ≡ get_or xs k x → drop k xs ≡ x ∷ drop (k + 1) xs
drop_there [] k x within is = absurd (omega (arith, within))
drop_there {A} (y ∷ ys) zero x within is = ap (λ (z : A). z ∷ ys) (sym is)
drop_there {A} (y ∷ ys) (suc k) x within is =
    let at : suc k + 1 ≡ suc (k + 1) = omega arith in
    drop_there ys k x (omega (arith, within)) is ∙ ap (λ (n : ℕ). x ∷ drop n (y ∷ ys)) (sym at)
