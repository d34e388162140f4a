-- The equations of folds over types, and induction on types.
use Rattle.std.proofs.Common.{◌≡◌, ℕ, ◌*◌, sum, map, List, [], ◌∷◌, sym, ap, subst, ◌∙◌}
use Rattle.xb_value.specs.declared.ty.Ty.{Ty, Bits, Tuple, Array}
use Rattle.xb_value.specs.declared.ty.Ty.TheVariants.{rolls-Bits, rolls-Tuple, rolls-Array}
use Rattle.xb_value.specs.declared.ty.Ty.TheOpen.{Ty-F}
use Rattle.xb_value.specs.declared.ty.Ty.TheViews.{roll-Ty}
use Rattle.xb_value.specs.declared.ty.Ty.TheFolds.{fold-Ty, fold-roll-Ty, ind-Ty, map-Ty}
use Rattle.xb_value.specs.Width.{width_of, width_step, leaf_count, leaves_step}

pub fold-Bits : (A : Type 0) (step : Ty-F A → A) (w : ℕ) → fold-Ty A step (Bits w) ≡ step (Ty-F.Bits w)
fold-Bits A step w = ap (fold-Ty A step) (sym (rolls-Bits w)) ∙ fold-roll-Ty A step (Ty-F.Bits w)

pub fold-Tuple : (A : Type 0) (step : Ty-F A → A) (ts : List Ty) → fold-Ty A step (Tuple ts) ≡ step (Ty-F.Tuple (map (fold-Ty A step) ts))
fold-Tuple A step ts = ap (fold-Ty A step) (sym (rolls-Tuple ts)) ∙ fold-roll-Ty A step (Ty-F.Tuple ts)

pub fold-Array : (A : Type 0) (step : Ty-F A → A) (t : Ty) (n : ℕ) → fold-Ty A step (Array t n) ≡ step (Ty-F.Array (fold-Ty A step t) n)
fold-Array A step t n = ap (fold-Ty A step) (sym (rolls-Array t n)) ∙ fold-roll-Ty A step (Ty-F.Array t n)

-- the claim holds of each
abbrev pub EachHas : {X : Type 0} → (X → Type 0) → List X → Type 0
EachHas P [] = Unit {0}
EachHas P (x ∷ xs) = P x × EachHas P xs

pub each_of : {X : Type 0} (P : X → Type 0) → (es : List ((x : X) × P x)) → EachHas P (map (λ e. e.0) es)
each_of P [] = tt
each_of P (e ∷ es) = (e.1, each_of P es)

pub ty_induction : (P : Ty → Type 0) → ((w : ℕ) → P (Bits w)) → ((ts : List Ty) → EachHas P ts → P (Tuple ts)) → ((t : Ty) (n : ℕ) → P t → P (Array t n)) → (t : Ty) → P t
ty_induction P bits tuple array = ind-Ty P (λ x y is. subst (λ z. P (roll-Ty z)) is (case y))
  where
    case : (y : Ty-F ((t : Ty) × P t)) → P (roll-Ty (map-Ty ((t : Ty) × P t) Ty (λ e. e.0) y))
    case (Ty-F.Bits w) = subst P (sym (rolls-Bits w)) (bits w)
    case (Ty-F.Tuple es) = subst P (sym (rolls-Tuple (map (λ e. e.0) es))) (tuple (map (λ e. e.0) es) (each_of P es))
    case (Ty-F.Array e n) = subst P (sym (rolls-Array e.0 n)) (array e.0 n e.1)

pub width_of-Bits : (w : ℕ) → width_of (Bits w) ≡ w
width_of-Bits = fold-Bits ℕ width_step

pub width_of-Tuple : (ts : List Ty) → width_of (Tuple ts) ≡ sum (map width_of ts)
width_of-Tuple = fold-Tuple ℕ width_step

pub width_of-Array : (t : Ty) (n : ℕ) → width_of (Array t n) ≡ n * width_of t
width_of-Array = fold-Array ℕ width_step

pub leaf_count-Array : (t : Ty) (n : ℕ) → leaf_count (Array t n) ≡ n * leaf_count t
leaf_count-Array = fold-Array ℕ leaves_step
