-- The widths of a type's parts.
use Rattle.std.proofs.Common.{◌≡◌, ℕ, zero, suc, ◌<◌, List, [], ◌∷◌, length, get_or, Bool, true, false, ◌&&◌, IsTrue, subst, sym, refl, arith}
use Rattle.xb_value.specs.declared.ty.Ty.{Ty}
use Rattle.xb_value.specs.Width.{HasWidths, HasAllWidths}

-- both tests that make a passed one have passed
pub both_true : (a b : Bool) → IsTrue (a && b) → IsTrue a × IsTrue b
both_true true true h = (refl, refl)
both_true true false h = absurd (cc)
both_true false b h = absurd (cc)

pub and_true : (a b : Bool) → IsTrue a → IsTrue b → IsTrue (a && b)
and_true true b h k = k
and_true false b h k = absurd (cc)

-- each of the types has widths
pub HasWidths-at : (ts : List Ty) (i : ℕ) (t : Ty) → HasAllWidths ts → i < length ts → t ≡ get_or ts i t → HasWidths t
HasWidths-at [] i t all h is = absurd (omega arith)
HasWidths-at (u ∷ ts) zero t all h is = subst HasWidths (sym is) (both_true _ _ all).0
HasWidths-at (u ∷ ts) (suc i) t all h is = HasWidths-at ts i t (both_true _ _ all).1 (omega (arith, h)) is
