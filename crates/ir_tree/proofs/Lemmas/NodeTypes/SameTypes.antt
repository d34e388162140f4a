-- Lists of types of different lengths are not the same.
use Rattle.std.proofs.Common.{◌≡◌, List, [], ◌∷◌, length, refl, arith, Bool, true, false}
use Rattle.std.specs.Prelude.{◌&&◌}
use Rattle.ir_tree.specs.declared.ir_type.IrType.{IrType}
use Rattle.ir_tree.specs.NodeTypes.Types.{each_same}

pub each_same-lengths : (ps : List (IrType → Bool)) (ts : List IrType) → (length ps ≡ length ts → ⊥) → each_same ps ts ≡ false
each_same-lengths [] [] h = absurd (h refl)
each_same-lengths [] (t ∷ ts) h = refl
each_same-lengths (p ∷ ps) [] h = refl
each_same-lengths (p ∷ ps) (t ∷ ts) h = both (p t) (each_same-lengths ps ts (λ e. h (omega arith)))
  where
    both : (b : Bool) → each_same ps ts ≡ false → (b && each_same ps ts) ≡ false
    both true e = e
    both false e = refl
