-- Values of a small type, each of which fits some arm.
use Rattle.std.proofs.Common.{◌≡◌, ℕ, suc, ◌≤◌, ◌^◌, Bool, true, false, ◌&&◌, ◌||◌, List, ◌∷◌, [], map, refl, sym, ap, subst, ◌∙◌, arith}
use Rattle.std.specs.Prelude.{nat_le}
use Rattle.std.proofs.lemmas.Bool.Decides.{nat_tests}
use Rattle.xb_value.specs.declared.ty.Ty.{Ty}
use Rattle.xb_value.specs.declared.value.Value.{Value}
use Rattle.xb_value.specs.Unflat.{unflat_of}
use Rattle.xb_value.specs.Width.{width_of}
use Rattle.dslx_core.specs.CoreValues.{first_apart}
use Rattle.dslx_core.specs.declared.expr.Arm.{Arm, out-Arm}
use Rattle.dslx_core.specs.declared.expr.Shape.{Shape}
use Rattle.dslx_core.specs.Types.Typing.{CoreArmTyping, all_fit, each_fits, is_fit, shapes_of, some_fits}
use Rattle.ir_lower_nodes.specs.Exprs.NodeTypes.{arm_node_type}
use Rattle.ir_lower.proofs.OnTypes.OnArms.{arm_is}
use Rattle.ir_lower.proofs.OnTypes.OnLimits.{and_true}

-- one more value
pub fits_more : (arms : List (List Shape)) (t : Ty) (n m : ℕ) (v : Value) → m ≡ suc n → v ≡ unflat_of t n → some_fits arms v ≡ true → each_fits arms t n ≡ true → each_fits arms t m ≡ true
fits_more arms t n m v next same here before =
    ap (each_fits arms t) next ∙ and_true (some_fits arms (unflat_of t n)) (each_fits arms t n) (ap (some_fits arms) (sym same) ∙ here) before

pub all_fits : (arms : List (List Shape)) (t : Ty) (w : ℕ) → w ≡ width_of t → w ≤ 8 → each_fits arms t (2 ^ w) ≡ true → all_fit arms t ≡ true
all_fits arms t w same few h =
    subst (λ (n : ℕ). (nat_le n 8 && each_fits arms t (2 ^ n)) ≡ true) same (and_true (nat_le w 8) (each_fits arms t (2 ^ w)) (grind (arith, nat_tests, few)) h)

-- it fits the first arm, or one behind it
pub fits_first : (a : Arm) (rest : List Arm) (v : Value) → is_fit (first_apart (out-Arm a).shapes v []) ≡ true → some_fits (shapes_of (map arm_node_type (a ∷ rest))) v ≡ true
fits_first a rest v h =
    ap (λ (x : CoreArmTyping). is_fit (first_apart x.shapes v []) || some_fits (shapes_of (map arm_node_type rest)) v) (arm_is a)
    ∙ ap (λ b. b || some_fits (shapes_of (map arm_node_type rest)) v) h

pub fits_later : (a : Arm) (rest : List Arm) (v : Value) → some_fits (shapes_of (map arm_node_type rest)) v ≡ true → some_fits (shapes_of (map arm_node_type (a ∷ rest))) v ≡ true
fits_later a rest v h = later (is_fit (first_apart (arm_node_type a).shapes v [])) h
  where
    later : (b : Bool) → some_fits (shapes_of (map arm_node_type rest)) v ≡ true → (b || some_fits (shapes_of (map arm_node_type rest)) v) ≡ true
    later true k = refl
    later false k = k
