-- What is made of elements.
use Rattle.std.proofs.Common.{◌≡◌, ℕ, suc, ◌+◌, ◌-◌, ◌++◌, nat_le, map, Bool, true, false, List, [], ◌∷◌, length, Option, Some, None, refl, sym, ap, ◌∙◌, arith}
use Rattle.std.specs.List.{list_all}
use Rattle.dslx_meaning.specs.Lists.{and_then, repeated, where_true}
use Rattle.dslx_meaning.specs.declared.ty.DslxType.{DslxType}
use Rattle.dslx_meaning.specs.declared.ty.DslxType as ty
use Rattle.dslx_core.specs.declared.expr.CoreExpr as core
use Rattle.dslx_core.specs.declared.expr.Shape as shape
use Rattle.dslx_core.specs.Lowering.EqualTypes.{equal_type}
use Rattle.dslx_core.specs.Lowering.Lowering.{LoweredExpr, lowered, cores_of}
use Rattle.dslx_core.specs.Lowering.Trees.{lower_array_elements, lower_filled, slots_from}
use Rattle.dslx_core_exprs.specs.Aggregates.Inner.Elements.{fits_size, fitting, type_of_all, type_of_first}

pub all_alike : (all : Bool) (e : LoweredExpr) (es : List LoweredExpr) (t : DslxType) → all ≡ list_all (λ (c : LoweredExpr). equal_type e.ty c.ty) es → all ≡ true → t ≡ e.ty → Some t ≡ type_of_first e es
all_alike all e es t h b same = ap Some same ∙ ap (λ b. where_true b (Some e.ty)) (sym b ∙ h)

pub not_alike : (all : Bool) (e : LoweredExpr) (es : List LoweredExpr) → all ≡ list_all (λ (c : LoweredExpr). equal_type e.ty c.ty) es → all ≡ false → None ≡ type_of_first e es
not_alike all e es h b = ap (λ b. where_true b (Some e.ty)) (sym b ∙ h)

abbrev array : List LoweredExpr → DslxType → Option LoweredExpr
array es t = lowered (core.Array (cores_of es)) (ty.Array t (length es))

elements_are : (es : List LoweredExpr) → lower_array_elements es ≡ and_then (type_of_all es) (array es)
elements_are [] = refl
elements_are (e ∷ es) = by (list_all (λ (c : LoweredExpr). equal_type e.ty c.ty) es)
  where
    by : (b : Bool) → where_true b (array (e ∷ es) e.ty) ≡ and_then (where_true b (Some e.ty)) (array (e ∷ es))
    by true = refl
    by false = refl

pub elements_none : (es : List LoweredExpr) → None ≡ type_of_all es → None ≡ lower_array_elements es
elements_none es h = ap (λ o. and_then o (array es)) h ∙ sym (elements_are es)

pub elements_some : (es : List LoweredExpr) (t : DslxType) (e : LoweredExpr) → Some t ≡ type_of_all es → Some e ≡ array es t → Some e ≡ lower_array_elements es
elements_some es t e h made = made ∙ ap (λ o. and_then o (array es)) h ∙ sym (elements_are es)

filled_is : (count : ℕ) (t : DslxType) (dots : Bool) (n : ℕ) (es : List LoweredExpr) → lower_filled count t dots n es ≡ where_true (fits_size dots n es) (fitting count t dots n es)
filled_is count t dots n [] = refl
filled_is count t false n (e ∷ es) = refl
filled_is count t true n (e ∷ es) =
    let last : length es ≡ suc (length es) - 1 = omega arith in
    ap (λ k. where_true (nat_le (suc (length es)) n) (lowered (core.Bind (core.Tuple (cores_of (e ∷ es))) (shape.Tuple (map (λ (e : LoweredExpr). shape.Bound) (e ∷ es))) (core.Array (slots_from count (e ∷ es) ++ repeated (n - suc (length es)) (core.Slot (count + k))))) (ty.Array t n))) last

pub filled_none : (fits : Bool) (count : ℕ) (t : DslxType) (dots : Bool) (n : ℕ) (es : List LoweredExpr) → fits ≡ fits_size dots n es → fits ≡ false → None ≡ lower_filled count t dots n es
filled_none fits count t dots n es h b = ap (λ b. where_true b (fitting count t dots n es)) (sym b ∙ h) ∙ sym (filled_is count t dots n es)

pub filled_some : (fits : Bool) (count : ℕ) (t : DslxType) (dots : Bool) (n : ℕ) (es : List LoweredExpr) (e : LoweredExpr) → fits ≡ fits_size dots n es → fits ≡ true
    → Some e ≡ fitting count t dots n es → Some e ≡ lower_filled count t dots n es
filled_some fits count t dots n es e h b s = s ∙ ap (λ b. where_true b (fitting count t dots n es)) (sym b ∙ h) ∙ sym (filled_is count t dots n es)
