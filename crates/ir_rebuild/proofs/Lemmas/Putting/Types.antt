-- Types of values, and of nodes.
use Rattle.std.proofs.Common.{◌≡◌, ℕ, suc, ◌≤◌, List, [], ◌∷◌, map, Some, refl, sym, ap, ap₂, subst, ◌∙◌, arith}
use Rattle.std.specs.Prelude.{slice_get}
use Rattle.xb_value.specs.declared.ty.Ty.{Ty}
use Rattle.xb_value.specs.declared.ty.Ty as ty
use Rattle.xb_value.proofs.Lemmas.Types as tys
use Rattle.xb_value.proofs.Lemmas.Types.{EachHas, ty_induction}
use Rattle.ir_tree.specs.declared.ir_type.IrType.{IrType, Bits, Tuple}
use Rattle.ir_tree.specs.declared.ir_type.IrType.TheViews.{outs-Bits, outs-Token}
use Rattle.ir_tree.specs.declared.ir_type.IrType.TheViews as views
use Rattle.ir_tree.specs.Types.{ty_of, bounded}
use Rattle.ir_tree.specs.NodeTypes.Types.{sizes_of, sizes_step}
use Rattle.ir_tree.proofs.Lemmas.NodeTypes.IrTypes.{ty_of-Bits, ty_of-Tuple, type_cases}
use Rattle.ir_tree.proofs.Lemmas.Rules.Typed.Tests.{limited, array_is, array_size}
use Rattle.ir_rebuild.specs.Putting.Types.{array_of, ir_type_of, ir_type_step}
use Rattle.ir_rebuild.specs.Putting.Given.{IsNodeType}
use Rattle.ir_rebuild.proofs.OnPutting.TypesOf as types
use Rattle.ir_rebuild.proofs.OnPutting.TypesOf.{array-Bits, array-Token, array-Tuple, array_ty, is_array, number_bounds}

-- ---- which types nodes may have

pub bits_type : (w : ℕ) → 1 ≤ w → w ≤ 128 → IsNodeType (Bits w [])
bits_type = types.bits_type

pub unit_type : IsNodeType (Tuple [] [])
unit_type = types.unit_type

pub part_type : (ts : List IrType) (i : ℕ) (t : IrType) → slice_get ts i ≡ Some t → IsNodeType (Tuple ts []) → IsNodeType t
part_type = types.part_type

pub element_type : (n : ℕ) (t : IrType) → IsNodeType (array_of n t) → IsNodeType t
element_type = types.element_type

-- ---- the type as IR writes it

pub type-Bits : (w : ℕ) → ir_type_of (ty.Bits w) ≡ Bits w []
type-Bits = tys.fold-Bits IrType ir_type_step

pub type-Tuple : (ts : List Ty) → ir_type_of (ty.Tuple ts) ≡ Tuple (map ir_type_of ts) []
type-Tuple = tys.fold-Tuple IrType ir_type_step

pub type-Array : (t : Ty) (n : ℕ) → ir_type_of (ty.Array t n) ≡ array_of n (ir_type_of t)
type-Array = tys.fold-Array IrType ir_type_step

-- ---- within the limits it is the type of the same values

abbrev IsBack : Ty → Type 0
IsBack t = IsNodeType (ir_type_of t) → ty_of (ir_type_of t) ≡ t

each_part : (us : List IrType) → ((i : ℕ) (u : IrType) → slice_get us i ≡ Some u → IsNodeType u) → EachHas IsNodeType us
each_part [] h = tt
each_part (u ∷ us) h = (h 0 u refl, each_part us (λ i v e. h (suc i) v e))

each_back : (ts : List Ty) → EachHas IsBack ts → EachHas IsNodeType (map ir_type_of ts) → map ty_of (map ir_type_of ts) ≡ ts
each_back [] each h = refl
each_back (t ∷ ts) each h = ap₂ (λ x xs. x ∷ xs) (each.0 h.0) (each_back ts each.1 h.1)

array_sizes : (n : ℕ) (t : IrType) → sizes_of (array_of n t) ≡ n ∷ sizes_of t
array_sizes n = type_cases (λ t. sizes_of (array_of n t) ≡ n ∷ sizes_of t)
    (λ w ns. ap sizes_of (array-Bits n w ns) ∙ (ap sizes_step (outs-Bits w (n ∷ ns)) ∙ ap (λ y. n ∷ sizes_step y) (sym (outs-Bits w ns))))
    (λ ns. ap sizes_of (array-Token n ns) ∙ (ap sizes_step (outs-Token (n ∷ ns)) ∙ ap (λ y. n ∷ sizes_step y) (sym (outs-Token ns))))
    (λ ts ns. ap sizes_of (array-Tuple n ts ns) ∙ (ap sizes_step (views.outs-Tuple ts (n ∷ ns)) ∙ ap (λ y. n ∷ sizes_step y) (sym (views.outs-Tuple ts ns))))

first_same : (n m : ℕ) (ns ms : List ℕ) → (n ∷ ns) ≡ (m ∷ ms) → n ≡ m
first_same n m ns ms h = cc

-- the size of an array that a node may have is as written
pub size_is : (n : ℕ) (t : IrType) → IsNodeType (array_of n t) → bounded n ≡ n
size_is n t h =
    let is = array_is (array_of n t) t (is_array n t) in
    let same = first_same is.count n is.inner (sizes_of t) (sym is.sizes ∙ array_sizes n t) in
    subst (λ k. bounded k ≡ k) same (array_size (array_of n t) t (limited 0 (array_of n t) 0 h.sound h.limits) is)

pub type_back : (t : Ty) → IsNodeType (ir_type_of t) → ty_of (ir_type_of t) ≡ t
type_back = ty_induction IsBack
    (λ w h.
    let most = (number_bounds w (subst IsNodeType (type-Bits w) h)).1 in
    let same : bounded w ≡ w = omega (arith, most) in
    ap ty_of (type-Bits w) ∙ (ty_of-Bits w [] ∙ ap ty.Bits same))
    (λ ts each h.
    let parts = each_part (map ir_type_of ts) (λ i u e. types.part_type (map ir_type_of ts) i u e (subst IsNodeType (type-Tuple ts) h)) in
    ap ty_of (type-Tuple ts) ∙ (ty_of-Tuple (map ir_type_of ts) [] ∙ ap ty.Tuple (each_back ts each parts)))
    (λ t n one h.
    let own = subst IsNodeType (type-Array t n) h in
    ap ty_of (type-Array t n) ∙ (array_ty n (ir_type_of t) ∙ ap₂ ty.Array (one (types.element_type n (ir_type_of t) own)) (size_is n (ir_type_of t) own)))
