-- Which constants have a type, case by case.
use Rattle.std.proofs.lemmas.List.{take_all}
use Rattle.std.proofs.Common.{◌≡◌, ℕ, ◌^◌, ◌<◌, ◌≤◌, min, ◌-◌, get_or, take, drop, List, [], ◌∷◌, map, length, refl, sym, ap, ◌∙◌, arith, Bool, true, false}
use Rattle.std.specs.Prelude.{nat_lt, nat_eq, ◌&&◌}
use Rattle.std.specs.List.{list_all}
use Rattle.xb_value.specs.declared.ty.Ty.{Ty}
use Rattle.xb_value.specs.declared.ty.Ty as ty
use Rattle.xb_value.proofs.Lemmas.Types as types
use Rattle.ir_tree.specs.declared.constant.Constant.{Constant, out-Constant, Number, Tuple, Array}
use Rattle.ir_tree.specs.declared.constant.Constant.TheViews.{outs-Number, outs-Tuple, outs-Array}
use Rattle.ir_tree.specs.declared.ir_type.IrType.{IrType}
use Rattle.ir_tree.specs.declared.ir_type.IrType as ir
use Rattle.ir_tree.specs.declared.ir_type.IrType.TheViews.{outs-Bits, outs-Token}
use Rattle.ir_tree.specs.declared.ir_type.IrType.TheViews as views
use Rattle.ir_tree.specs.Types.{ty_of, arrays_of, bounded}
use Rattle.ir_tree.specs.NodeTypes.Constants.{constant_fits, fits_step, number_fits, tuple_fits, array_fits, each_fits, base_of, base_step}
use Rattle.ir_tree.specs.NodeTypes.Inner.Scaled.{own_fits}
use Rattle.ir_tree.proofs.Lemmas.NodeTypes.IrTypes.{ty_of_split, type_cases}

pub fits-Bits : (w : ℕ) (c : Constant) → constant_fits (ty.Bits w) c ≡ number_fits w (out-Constant c)
fits-Bits w c = ap (λ (f : Constant → Bool). f c) (types.fold-Bits (Constant → Bool) fits_step w)

pub fits-Tuple : (ts : List Ty) (c : Constant) → constant_fits (ty.Tuple ts) c ≡ tuple_fits (map constant_fits ts) (out-Constant c)
fits-Tuple ts c = ap (λ (f : Constant → Bool). f c) (types.fold-Tuple (Constant → Bool) fits_step ts)

pub fits-Array : (t : Ty) (n : ℕ) (c : Constant) → constant_fits (ty.Array t n) c ≡ array_fits (constant_fits t) n (out-Constant c)
fits-Array t n c = ap (λ (f : Constant → Bool). f c) (types.fold-Array (Constant → Bool) fits_step t n)

base_of-Bits : (w : ℕ) (ns : List ℕ) → base_of (ir.Bits w ns) ≡ ty.Bits (bounded w)
base_of-Bits w ns = ap base_step (outs-Bits w ns)

base_of-Token : (ns : List ℕ) → base_of (ir.Token ns) ≡ ty.Tuple []
base_of-Token ns = ap base_step (outs-Token ns)

base_of-Tuple : (ts : List IrType) (ns : List ℕ) → base_of (ir.Tuple ts ns) ≡ ty.Tuple (map ty_of ts)
base_of-Tuple ts ns = ap base_step (views.outs-Tuple ts ns)

pub number-Bits : (w : ℕ) (ns : List ℕ) (n : ℕ) → constant_fits (base_of (ir.Bits w ns)) (Number n) ≡ nat_lt n (2 ^ min (bounded w) 128)
number-Bits w ns n = ap (λ t. constant_fits t (Number n)) (base_of-Bits w ns) ∙ fits-Bits (bounded w) (Number n) ∙ ap (number_fits (bounded w)) (outs-Number n)

pub number-Token : (ns : List ℕ) (n : ℕ) → constant_fits (base_of (ir.Token ns)) (Number n) ≡ false
number-Token ns n = ap (λ t. constant_fits t (Number n)) (base_of-Token ns) ∙ fits-Tuple [] (Number n) ∙ ap (tuple_fits []) (outs-Number n)

pub number-Tuple : (ts : List IrType) (ns : List ℕ) (n : ℕ) → constant_fits (base_of (ir.Tuple ts ns)) (Number n) ≡ false
number-Tuple ts ns n = ap (λ t. constant_fits t (Number n)) (base_of-Tuple ts ns) ∙ fits-Tuple (map ty_of ts) (Number n) ∙ ap (tuple_fits (map constant_fits (map ty_of ts))) (outs-Number n)

pub tuple-Bits : (w : ℕ) (ns : List ℕ) (cs : List Constant) → constant_fits (base_of (ir.Bits w ns)) (Tuple cs) ≡ false
tuple-Bits w ns cs = ap (λ t. constant_fits t (Tuple cs)) (base_of-Bits w ns) ∙ fits-Bits (bounded w) (Tuple cs) ∙ ap (number_fits (bounded w)) (outs-Tuple cs)

pub tuple-Token : (ns : List ℕ) (cs : List Constant) → constant_fits (base_of (ir.Token ns)) (Tuple cs) ≡ each_fits [] cs
tuple-Token ns cs = ap (λ t. constant_fits t (Tuple cs)) (base_of-Token ns) ∙ fits-Tuple [] (Tuple cs) ∙ ap (tuple_fits []) (outs-Tuple cs)

own_map : (ts : List IrType) → map constant_fits (map ty_of ts) ≡ map own_fits ts
own_map [] = refl
own_map (t ∷ ts) = ap (λ u. constant_fits u ∷ map constant_fits (map ty_of ts)) (ty_of_split t) ∙ ap (λ fs. own_fits t ∷ fs) (own_map ts)

pub tuple-Tuple : (ts : List IrType) (ns : List ℕ) (cs : List Constant) → constant_fits (base_of (ir.Tuple ts ns)) (Tuple cs) ≡ each_fits (map own_fits ts) cs
tuple-Tuple ts ns cs =
    ap (λ t. constant_fits t (Tuple cs)) (base_of-Tuple ts ns)
    ∙ fits-Tuple (map ty_of ts) (Tuple cs)
    ∙ ap (tuple_fits (map constant_fits (map ty_of ts))) (outs-Tuple cs)
    ∙ ap (λ fs. each_fits fs cs) (own_map ts)

pub array-Bits : (w : ℕ) (ns : List ℕ) (cs : List Constant) → constant_fits (base_of (ir.Bits w ns)) (Array cs) ≡ false
array-Bits w ns cs = ap (λ t. constant_fits t (Array cs)) (base_of-Bits w ns) ∙ fits-Bits (bounded w) (Array cs) ∙ ap (number_fits (bounded w)) (outs-Array cs)

pub array-base : (t : IrType) (cs : List Constant) → constant_fits (base_of t) (Array cs) ≡ false
array-base = type_cases (λ t. (cs : List Constant) → constant_fits (base_of t) (Array cs) ≡ false)
    array-Bits
    (λ ns cs. ap (λ t. constant_fits t (Array cs)) (base_of-Token ns) ∙ fits-Tuple [] (Array cs) ∙ ap (tuple_fits []) (outs-Array cs))
    (λ ts ns cs. ap (λ t. constant_fits t (Array cs)) (base_of-Tuple ts ns) ∙ fits-Tuple (map ty_of ts) (Array cs) ∙ ap (tuple_fits (map constant_fits (map ty_of ts))) (outs-Array cs))

pub arrays-Number : (n : ℕ) (ns : List ℕ) (t : Ty) (m : ℕ) → constant_fits (arrays_of (n ∷ ns) t) (Number m) ≡ false
arrays-Number n ns t m = fits-Array (arrays_of ns t) (bounded n) (Number m) ∙ ap (array_fits (constant_fits (arrays_of ns t)) (bounded n)) (outs-Number m)

pub arrays-Tuple : (n : ℕ) (ns : List ℕ) (t : Ty) (cs : List Constant) → constant_fits (arrays_of (n ∷ ns) t) (Tuple cs) ≡ false
arrays-Tuple n ns t cs = fits-Array (arrays_of ns t) (bounded n) (Tuple cs) ∙ ap (array_fits (constant_fits (arrays_of ns t)) (bounded n)) (outs-Tuple cs)

pub arrays-Array : (n : ℕ) (ns : List ℕ) (t : Ty) (cs : List Constant) → constant_fits (arrays_of (n ∷ ns) t) (Array cs) ≡ (nat_eq (length cs) (bounded n) && list_all (constant_fits (arrays_of ns t)) cs)
arrays-Array n ns t cs = fits-Array (arrays_of ns t) (bounded n) (Array cs) ∙ ap (array_fits (constant_fits (arrays_of ns t)) (bounded n)) (outs-Array cs)

pub ruleset constant_cases = (number-Bits, number-Token, number-Tuple, tuple-Bits, tuple-Token, tuple-Tuple, array-base, arrays-Number, arrays-Tuple, arrays-Array)

-- ---- lists of different lengths

pub each_fits-lengths : (ps : List (Constant → Bool)) (cs : List Constant) → (length cs ≡ length ps → ⊥) → each_fits ps cs ≡ false
each_fits-lengths [] [] h = absurd (h refl)
each_fits-lengths [] (c ∷ cs) h = refl
each_fits-lengths (p ∷ ps) [] h = refl
each_fits-lengths (p ∷ ps) (c ∷ cs) h = both (p c) (each_fits-lengths ps cs (λ e. h (omega arith)))
  where
    both : (b : Bool) → each_fits ps cs ≡ false → (b && each_fits ps cs) ≡ false
    both true e = e
    both false e = refl

-- ---- the cases of a walk over sizes

pub base_case : (sizes : List ℕ) (t u : IrType) (x y : Constant) (b : Bool) → length sizes < 1 → t ≡ u → x ≡ y → constant_fits (base_of u) y ≡ b → b ≡ constant_fits (arrays_of sizes (base_of t)) x
base_case [] t u x y b h e f g = sym g ∙ ap (λ z. constant_fits (base_of z) y) (sym e) ∙ ap (constant_fits (base_of t)) (sym f)
base_case (n ∷ ns) t u x y b h e f g = absurd (omega arith)

pub array_case : (sizes : List ℕ) (t : IrType) (x : Constant) (cs : List Constant) (b : Bool) → 1 ≤ length sizes → x ≡ Array cs → nat_eq (length cs) (bounded (get_or sizes 0 0)) ≡ true → b ≡ list_all (constant_fits (arrays_of (drop 1 sizes) (base_of t))) cs → b ≡ constant_fits (arrays_of sizes (base_of t)) x
array_case [] t x cs b h e f g = absurd (omega arith)
array_case (n ∷ ns) t x cs b h e f g =
    g
    ∙ sym (ap (λ a. a && list_all (constant_fits (arrays_of ns (base_of t))) cs) f)
    ∙ sym (arrays-Array n ns (base_of t) cs)
    ∙ ap (constant_fits (arrays_of (n ∷ ns) (base_of t))) (sym e)

pub array_number : (sizes : List ℕ) (t : IrType) (x : Constant) (m : ℕ) → 1 ≤ length sizes → x ≡ Number m → false ≡ constant_fits (arrays_of sizes (base_of t)) x
array_number [] t x m h e = absurd (omega arith)
array_number (n ∷ ns) t x m h e = sym (arrays-Number n ns (base_of t) m) ∙ ap (constant_fits (arrays_of (n ∷ ns) (base_of t))) (sym e)

pub array_tuple : (sizes : List ℕ) (t : IrType) (x : Constant) (cs : List Constant) → 1 ≤ length sizes → x ≡ Tuple cs → false ≡ constant_fits (arrays_of sizes (base_of t)) x
array_tuple [] t x cs h e = absurd (omega arith)
array_tuple (n ∷ ns) t x cs h e = sym (arrays-Tuple n ns (base_of t) cs) ∙ ap (constant_fits (arrays_of (n ∷ ns) (base_of t))) (sym e)

pub array_short : (sizes : List ℕ) (t : IrType) (x : Constant) (cs : List Constant) → 1 ≤ length sizes → x ≡ Array cs → nat_eq (length cs) (bounded (get_or sizes 0 0)) ≡ false → false ≡ constant_fits (arrays_of sizes (base_of t)) x
array_short [] t x cs h e f = absurd (omega arith)
array_short (n ∷ ns) t x cs h e f =
    sym (ap (λ a. a && list_all (constant_fits (arrays_of ns (base_of t))) cs) f)
    ∙ sym (arrays-Array n ns (base_of t) cs)
    ∙ ap (constant_fits (arrays_of (n ∷ ns) (base_of t))) (sym e)

-- what a pattern leaves behind the first size
pub rest_is : (sizes : List ℕ) → take (length sizes - 1) (drop 1 sizes) ≡ drop 1 sizes
rest_is [] = refl
rest_is (n ∷ ns) = take_all (length (n ∷ ns) - 1) ns (omega arith)
