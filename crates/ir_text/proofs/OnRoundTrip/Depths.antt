-- How deep the brackets of types and constants stand in one another.
use Rattle.std.proofs.Common.{◌≡◌, ◌≤◌, ℕ, suc, ◌+◌, ◌-◌, ◌^◌, min, Bool, true, false, ◌&&◌, List, [], ◌∷◌, map, length, refl, sym, ap, ◌∙◌, arith}
use Rattle.std.specs.Prelude.{nat_eq, nat_lt, not, IsTrue}
use Rattle.std.specs.List.{list_all}
use Rattle.std.proofs.lemmas.Bool.{and_parts}
use Rattle.std.proofs.lemmas.Bool.Decides.{nat_tests}
use Rattle.xb_value.specs.declared.ty.Ty.{Ty, fold-Ty}
use Rattle.xb_value.specs.declared.ty.Ty as ty
use Rattle.xb_value.specs.declared.ty.Ty.TheOpen.{Ty-F}
use Rattle.xb_value.specs.Width.{leaf_count}
use Rattle.xb_value.proofs.Lemmas.Types as tys
use Rattle.xb_value.proofs.Lemmas.Types.{EachHas}
use Rattle.xb_span.specs.declared.limit.What.TheVariants as what
use Rattle.ir_tree.specs.declared.ir_type.IrType.{IrType}
use Rattle.ir_tree.specs.declared.constant.Constant.{Constant, out-Constant}
use Rattle.ir_tree.specs.declared.constant.Constant as constants
use Rattle.ir_tree.specs.declared.constant.Constant.TheViews.{outs-Tuple, outs-Array}
use Rattle.ir_tree.specs.Types.{arrays_of, bounded, ty_of}
use Rattle.ir_tree.specs.Rules.Checks.{limit_at}
use Rattle.ir_tree.specs.NodeTypes.Constants.{array_fits, constant_fits, each_fits, number_fits, tuple_fits}
use Rattle.ir_tree.specs.Rules.Lines.{type_limits}
use Rattle.ir_tree.specs.NodeTypes.Types.{levels_of, levels_step, max_of, widths_in}
use Rattle.ir_tree.proofs.Lemmas.NodeTypes.ConstantCases.{fits-Bits, fits-Tuple, fits-Array}
use Rattle.ir_tree.proofs.Lemmas.NodeTypes.IrTypes as types
use Rattle.ir_tree.proofs.Lemmas.NodeTypes.IrTypes.{ty_of-Bits, ty_of-Token, ty_of-Tuple}
use Rattle.ir_tree.specs.Rules.Typed.Typed.{none_broken}
use Rattle.ir_tree.proofs.Lemmas.Rules.Typed.Checked.{both_true, parts_not}
use Rattle.ir_tree.proofs.Lemmas.Rules.Typed.Tests.{type_induction}
use Rattle.ir_text.proofs.OnRoundTrip.TypeTexts.{nesting_step, type_nesting}
use Rattle.ir_text.proofs.OnRoundTrip.ValueTexts as values
use Rattle.ir_text.proofs.OnRoundTrip.ValueTexts.{constant_induction, constant_nesting, constant_nesting_step}

-- ---- types

abbrev IsFlat : IrType → Type 0
IsFlat t = type_nesting t ≤ levels_of t + 1

flat_lists : (ts : List IrType) → EachHas IsFlat ts → max_of (map type_nesting ts) ≤ max_of (map levels_of ts) + 1
flat_lists [] each = omega arith
flat_lists (t ∷ ts) each = let first = each.0 in let rest = flat_lists ts each.1 in omega (arith, first, rest)

-- a type's brackets are its levels, and one more for a width
pub type_flat : (t : IrType) → type_nesting t ≤ levels_of t + 1
type_flat = type_induction IsFlat
    (λ w ns. let one = types.fold-Bits ℕ nesting_step w ns in omega (arith, one))
    (λ ns. let one = types.fold-Token ℕ nesting_step ns in omega (arith, one))
    (λ ts ns each.
    let here = types.fold-Tuple ℕ nesting_step ts ns in
    let levels = types.fold-Tuple ℕ levels_step ts ns in
    let parts = flat_lists ts each in
    omega (arith, here, levels, parts))

-- ---- constants

abbrev depth_step : Ty-F ℕ → ℕ
depth_step (Ty-F.Bits w) = 0
depth_step (Ty-F.Tuple ls) = suc (max_of ls)
depth_step (Ty-F.Array l n) = suc l

abbrev ty_depth : Ty → ℕ
ty_depth = fold-Ty ℕ depth_step

abbrev IsWithin : Ty → Type 0
IsWithin t = (v : Constant) → constant_fits t v ≡ true → constant_nesting v ≤ ty_depth t

each_within : (ts : List Ty) → EachHas IsWithin ts → (vs : List Constant) → each_fits (map constant_fits ts) vs ≡ true → max_of (map constant_nesting vs) ≤ max_of (map ty_depth ts)
each_within [] each [] h = omega arith
each_within [] each (v ∷ vs) h = absurd (cc)
each_within (t ∷ ts) each [] h = absurd (cc)
each_within (t ∷ ts) each (v ∷ vs) h =
    let parts = and_parts (constant_fits t v) (each_fits (map constant_fits ts) vs) h in
    let first = each.0 v parts.0 in
    let rest = each_within ts each.1 vs parts.1 in
    omega (arith, first, rest)

all_within : (t : Ty) → IsWithin t → (vs : List Constant) → list_all (constant_fits t) vs ≡ true → max_of (map constant_nesting vs) ≤ ty_depth t
all_within t within [] h = omega arith
all_within t within (v ∷ vs) h =
    let parts = and_parts (constant_fits t v) (list_all (constant_fits t) vs) h in
    let first = within v parts.0 in
    let rest = all_within t within vs parts.1 in
    omega (arith, first, rest)

bits_within : (w : ℕ) → IsWithin (ty.Bits w)
bits_within w = constant_induction (λ v. constant_fits (ty.Bits w) v ≡ true → constant_nesting v ≤ ty_depth (ty.Bits w))
    (λ n h. let none = values.fold-Number ℕ constant_nesting_step n in omega (arith, none))
    (λ vs each h. let never : false ≡ true = sym (fits-Bits w (constants.Tuple vs) ∙ ap (number_fits w) (outs-Tuple vs)) ∙ h in absurd (cc))
    (λ vs each h. let never : false ≡ true = sym (fits-Bits w (constants.Array vs) ∙ ap (number_fits w) (outs-Array vs)) ∙ h in absurd (cc))

tuple_within : (ts : List Ty) → EachHas IsWithin ts → IsWithin (ty.Tuple ts)
tuple_within ts each = constant_induction (λ v. constant_fits (ty.Tuple ts) v ≡ true → constant_nesting v ≤ ty_depth (ty.Tuple ts))
    (λ n h. let none = values.fold-Number ℕ constant_nesting_step n in omega (arith, none))
    (λ vs all h.
    let fit : each_fits (map constant_fits ts) vs ≡ true = sym (fits-Tuple ts (constants.Tuple vs) ∙ ap (tuple_fits (map constant_fits ts)) (outs-Tuple vs)) ∙ h in
    let inner = each_within ts each vs fit in
    let here = values.fold-Tuple ℕ constant_nesting_step vs in
    let there = tys.fold-Tuple ℕ depth_step ts in
    omega (arith, inner, here, there))
    (λ vs all h. let never : false ≡ true = sym (fits-Tuple ts (constants.Array vs) ∙ ap (tuple_fits (map constant_fits ts)) (outs-Array vs)) ∙ h in absurd (cc))

array_within : (t : Ty) (n : ℕ) → IsWithin t → IsWithin (ty.Array t n)
array_within t n within = constant_induction (λ v. constant_fits (ty.Array t n) v ≡ true → constant_nesting v ≤ ty_depth (ty.Array t n))
    (λ m h. let none = values.fold-Number ℕ constant_nesting_step m in omega (arith, none))
    (λ vs all h. let never : false ≡ true = sym (fits-Array t n (constants.Tuple vs) ∙ ap (array_fits (constant_fits t) n) (outs-Tuple vs)) ∙ h in absurd (cc))
    (λ vs all h.
    let fit : (nat_eq (length vs) n && list_all (constant_fits t) vs) ≡ true = sym (fits-Array t n (constants.Array vs) ∙ ap (array_fits (constant_fits t) n) (outs-Array vs)) ∙ h in
    let inner = all_within t within vs (and_parts (nat_eq (length vs) n) (list_all (constant_fits t) vs) fit).1 in
    let here = values.fold-Array ℕ constant_nesting_step vs in
    let there = tys.fold-Array ℕ depth_step t n in
    omega (arith, inner, here, there))

constant_within : (t : Ty) → IsWithin t
constant_within = tys.ty_induction IsWithin bits_within tuple_within array_within

-- ---- types of constants

arrays_depth : (ns : List ℕ) (t : Ty) → ty_depth (arrays_of ns t) ≡ length ns + ty_depth t
arrays_depth [] t = omega arith
arrays_depth (n ∷ ns) t = let rest = arrays_depth ns t in let here = tys.fold-Array ℕ depth_step (arrays_of ns t) (bounded n) in omega (arith, rest, here)

abbrev IsLevel : IrType → Type 0
IsLevel t = ty_depth (ty_of t) ≤ levels_of t + 1

level_lists : (ts : List IrType) → EachHas IsLevel ts → max_of (map ty_depth (map ty_of ts)) ≤ max_of (map levels_of ts) + 1
level_lists [] each = omega arith
level_lists (t ∷ ts) each = let first = each.0 in let rest = level_lists ts each.1 in omega (arith, first, rest)

type_level : (t : IrType) → IsLevel t
type_level = type_induction IsLevel
    (λ w ns.
    let here = ap ty_depth (ty_of-Bits w ns) ∙ arrays_depth ns (ty.Bits (bounded w)) in
    let inner = tys.fold-Bits ℕ depth_step (bounded w) in
    let levels = types.fold-Bits ℕ levels_step w ns in
    omega (arith, here, inner, levels))
    (λ ns.
    let here = ap ty_depth (ty_of-Token ns) ∙ arrays_depth ns (ty.Tuple []) in
    let inner = tys.fold-Tuple ℕ depth_step [] in
    let levels = types.fold-Token ℕ levels_step ns in
    omega (arith, here, inner, levels))
    (λ ts ns each.
    let here = ap ty_depth (ty_of-Tuple ts ns) ∙ arrays_depth ns (ty.Tuple (map ty_of ts)) in
    let inner = tys.fold-Tuple ℕ depth_step (map ty_of ts) in
    let levels = types.fold-Tuple ℕ levels_step ts ns in
    let parts = level_lists ts each in
    omega (arith, here, inner, levels, parts))

-- the brackets of a constant of a type
pub constant_flat : (t : IrType) (v : Constant) → constant_fits (ty_of t) v ≡ true → constant_nesting v ≤ levels_of t + 1
constant_flat t v h = let inner = constant_within (ty_of t) v h in let level = type_level t in omega (arith, inner, level)

-- ---- limits

within_levels : (l own : ℕ) → own ≤ 1 → nat_lt 64 (min (min l (2 ^ 64 - 1) - own) (2 ^ 64 - 1)) ≡ false → l ≤ 65
within_levels l own small h =
    let few : min (min l (2 ^ 64 - 1) - own) (2 ^ 64 - 1) ≤ 64 = grind (arith, nat_tests) in
    omega (arith, few, small)

-- a type that passes no limit has few levels
pub few_levels : (end : ℕ) (t : IrType) (own : ℕ) → own ≤ 1 → IsTrue (none_broken (type_limits end t own)) → levels_of t ≤ 65
few_levels end t own small h =
    let parts = parts_not (map (λ w. limit_at end what.Width w 128) (widths_in t)) _ h in
    let rest = both_true (not (nat_lt 256 (min (leaf_count (ty_of t)) (2 ^ 64 - 1)))) _ parts.1 in
    let last = both_true (not (nat_lt 64 (min (min (levels_of t) (2 ^ 64 - 1) - own) (2 ^ 64 - 1)))) true rest.1 in
    within_levels (levels_of t) own small (not_of _ last.0)
  where
    not_of : (b : Bool) → IsTrue (not b) → b ≡ false
    not_of true h = absurd (cc)
    not_of false h = refl
