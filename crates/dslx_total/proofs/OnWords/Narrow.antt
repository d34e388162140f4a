-- All bits in a type of at most 128 bits are at most as wide.
use Rattle.std.proofs.Common.{◌≡◌, ◌≤◌, ◌&&◌, ◌*◌, ℕ, zero, suc, Bool, true, not, List, [], ◌∷◌, map, arith, refl, sym, ap, subst, ◌∙◌}
use mathlib.Core.Bool.{true≢false}
use Rattle.std.specs.Prelude.{nat_lt, sum}
use Rattle.std.specs.List.{list_all}
use Rattle.std.proofs.lemmas.Bool.{le-leb}
use Rattle.std.proofs.lemmas.Bool.Decides.{Decides-ltb}
use Rattle.std.proofs.lemmas.List.Sums.{sum_by-cons}
use Rattle.std.proofs.Math.Nat.{suc-mul}
use Rattle.xb_value.specs.Width.{widths_step}
use Rattle.xb_value.specs.declared.ty.Ty.{Ty, fold-Ty}
use Rattle.xb_value.specs.declared.ty.Ty as plain
use Rattle.xb_value.proofs.Lemmas.Types.{EachHas, fold-Bits, fold-Tuple, fold-Array}
use Rattle.dslx_meaning.specs.Types.{flat_bits, flat_bits_in, plain_step, plain_type}
use Rattle.dslx_meaning.specs.declared.ty.DslxType.{DslxType}
use Rattle.dslx_meaning.specs.declared.ty.DslxType as ty
use Rattle.dslx_meaning.specs.declared.ty.DslxType.TheOpen.{DslxType-F}
use Rattle.dslx_meaning.specs.declared.ty.DslxType.TheFolds.{fold-roll-DslxType, map-DslxType}
use Rattle.dslx_meaning.specs.declared.ty.DslxType.TheVariants as rolls
use Rattle.dslx_meaning.specs.declared.ty.DslxType.TheViews as views
use Rattle.dslx_meaning.specs.Rules.ConstantRules.{is_zero}
use Rattle.dslx_core.proofs.Lemmas.Typing.Laws.{and_true}
use Rattle.dslx_core.proofs.Lemmas.Typing.Typed.{type_induction}
use Rattle.dslx_core.specs.Lowering.Steps.{is_sized, sized_step}
use Rattle.dslx_total.specs.Expressions.Beside.{has_widths}
use Rattle.dslx_total.proofs.Lemmas.Expressions.{in_array, in_bits, in_enum, in_struct, in_tuple}

abbrev pub are_narrow : Ty → Bool
are_narrow = fold-Ty Bool widths_step

-- bits with a width, and arrays with elements, in no more than 128 bits
abbrev IsNarrow : DslxType → Type 0
IsNarrow t = has_widths t ≡ true → is_sized t ≡ true → flat_bits t ≤ 128 → are_narrow (plain_type t) ≡ true

-- ---- the kinds of types

pub plain_is : (l : DslxType-F DslxType) (t : DslxType) → views.roll-DslxType l ≡ t → plain_type t ≡ plain_step (map-DslxType DslxType Ty plain_type l)
plain_is l t e = ap plain_type (sym e) ∙ fold-roll-DslxType Ty plain_step l

pub bits_are : (l : DslxType-F DslxType) (t : DslxType) → views.roll-DslxType l ≡ t → flat_bits t ≡ flat_bits_in (map-DslxType DslxType ℕ flat_bits l)
bits_are l t e = ap flat_bits (sym e) ∙ fold-roll-DslxType ℕ flat_bits_in l

sized_is : (l : DslxType-F DslxType) (t : DslxType) → views.roll-DslxType l ≡ t → is_sized t ≡ sized_step (map-DslxType DslxType Bool is_sized l)
sized_is l t e = ap is_sized (sym e) ∙ fold-roll-DslxType Bool sized_step l

-- bits of a width
pub width_narrow : (w : ℕ) → nat_lt 0 w ≡ true → w ≤ 128 → are_narrow (plain.Bits w) ≡ true
width_narrow w some few =
    let there = (Decides-ltb 0 w).0 some in
    fold-Bits Bool widths_step w ∙ (λ i. le-leb 1 w (omega (arith, there)) i && le-leb w 128 few i)

-- parts in order, in no more bits than all of them have
parts_narrow : (ts : List DslxType) → EachHas IsNarrow ts → list_all (λ b. b) (map has_widths ts) ≡ true → list_all (λ b. b) (map is_sized ts) ≡ true → sum (map flat_bits ts) ≤ 128
    → list_all (λ b. b) (map are_narrow (map plain_type ts)) ≡ true
parts_narrow [] h w s few = refl
parts_narrow (t ∷ ts) h w s few =
    let a = and_true (has_widths t) (list_all (λ b. b) (map has_widths ts)) w in
    let b = and_true (is_sized t) (list_all (λ b. b) (map is_sized ts)) s in
    let whole = sum_by-cons (λ n. n) (flat_bits t) (map flat_bits ts) in
    let first : flat_bits t ≤ 128 = omega (arith, few, whole) in
    let rest : sum (map flat_bits ts) ≤ 128 = omega (arith, few, whole) in
    λ i. h.0 a.0 b.0 first i && parts_narrow ts h.1 a.1 b.1 rest i

no_zero : (n b : ℕ) → not (is_zero n) ≡ true → n * b ≤ 128 → b ≤ 128
no_zero zero b e l = absurd (true≢false (sym e))
no_zero (suc n) b e l = let more = suc-mul n b in omega (arith, l, more)

pub narrow : (t : DslxType) → IsNarrow t
narrow = type_induction IsNarrow
    (λ s w h z few.
    ap are_narrow (plain_is (DslxType-F.Bits s w) (ty.Bits s w) (rolls.rolls-Bits s w))
    ∙ width_narrow w (sym (in_bits s w) ∙ h) (subst (λ n. n ≤ 128) (bits_are (DslxType-F.Bits s w) (ty.Bits s w) (rolls.rolls-Bits s w)) few))
    (λ ts each h z few.
    ap are_narrow (plain_is (DslxType-F.Tuple ts) (ty.Tuple ts) (rolls.rolls-Tuple ts)) ∙ fold-Tuple Bool widths_step (map plain_type ts)
    ∙ parts_narrow ts each (sym (in_tuple ts) ∙ h) (sym (sized_is (DslxType-F.Tuple ts) (ty.Tuple ts) (rolls.rolls-Tuple ts)) ∙ z)
    (subst (λ n. n ≤ 128) (bits_are (DslxType-F.Tuple ts) (ty.Tuple ts) (rolls.rolls-Tuple ts)) few))
    (λ t n one h z few.
    let q = and_true (not (is_zero n)) (is_sized t) (sym (sized_is (DslxType-F.Array t n) (ty.Array t n) (rolls.rolls-Array t n)) ∙ z) in
    ap are_narrow (plain_is (DslxType-F.Array t n) (ty.Array t n) (rolls.rolls-Array t n)) ∙ fold-Array Bool widths_step (plain_type t) n
    ∙ one (sym (in_array t n) ∙ h) q.1 (no_zero n (flat_bits t) q.0 (subst (λ k. k ≤ 128) (bits_are (DslxType-F.Array t n) (ty.Array t n) (rolls.rolls-Array t n)) few)))
    (λ name fields ts each h z few.
    ap are_narrow (plain_is (DslxType-F.Struct name fields ts) (ty.Struct name fields ts) (rolls.rolls-Struct name fields ts)) ∙ fold-Tuple Bool widths_step (map plain_type ts)
    ∙ parts_narrow ts each (sym (in_struct name fields ts) ∙ h) (sym (sized_is (DslxType-F.Struct name fields ts) (ty.Struct name fields ts) (rolls.rolls-Struct name fields ts)) ∙ z)
    (subst (λ n. n ≤ 128) (bits_are (DslxType-F.Struct name fields ts) (ty.Struct name fields ts) (rolls.rolls-Struct name fields ts)) few))
    (λ name s w h z few.
    ap are_narrow (plain_is (DslxType-F.Enum name s w) (ty.Enum name s w) (rolls.rolls-Enum name s w))
    ∙ width_narrow w (sym (in_enum name s w) ∙ h) (subst (λ n. n ≤ 128) (bits_are (DslxType-F.Enum name s w) (ty.Enum name s w) (rolls.rolls-Enum name s w)) few))
    (λ h z few. ap are_narrow (plain_is DslxType-F.Token ty.Token rolls.rolls-Token) ∙ fold-Tuple Bool widths_step [])
