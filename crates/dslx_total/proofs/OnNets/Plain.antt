-- A value of a type is, without signs and names, one of the type without them; and all bits in a type within the limits are 1 to 128 wide.
use Rattle.std.proofs.Common.{◌≡◌, ◌≤◌, ◌++◌, ◌&&◌, ◌^◌, ℕ, Bool, true, false, if◌then◌else◌, List, [], ◌∷◌, map, length, refl, sym, ap, ◌∙◌}
use mathlib.Core.Bool.{true≢false}
use Rattle.std.specs.Prelude.{nat_le, nat_lt}
use Rattle.std.specs.List.{list_all}
use Rattle.std.proofs.lemmas.Bool.{ltb-false}
use Rattle.std.proofs.lemmas.Bool.Decides.{Decides-eqb}
use Rattle.std.proofs.lemmas.List.{length-map}
use Rattle.xb_bits.specs.Word.{Word}
use Rattle.xb_span.specs.declared.fault.Fault.TheVariants.{Passed}
use Rattle.xb_span.specs.declared.limit.What.TheVariants as what
use Rattle.xb_value.specs.Typing.{array_fits, bits_fit, each_passes, fits, is_word_of, tuple_fits}
use Rattle.xb_value.specs.Width.{widths_step}
use Rattle.xb_value.specs.declared.ty.Ty.{Ty, fold-Ty}
use Rattle.xb_value.specs.declared.ty.Ty as pty
use Rattle.xb_value.specs.declared.value.Value.{Value}
use Rattle.xb_value.specs.declared.value.Value as plain
use Rattle.xb_value.specs.declared.value.Value.TheViews as plain_views
use Rattle.xb_value.proofs.Lemmas.Types.{EachHas, fold-Array, fold-Bits, fold-Tuple}
use Rattle.xb_value.proofs.Lemmas.Typing.{fits-Array, fits-Bits, fits-Tuple}
use Rattle.dslx_meaning.specs.Types.{plain_type}
use Rattle.dslx_meaning.specs.Values.{forget_step, plain_value}
use Rattle.dslx_meaning.specs.declared.ty.DslxType as ty
use Rattle.dslx_meaning.specs.declared.ty.DslxType.{DslxType}
use Rattle.dslx_meaning.specs.declared.ty.DslxType.TheFolds.{fold-roll-DslxType, map-DslxType}
use Rattle.dslx_meaning.specs.declared.ty.DslxType.TheOpen.{DslxType-F}
use Rattle.dslx_meaning.specs.declared.ty.DslxType.TheVariants as rolls
use Rattle.dslx_meaning.specs.declared.ty.DslxType.TheViews as type_views
use Rattle.dslx_meaning.specs.declared.value.DslxValue.{DslxValue, out-DslxValue}
use Rattle.dslx_meaning.specs.declared.value.DslxValue.TheFolds.{fold-roll-DslxValue, map-DslxValue}
use Rattle.dslx_meaning.specs.declared.value.DslxValue.TheOpen.{DslxValue-F}
use Rattle.dslx_meaning.specs.declared.value.DslxValue.TheViews as views
use Rattle.dslx_meaning.specs.Rules.TypeEnvs.{all_widths, found_number, leaf_widths, passes, passes_widths, widths_in}
use Rattle.dslx_core.proofs.Lemmas.Typing.Laws.{and_true}
use Rattle.dslx_core.proofs.Lemmas.Typing.Sound.{none_in, some_fault}
use Rattle.dslx_core.proofs.Lemmas.Typing.Typed.{is_array_of, is_bits_of, is_enum_of, is_struct_of, is_tuple_of, is_token_of, type_induction}
use Rattle.dslx_core.specs.Typing.Typed.Kinds.{each_of, is_of, lies_in}
use Rattle.dslx_total.specs.Expressions.Beside.{has_widths}
use Rattle.dslx_total.proofs.OnWords.Narrow.{are_narrow, plain_is, width_narrow}
use Rattle.dslx_total.proofs.Lemmas.Expressions.{in_array, in_bits, in_enum, in_struct, in_tuple}

plain_level : (v : DslxValue) (l : DslxValue-F DslxValue) → out-DslxValue v ≡ l → plain_value v ≡ forget_step (map-DslxValue DslxValue Value plain_value l)
plain_level v l e = ap plain_value (sym (views.roll-out-DslxValue v) ∙ ap views.roll-DslxValue e) ∙ fold-roll-DslxValue Value forget_step l

-- ---- values

abbrev PlainTyped : DslxType → Type 0
PlainTyped t = (v : DslxValue) → is_of t v ≡ true → are_narrow (plain_type t) ≡ true → fits (plain_type t) (plain_value v) ≡ true

word_typed : (w : ℕ) (x : Word) → x.width ≡ w → lies_in x ≡ true → (nat_le 1 w && nat_le w 128) ≡ true → is_word_of w x ≡ true
word_typed w x e lies narrow =
    let both = and_true (nat_le 1 w) (nat_le w 128) narrow in
    let same = (Decides-eqb x.width w).1 e in
    let low : nat_lt x.value (2 ^ w) ≡ true = ap (λ n. nat_lt x.value (2 ^ n)) (sym e) ∙ lies in
    λ i. same i && both.0 i && both.1 i && low i

bits_typed : (w : ℕ) (t : DslxType) (v : DslxValue) (x : Word) → plain_type t ≡ pty.Bits w → plain_value v ≡ plain.Bits x → x.width ≡ w → lies_in x ≡ true → are_narrow (plain_type t) ≡ true
    → fits (plain_type t) (plain_value v) ≡ true
bits_typed w t v x p q e lies narrow =
    (λ i. fits (p i) (q i)) ∙ fits-Bits w (plain.Bits x) ∙ ap (bits_fit w) (plain_views.outs-Bits x)
    ∙ word_typed w x e lies (sym (ap are_narrow p ∙ fold-Bits Bool widths_step w) ∙ narrow)

parts_typed : (ts : List DslxType) (vs : List DslxValue) → EachHas PlainTyped ts → each_of (map is_of ts) vs ≡ true → list_all (λ b. b) (map are_narrow (map plain_type ts)) ≡ true
    → each_passes (map fits (map plain_type ts)) (map plain_value vs) ≡ true
parts_typed [] [] h e n = refl
parts_typed [] (v ∷ vs) h e n = absurd (true≢false (sym e))
parts_typed (t ∷ ts) [] h e n = absurd (true≢false (sym e))
parts_typed (t ∷ ts) (v ∷ vs) h e n =
    let q = and_true (is_of t v) (each_of (map is_of ts) vs) e in
    let r = and_true (are_narrow (plain_type t)) (list_all (λ b. b) (map are_narrow (map plain_type ts))) n in
    λ i. h.0 v q.0 r.0 i && parts_typed ts vs h.1 q.1 r.1 i

tuple_typed : (ts : List DslxType) (t : DslxType) (v : DslxValue) (vs : List DslxValue) → EachHas PlainTyped ts → plain_type t ≡ pty.Tuple (map plain_type ts) → plain_value v ≡ plain.Tuple (map plain_value vs)
    → each_of (map is_of ts) vs ≡ true → are_narrow (plain_type t) ≡ true → fits (plain_type t) (plain_value v) ≡ true
tuple_typed ts t v vs h p q e narrow =
    (λ i. fits (p i) (q i)) ∙ fits-Tuple (map plain_type ts) (plain.Tuple (map plain_value vs)) ∙ ap (tuple_fits (map fits (map plain_type ts))) (plain_views.outs-Tuple (map plain_value vs))
    ∙ parts_typed ts vs h e (sym (ap are_narrow p ∙ fold-Tuple Bool widths_step (map plain_type ts)) ∙ narrow)

elements_typed : (t : DslxType) (vs : List DslxValue) → PlainTyped t → list_all (is_of t) vs ≡ true → are_narrow (plain_type t) ≡ true → list_all (fits (plain_type t)) (map plain_value vs) ≡ true
elements_typed t [] h e n = refl
elements_typed t (v ∷ vs) h e n = let q = and_true (is_of t v) (list_all (is_of t) vs) e in λ i. h v q.0 n i && elements_typed t vs h q.1 n i

pub plain_typed : (t : DslxType) → PlainTyped t
plain_typed = type_induction PlainTyped
    (λ s w v of narrow.
    let q = is_bits_of s w v of in
    bits_typed w (ty.Bits s w) v q.0 (plain_is (DslxType-F.Bits s w) (ty.Bits s w) (rolls.rolls-Bits s w)) (plain_level v (DslxValue-F.Bits s q.0) q.1) q.2 q.3 narrow)
    (λ ts h v of narrow.
    let q = is_tuple_of ts v of in
    tuple_typed ts (ty.Tuple ts) v q.0 h (plain_is (DslxType-F.Tuple ts) (ty.Tuple ts) (rolls.rolls-Tuple ts)) (plain_level v (DslxValue-F.Tuple q.0) q.1) q.2 narrow)
    (λ t n h v of narrow.
    let q = is_array_of t n v of in
    let vs = q.elements in
    let p = plain_is (DslxType-F.Array t n) (ty.Array t n) (rolls.rolls-Array t n) in
    let r = plain_level v (DslxValue-F.Array vs) q.out in
    let many = (Decides-eqb (length (map plain_value vs)) n).1 (length-map vs plain_value ∙ sym q.count) in
    let all = elements_typed t vs h q.all (sym (ap are_narrow p ∙ fold-Array Bool widths_step (plain_type t) n) ∙ narrow) in
    (λ i. fits (p i) (r i)) ∙ fits-Array (plain_type t) n (plain.Array (map plain_value vs)) ∙ ap (array_fits (fits (plain_type t)) n) (plain_views.outs-Array (map plain_value vs))
    ∙ (λ i. many i && all i))
    (λ name fields ts h v of narrow.
    let q = is_struct_of name fields ts v of in
    tuple_typed ts (ty.Struct name fields ts) v q.0 h (plain_is (DslxType-F.Struct name fields ts) (ty.Struct name fields ts) (rolls.rolls-Struct name fields ts)) (plain_level v (DslxValue-F.Struct name fields q.0) q.1) q.2 narrow)
    (λ name s w v of narrow.
    let q = is_enum_of name s w v of in
    bits_typed w (ty.Enum name s w) v q.0 (plain_is (DslxType-F.Enum name s w) (ty.Enum name s w) (rolls.rolls-Enum name s w)) (plain_level v (DslxValue-F.Enum name s q.0) q.1) q.2 q.3 narrow)
    (λ v of narrow.
    tuple_typed [] ty.Token v [] tt (plain_is DslxType-F.Token ty.Token rolls.rolls-Token) (plain_level v DslxValue-F.Token (is_token_of v of)) refl narrow)

-- ---- widths

-- within the limits on leaves
abbrev NarrowLeaves : DslxType → Type 0
NarrowLeaves t = (at : ℕ) → has_widths t ≡ true → passes_widths at (leaf_widths t) ≡ [] → are_narrow (plain_type t) ≡ true

leaves_are : (l : DslxType-F DslxType) (t : DslxType) → type_views.roll-DslxType l ≡ t → leaf_widths t ≡ widths_in (map-DslxType DslxType (List ℕ) leaf_widths l)
leaves_are l t e = ap leaf_widths (sym e) ∙ fold-roll-DslxType (List ℕ) widths_in l

widths_behind : (at : ℕ) (xs ys : List ℕ) → passes_widths at (xs ++ ys) ≡ [] → (passes_widths at xs ≡ []) × (passes_widths at ys ≡ [])
widths_behind at [] ys e = (refl, e)
widths_behind at (x ∷ xs) ys e =
    let q = none_in (passes what.Width 128 at x) (passes_widths at (xs ++ ys)) e in
    let r = widths_behind at xs ys q.1 in
    ((λ i. q.0 i ++ r.0 i), r.1)

within_width : (at w : ℕ) → passes what.Width 128 at w ≡ [] → w ≤ 128
within_width at w e = by_test (nat_lt 128 w) refl e
  where
    by_test : (b : Bool) → nat_lt 128 w ≡ b → (if b then Passed at (record { what = what.Width; found = found_number w; most = 128 }) ∷ [] else []) ≡ [] → w ≤ 128
    by_test true q f = some_fault (Passed at (record { what = what.Width; found = found_number w; most = 128 })) [] f
    by_test false q f = ltb-false 128 w q

leaf_within : (at w : ℕ) → passes_widths at (w ∷ []) ≡ [] → w ≤ 128
leaf_within at w e = within_width at w (none_in (passes what.Width 128 at w) [] e).0

all_narrow : (ts : List DslxType) → EachHas NarrowLeaves ts → (at : ℕ) → list_all (λ b. b) (map has_widths ts) ≡ true → passes_widths at (all_widths (map leaf_widths ts)) ≡ []
    → list_all (λ b. b) (map are_narrow (map plain_type ts)) ≡ true
all_narrow [] h at w e = refl
all_narrow (t ∷ ts) h at w e =
    let a = and_true (has_widths t) (list_all (λ b. b) (map has_widths ts)) w in
    let b = widths_behind at (leaf_widths t) (all_widths (map leaf_widths ts)) e in
    λ i. h.0 at a.0 b.0 i && all_narrow ts h.1 at a.1 b.1 i

pub narrow_leaves : (t : DslxType) → NarrowLeaves t
narrow_leaves = type_induction NarrowLeaves
    (λ s w at h e.
    ap are_narrow (plain_is (DslxType-F.Bits s w) (ty.Bits s w) (rolls.rolls-Bits s w))
    ∙ width_narrow w (sym (in_bits s w) ∙ h) (leaf_within at w (ap (passes_widths at) (sym (leaves_are (DslxType-F.Bits s w) (ty.Bits s w) (rolls.rolls-Bits s w))) ∙ e)))
    (λ ts each at h e.
    ap are_narrow (plain_is (DslxType-F.Tuple ts) (ty.Tuple ts) (rolls.rolls-Tuple ts)) ∙ fold-Tuple Bool widths_step (map plain_type ts)
    ∙ all_narrow ts each at (sym (in_tuple ts) ∙ h) (ap (passes_widths at) (sym (leaves_are (DslxType-F.Tuple ts) (ty.Tuple ts) (rolls.rolls-Tuple ts))) ∙ e))
    (λ t n one at h e.
    ap are_narrow (plain_is (DslxType-F.Array t n) (ty.Array t n) (rolls.rolls-Array t n)) ∙ fold-Array Bool widths_step (plain_type t) n
    ∙ one at (sym (in_array t n) ∙ h) (ap (passes_widths at) (sym (leaves_are (DslxType-F.Array t n) (ty.Array t n) (rolls.rolls-Array t n))) ∙ e))
    (λ name fields ts each at h e.
    ap are_narrow (plain_is (DslxType-F.Struct name fields ts) (ty.Struct name fields ts) (rolls.rolls-Struct name fields ts)) ∙ fold-Tuple Bool widths_step (map plain_type ts)
    ∙ all_narrow ts each at (sym (in_struct name fields ts) ∙ h) (ap (passes_widths at) (sym (leaves_are (DslxType-F.Struct name fields ts) (ty.Struct name fields ts) (rolls.rolls-Struct name fields ts))) ∙ e))
    (λ name s w at h e.
    ap are_narrow (plain_is (DslxType-F.Enum name s w) (ty.Enum name s w) (rolls.rolls-Enum name s w))
    ∙ width_narrow w (sym (in_enum name s w) ∙ h) (leaf_within at w (ap (passes_widths at) (sym (leaves_are (DslxType-F.Enum name s w) (ty.Enum name s w) (rolls.rolls-Enum name s w))) ∙ e)))
    (λ at h e. ap are_narrow (plain_is DslxType-F.Token ty.Token rolls.rolls-Token) ∙ fold-Tuple Bool widths_step [])
