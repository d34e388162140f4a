-- Laws of the types of nodes.
use Rattle.std.proofs.Common.{◌≡◌, ℕ, zero, suc, ◌+◌, ◌*◌, ◌-◌, ◌<◌, ◌≤◌, max, List, ◌∷◌, ◌++◌, map, length, sum, get_or, Bool, true, false, ◌&&◌, IsTrue, Some, refl, sym, ap, subst, ◌∙◌, arith, []}
use Rattle.std.specs.Prelude.{slice_get, nat_eq, nat_lt, not, ◌||◌}
use Rattle.std.proofs.lemmas.Bool.Decides.{nat_tests}
use Rattle.std.proofs.lemmas.List.Folds.{list_all-append}
use Rattle.std.proofs.lemmas.List.Sums.{sum_by-cons}
use Rattle.xb_span.specs.declared.limit.What.TheVariants as what
use Rattle.xb_value.specs.declared.ty.Ty as ty
use Rattle.xb_value.specs.Width.{leaf_count, leaves_step}
use Rattle.xb_value.proofs.Lemmas.Types as tys
use Rattle.xb_value.proofs.Lemmas.Types.{EachHas}
use Rattle.ir_tree.specs.declared.ir_type.IrType.{IrType, Bits, Token, Tuple}
use Rattle.ir_tree.specs.declared.ir_type.IrType.TheViews.{outs-Bits, outs-Token}
use Rattle.ir_tree.specs.declared.ir_type.IrType.TheViews as views
use Rattle.ir_tree.specs.Types.{ty_of, bounded}
use Rattle.ir_tree.specs.declared.node_types.types.Marks.{Marks}
use Rattle.ir_tree.specs.NodeTypes.Types.{marks_of, are_sizes, is_empty, any_bits, all_sound, max_of, levels_of, levels_step, joined_lists, widths_in, widths_step, sizes_step, passes, bits_there, is_bits_where, bits_width, width_there, parts_there, is_tuple_where, same_numbers, each_same, bits_like, token_like, tuple_like, same_step, same_type, element_like, is_array_of, begins_with, is_array_sized}
use Rattle.ir_tree.proofs.Lemmas.NodeTypes.IrTypes.{fold-Bits, fold-Token, fold-Tuple, ty_of-Bits, ty_of-Token, ty_of-Tuple, type_cases}
use Rattle.ir_tree.specs.Rules.Checks as checks
use Rattle.ir_tree.specs.Rules.Checks.{limit_at}
use Rattle.ir_tree.specs.Rules.Typed.Typed.{none_broken}
use Rattle.ir_tree.proofs.Lemmas.Rules.Typed.Checked.{both_true, and_true, parts_not}
use Rattle.ir_tree.proofs.Lemmas.Rules.Typed.Tests.{IsSound, limited, limited_bits, marks-Bits, marks-Token, marks-Tuple, type_induction}
use Rattle.ir_rebuild.specs.Putting.Types.{array_of, array_step, element_of, element_step, part_of, part_or_unit}
use Rattle.ir_rebuild.specs.Putting.Given.{IsNodeType}

pub equal_number : (w : ℕ) → IsTrue (nat_eq w w)
equal_number w = grind (arith, nat_tests)

-- ---- tests of bits and tuples

pub bits_test : (p : ℕ → Bool) (w : ℕ) → is_bits_where p (Bits w []) ≡ p w
bits_test p w = ap (λ y. passes p (bits_there y)) (outs-Bits w [])

pub tuple_test : (p : List IrType → Bool) (ts : List IrType) → is_tuple_where p (Tuple ts []) ≡ p ts
tuple_test p ts = ap (λ y. passes p (parts_there y)) (views.outs-Tuple ts [])

pub width_is : (w : ℕ) → bits_width (Bits w []) ≡ w
width_is w = ap width_there (outs-Bits w [])

-- ---- a type is the same as itself

numbers_same : (ns : List ℕ) → IsTrue (same_numbers ns ns)
numbers_same [] = refl
numbers_same (n ∷ ns) = and_true (nat_eq n n) (same_numbers ns ns) (equal_number n) (numbers_same ns)

each_same_here : (ts : List IrType) → EachHas (λ t. IsTrue (same_type t t)) ts → IsTrue (each_same (map same_type ts) ts)
each_same_here [] each = refl
each_same_here (t ∷ ts) each = and_true (same_type t t) (each_same (map same_type ts) ts) each.0 (each_same_here ts each.1)

pub same_type_here : (t : IrType) → IsTrue (same_type t t)
same_type_here = type_induction (λ t. IsTrue (same_type t t))
    (λ w ns.
    ap (λ (f : IrType → Bool). f (Bits w ns)) (fold-Bits (IrType → Bool) same_step w ns)
    ∙ (ap (bits_like w ns) (outs-Bits w ns) ∙ and_true (nat_eq w w) (same_numbers ns ns) (equal_number w) (numbers_same ns)))
    (λ ns. ap (λ (f : IrType → Bool). f (Token ns)) (fold-Token (IrType → Bool) same_step ns) ∙ (ap (token_like ns) (outs-Token ns) ∙ numbers_same ns))
    (λ ts ns each.
    ap (λ (f : IrType → Bool). f (Tuple ts ns)) (fold-Tuple (IrType → Bool) same_step ts ns)
    ∙ (ap (tuple_like (map same_type ts) ns) (views.outs-Tuple ts ns) ∙ and_true (each_same (map same_type ts) ts) (same_numbers ns ns) (each_same_here ts each) (numbers_same ns)))

all_here : (ts : List IrType) → EachHas (λ t. IsTrue (same_type t t)) ts
all_here [] = tt
all_here (t ∷ ts) = (same_type_here t, all_here ts)

pub types_same_here : (ts : List IrType) → IsTrue (each_same (map same_type ts) ts)
types_same_here ts = each_same_here ts (all_here ts)

-- ---- arrays

pub array-Bits : (n w : ℕ) (ns : List ℕ) → array_of n (Bits w ns) ≡ Bits w (n ∷ ns)
array-Bits n w ns = ap (array_step n) (outs-Bits w ns)

pub array-Token : (n : ℕ) (ns : List ℕ) → array_of n (Token ns) ≡ Token (n ∷ ns)
array-Token n ns = ap (array_step n) (outs-Token ns)

pub array-Tuple : (n : ℕ) (ts : List IrType) (ns : List ℕ) → array_of n (Tuple ts ns) ≡ Tuple ts (n ∷ ns)
array-Tuple n ts ns = ap (array_step n) (views.outs-Tuple ts ns)

-- the element of an array of these
pub element_array : (n : ℕ) (t : IrType) → element_of (array_of n t) ≡ t
element_array n = type_cases (λ t. element_of (array_of n t) ≡ t)
    (λ w ns. ap element_of (array-Bits n w ns) ∙ ap element_step (outs-Bits w (n ∷ ns)))
    (λ ns. ap element_of (array-Token n ns) ∙ ap element_step (outs-Token (n ∷ ns)))
    (λ ts ns. ap element_of (array-Tuple n ts ns) ∙ ap element_step (views.outs-Tuple ts (n ∷ ns)))

pub is_array : (n : ℕ) (t : IrType) → IsTrue (is_array_of (array_of n t) t)
is_array n = type_cases (λ t. IsTrue (is_array_of (array_of n t) t))
    (λ w ns.
    ap (λ a. is_array_of a (Bits w ns)) (array-Bits n w ns)
    ∙ (ap (λ y. element_like y (Bits w ns)) (outs-Bits w (n ∷ ns)) ∙ (ap (bits_like w ns) (outs-Bits w ns) ∙ and_true (nat_eq w w) (same_numbers ns ns) (equal_number w) (numbers_same ns))))
    (λ ns.
    ap (λ a. is_array_of a (Token ns)) (array-Token n ns)
    ∙ (ap (λ y. element_like y (Token ns)) (outs-Token (n ∷ ns)) ∙ (ap (token_like ns) (outs-Token ns) ∙ numbers_same ns)))
    (λ ts ns.
    ap (λ a. is_array_of a (Tuple ts ns)) (array-Tuple n ts ns)
    ∙ (ap (λ y. element_like y (Tuple ts ns)) (views.outs-Tuple ts (n ∷ ns)) ∙ (ap (tuple_like (map same_type ts) ns) (views.outs-Tuple ts ns) ∙ and_true (each_same (map same_type ts) ts) (same_numbers ns ns) (types_same_here ts) (numbers_same ns))))

pub array_sized : (n : ℕ) (t : IrType) → IsTrue (is_array_sized n (array_of n t))
array_sized n = type_cases (λ t. IsTrue (is_array_sized n (array_of n t)))
    (λ w ns. ap (is_array_sized n) (array-Bits n w ns) ∙ (ap (λ y. begins_with n (sizes_step y)) (outs-Bits w (n ∷ ns)) ∙ equal_number n))
    (λ ns. ap (is_array_sized n) (array-Token n ns) ∙ (ap (λ y. begins_with n (sizes_step y)) (outs-Token (n ∷ ns)) ∙ equal_number n))
    (λ ts ns. ap (is_array_sized n) (array-Tuple n ts ns) ∙ (ap (λ y. begins_with n (sizes_step y)) (views.outs-Tuple ts (n ∷ ns)) ∙ equal_number n))

-- ---- parts of tuples

pub part_tuple : (ts : List IrType) (i : ℕ) (t : IrType) → slice_get ts i ≡ Some t → part_of (Tuple ts []) i ≡ t
part_tuple ts i t h = ap (λ y. part_or_unit (parts_there y) i) (views.outs-Tuple ts []) ∙ there ts i h
  where
    there : (us : List IrType) (j : ℕ) → slice_get us j ≡ Some t → get_or us j (Tuple [] []) ≡ t
    there [] j h = absurd (cc)
    there (u ∷ us) zero h = cc
    there (u ∷ us) (suc j) h = there us j h

-- ---- types within the limits

-- what limits ask of three numbers of a type
abbrev limits_by : List ℕ → ℕ → ℕ → Bool
limits_by ws leaves levels = none_broken (map (λ w. limit_at 0 what.Width w 128) ws ++ limit_at 0 what.Leaves leaves 256 ∷ limit_at 0 what.Levels (checks.bounded levels - 0) 64 ∷ [])

record AreWithin (ws : List ℕ) (leaves levels : ℕ) : Type 0 where
  widths : IsTrue (none_broken (map (λ w. limit_at 0 what.Width w 128) ws))
  leaves_few : leaves ≤ 256
  levels_few : levels ≤ 64

test_few : (n most : ℕ) → IsTrue (not (nat_lt most n)) → n ≤ most
test_few n most h = grind (arith, nat_tests, h)

few_test : (n most : ℕ) → n ≤ most → IsTrue (not (nat_lt most n))
few_test n most h = grind (arith, nat_tests, h)

limits_say : (ws : List ℕ) (leaves levels : ℕ) → IsTrue (limits_by ws leaves levels) → AreWithin ws leaves levels
limits_say ws leaves levels h =
    let parts = parts_not (map (λ w. limit_at 0 what.Width w 128) ws) (limit_at 0 what.Leaves leaves 256 ∷ limit_at 0 what.Levels (checks.bounded levels - 0) 64 ∷ []) h in
    let last = both_true (not (nat_lt 256 (checks.bounded leaves))) (not (nat_lt 64 (checks.bounded (checks.bounded levels - 0))) && true) parts.1 in
    let few = test_few (checks.bounded leaves) 256 last.0 in
    let flat = test_few (checks.bounded (checks.bounded levels - 0)) 64 (both_true (not (nat_lt 64 (checks.bounded (checks.bounded levels - 0)))) true last.1).0 in
    record { widths = parts.0; leaves_few = omega (arith, few); levels_few = omega (arith, flat) }

say_limits : (ws : List ℕ) (leaves levels : ℕ) → AreWithin ws leaves levels → IsTrue (limits_by ws leaves levels)
say_limits ws leaves levels h =
    let few = h.leaves_few in
    let flat = h.levels_few in
    let first : checks.bounded leaves ≤ 256 = omega (arith, few) in
    let second : checks.bounded (checks.bounded levels - 0) ≤ 64 = omega (arith, flat) in
    list_all-append (λ (c : checks.Check). not c.broken) (map (λ w. limit_at 0 what.Width w 128) ws) (limit_at 0 what.Leaves leaves 256 ∷ limit_at 0 what.Levels (checks.bounded levels - 0) 64 ∷ [])
    ∙ and_true (none_broken (map (λ w. limit_at 0 what.Width w 128) ws)) _ h.widths
    (and_true (not (nat_lt 256 (checks.bounded leaves))) _ (few_test (checks.bounded leaves) 256 first)
    (and_true (not (nat_lt 64 (checks.bounded (checks.bounded levels - 0)))) true (few_test (checks.bounded (checks.bounded levels - 0)) 64 second) refl))

within : (t : IrType) → IsNodeType t → AreWithin (widths_in t) (leaf_count (ty_of t)) (levels_of t)
within t h = limits_say (widths_in t) (leaf_count (ty_of t)) (levels_of t) h.limits

node_type : (t : IrType) → IsSound t → AreWithin (widths_in t) (leaf_count (ty_of t)) (levels_of t) → IsNodeType t
node_type t s h = record { sound = s; limits = say_limits (widths_in t) (leaf_count (ty_of t)) (levels_of t) h }

-- ---- bits

pub number_bounds : (w : ℕ) → IsNodeType (Bits w []) → (1 ≤ w) × (w ≤ 128)
number_bounds w h = limited_bits w (limited 0 (Bits w []) 0 h.sound h.limits)

width_within : (w : ℕ) → w ≤ 128 → IsTrue (none_broken (map (λ w. limit_at 0 what.Width w 128) (w ∷ [])))
width_within w h =
    let small : checks.bounded w ≤ 128 = omega (arith, h) in
    and_true (not (nat_lt 128 (checks.bounded w))) true (few_test (checks.bounded w) 128 small) refl

pub bits_type : (w : ℕ) → 1 ≤ w → w ≤ 128 → IsNodeType (Bits w [])
bits_type w some most = node_type (Bits w []) sound (record {
  widths = subst (λ ws. IsTrue (none_broken (map (λ w. limit_at 0 what.Width w 128) ws))) (sym widths) (width_within w most);
  leaves_few = subst (λ n. n ≤ 256) (sym leaves) (omega arith);
  levels_few = subst (λ n. n ≤ 64) (sym levels) (omega arith);
})
  where
    sound : IsSound (Bits w [])
    sound =
        let least : IsTrue (nat_lt 0 w) = grind (arith, nat_tests, some) in
        ap (λ (m : Marks). m.sound) (marks-Bits w []) ∙ and_true (nat_lt 0 w) true least refl

    widths : widths_in (Bits w []) ≡ w ∷ []
    widths = fold-Bits (List ℕ) widths_step w []

    leaves : leaf_count (ty_of (Bits w [])) ≡ 1
    leaves = ap leaf_count (ty_of-Bits w []) ∙ tys.fold-Bits ℕ leaves_step (bounded w)

    levels : levels_of (Bits w []) ≡ 0
    levels = fold-Bits ℕ levels_step w []

pub unit_type : IsNodeType (Tuple [] [])
unit_type = node_type (Tuple [] []) (ap (λ (m : Marks). m.sound) (marks-Tuple [] [])) (record {
  widths = subst (λ ws. IsTrue (none_broken (map (λ w. limit_at 0 what.Width w 128) ws))) (sym widths) refl;
  leaves_few = subst (λ n. n ≤ 256) (sym leaves) (omega arith);
  levels_few = subst (λ n. n ≤ 64) (sym levels) (omega arith);
})
  where
    widths : widths_in (Tuple [] []) ≡ []
    widths = fold-Tuple (List ℕ) widths_step [] []

    leaves : leaf_count (ty_of (Tuple [] [])) ≡ 0
    leaves = ap leaf_count (ty_of-Tuple [] []) ∙ tys.fold-Tuple ℕ leaves_step []

    levels : levels_of (Tuple [] []) ≡ 1
    levels = fold-Tuple ℕ levels_step [] []

-- ---- the parts of a tuple

abbrev AreNarrow : List ℕ → Type 0
AreNarrow ws = IsTrue (none_broken (map (λ w. limit_at 0 what.Width w 128) ws))

regroup : (a b c : Bool) → (a && (b && c)) ≡ ((a && b) && c)
regroup true b c = refl
regroup false b c = refl

widths_split : (xs ys : List ℕ) → none_broken (map (λ w. limit_at 0 what.Width w 128) (xs ++ ys)) ≡ (none_broken (map (λ w. limit_at 0 what.Width w 128) xs) && none_broken (map (λ w. limit_at 0 what.Width w 128) ys))
widths_split [] ys = refl
widths_split (x ∷ xs) ys = ap (λ b. not (nat_lt 128 (checks.bounded x)) && b) (widths_split xs ys) ∙ regroup (not (nat_lt 128 (checks.bounded x))) _ _

widths_both : (xs ys : List ℕ) → AreNarrow (xs ++ ys) → AreNarrow xs × AreNarrow ys
widths_both xs ys h = both_true _ _ (sym (widths_split xs ys) ∙ h)

part_widths : (ts : List IrType) (i : ℕ) (t : IrType) → slice_get ts i ≡ Some t → AreNarrow (joined_lists (map widths_in ts)) → AreNarrow (widths_in t)
part_widths [] i t e h = absurd (cc)
part_widths (u ∷ us) zero t e h = let same : u ≡ t = cc in subst (λ x. AreNarrow (widths_in x)) same (widths_both (widths_in u) (joined_lists (map widths_in us)) h).0
part_widths (u ∷ us) (suc i) t e h = part_widths us i t e (widths_both (widths_in u) (joined_lists (map widths_in us)) h).1

sum_first : (u : IrType) (us : List IrType) → sum (map leaf_count (map ty_of (u ∷ us))) ≡ leaf_count (ty_of u) + sum (map leaf_count (map ty_of us))
sum_first u us = sum_by-cons (λ x. x) (leaf_count (ty_of u)) (map leaf_count (map ty_of us))

part_sum : (ts : List IrType) (i : ℕ) (t : IrType) → slice_get ts i ≡ Some t → leaf_count (ty_of t) ≤ sum (map leaf_count (map ty_of ts))
part_sum [] i t e = absurd (cc)
part_sum (u ∷ us) zero t e =
    let same : u ≡ t = cc in
    subst (λ x. leaf_count (ty_of x) ≤ sum (map leaf_count (map ty_of (u ∷ us)))) same
    (subst (λ c. leaf_count (ty_of u) ≤ c) (sym (sum_first u us)) (omega arith))
part_sum (u ∷ us) (suc i) t e =
    let rest = part_sum us i t e in
    subst (λ c. leaf_count (ty_of t) ≤ c) (sym (sum_first u us)) (omega (arith, rest))

at_left : (a b : ℕ) → a ≤ max a b
at_left a b = omega arith

at_right : (a b c : ℕ) → a ≤ c → a ≤ max b c
at_right a b c h = omega (arith, h)

part_levels : (ts : List IrType) (i : ℕ) (t : IrType) → slice_get ts i ≡ Some t → levels_of t ≤ max_of (map levels_of ts)
part_levels [] i t e = absurd (cc)
part_levels (u ∷ us) zero t e = let same : u ≡ t = cc in subst (λ x. levels_of x ≤ max_of (map levels_of (u ∷ us))) same (at_left (levels_of u) (max_of (map levels_of us)))
part_levels (u ∷ us) (suc i) t e = at_right (levels_of t) (levels_of u) (max_of (map levels_of us)) (part_levels us i t e)

part_sound : (ts : List IrType) (i : ℕ) (t : IrType) → slice_get ts i ≡ Some t → IsTrue (all_sound (map marks_of ts)) → IsSound t
part_sound [] i t e h = absurd (cc)
part_sound (u ∷ us) zero t e h = let same : u ≡ t = cc in subst IsSound same (both_true (marks_of u).sound (all_sound (map marks_of us)) h).0
part_sound (u ∷ us) (suc i) t e h = part_sound us i t e (both_true (marks_of u).sound (all_sound (map marks_of us)) h).1

-- a part of a tuple that a node may have is a type that one may have
pub part_type : (ts : List IrType) (i : ℕ) (t : IrType) → slice_get ts i ≡ Some t → IsNodeType (Tuple ts []) → IsNodeType t
part_type ts i t e h = node_type t (part_sound ts i t e (both_true (all_sound (map marks_of ts)) _ (sym (ap (λ (m : Marks). m.sound) (marks-Tuple ts [])) ∙ h.sound)).0) (record {
  widths = part_widths ts i t e (subst (λ ws. IsTrue (none_broken (map (λ w. limit_at 0 what.Width w 128) ws))) (fold-Tuple (List ℕ) widths_step ts []) (within (Tuple ts []) h).widths);
  leaves_few =
      let some = part_sum ts i t e in
      let whole : leaf_count (ty_of (Tuple ts [])) ≡ sum (map leaf_count (map ty_of ts)) = ap leaf_count (ty_of-Tuple ts []) ∙ tys.fold-Tuple ℕ leaves_step (map ty_of ts) in
      let few = (within (Tuple ts []) h).leaves_few in
      omega (arith, some, whole, few);
  levels_few =
      let some = part_levels ts i t e in
      let whole : levels_of (Tuple ts []) ≡ 0 + (max_of (map levels_of ts) + 1) = fold-Tuple ℕ levels_step ts [] in
      let few = (within (Tuple ts []) h).levels_few in
      omega (arith, some, whole, few);
})

-- ---- the elements of an array

array_widths : (n : ℕ) (t : IrType) → widths_in (array_of n t) ≡ widths_in t
array_widths n = type_cases (λ t. widths_in (array_of n t) ≡ widths_in t)
    (λ w ns. ap widths_in (array-Bits n w ns) ∙ (fold-Bits (List ℕ) widths_step w (n ∷ ns) ∙ sym (fold-Bits (List ℕ) widths_step w ns)))
    (λ ns. ap widths_in (array-Token n ns) ∙ (fold-Token (List ℕ) widths_step (n ∷ ns) ∙ sym (fold-Token (List ℕ) widths_step ns)))
    (λ ts ns. ap widths_in (array-Tuple n ts ns) ∙ (fold-Tuple (List ℕ) widths_step ts (n ∷ ns) ∙ sym (fold-Tuple (List ℕ) widths_step ts ns)))

-- the type of its values
pub array_ty : (n : ℕ) (t : IrType) → ty_of (array_of n t) ≡ ty.Array (ty_of t) (bounded n)
array_ty n = type_cases (λ t. ty_of (array_of n t) ≡ ty.Array (ty_of t) (bounded n))
    (λ w ns. ap ty_of (array-Bits n w ns) ∙ (ty_of-Bits w (n ∷ ns) ∙ ap (λ u. ty.Array u (bounded n)) (sym (ty_of-Bits w ns))))
    (λ ns. ap ty_of (array-Token n ns) ∙ (ty_of-Token (n ∷ ns) ∙ ap (λ u. ty.Array u (bounded n)) (sym (ty_of-Token ns))))
    (λ ts ns. ap ty_of (array-Tuple n ts ns) ∙ (ty_of-Tuple ts (n ∷ ns) ∙ ap (λ u. ty.Array u (bounded n)) (sym (ty_of-Tuple ts ns))))

array_levels : (n : ℕ) (t : IrType) → levels_of (array_of n t) ≡ suc (levels_of t)
array_levels n = type_cases (λ t. levels_of (array_of n t) ≡ suc (levels_of t))
    (λ w ns. ap levels_of (array-Bits n w ns) ∙ (fold-Bits ℕ levels_step w (n ∷ ns) ∙ ap suc (sym (fold-Bits ℕ levels_step w ns))))
    (λ ns. ap levels_of (array-Token n ns) ∙ (fold-Token ℕ levels_step (n ∷ ns) ∙ ap suc (sym (fold-Token ℕ levels_step ns))))
    (λ ts ns.
    ap levels_of (array-Tuple n ts ns)
    ∙ (fold-Tuple ℕ levels_step ts (n ∷ ns) ∙ (more (length ns) (max_of (map levels_of ts)) ∙ ap suc (sym (fold-Tuple ℕ levels_step ts ns)))))
  where
    more : (a b : ℕ) → suc a + (b + 1) ≡ suc (a + (b + 1))
    more a b = omega arith

record IsSoundArray (n : ℕ) (t : IrType) : Type 0 where
  some : IsTrue (nat_lt 0 n)
  sound : IsSound t

any_or : (ns : List ℕ) (b : Bool) → IsTrue b → IsTrue (is_empty ns || b)
any_or [] b h = refl
any_or (n ∷ ns) b h = h

sound_array : (n : ℕ) (t : IrType) → IsSound (array_of n t) → IsSoundArray n t
sound_array n = type_cases (λ t. IsSound (array_of n t) → IsSoundArray n t)
    (λ w ns h.
    let all = both_true (nat_lt 0 w) (nat_lt 0 n && are_sizes ns) (sym (ap (λ t. (marks_of t).sound) (array-Bits n w ns) ∙ ap (λ (m : Marks). m.sound) (marks-Bits w (n ∷ ns))) ∙ h) in
    let sizes = both_true (nat_lt 0 n) (are_sizes ns) all.1 in
    record { some = sizes.0; sound = ap (λ (m : Marks). m.sound) (marks-Bits w ns) ∙ and_true (nat_lt 0 w) (are_sizes ns) all.0 sizes.1 })
    (λ ns h. let never : false ≡ true = sym (ap (λ t. (marks_of t).sound) (array-Token n ns) ∙ ap (λ (m : Marks). m.sound) (marks-Token (n ∷ ns))) ∙ h in absurd (cc))
    (λ ts ns h.
    let all = both_true (all_sound (map marks_of ts)) ((nat_lt 0 n && are_sizes ns) && any_bits (map marks_of ts)) (sym (ap (λ t. (marks_of t).sound) (array-Tuple n ts ns) ∙ ap (λ (m : Marks). m.sound) (marks-Tuple ts (n ∷ ns))) ∙ h) in
    let rest = both_true (nat_lt 0 n && are_sizes ns) (any_bits (map marks_of ts)) all.1 in
    let sizes = both_true (nat_lt 0 n) (are_sizes ns) rest.0 in
    record {
      some = sizes.0;
      sound = ap (λ (m : Marks). m.sound) (marks-Tuple ts ns)
          ∙ and_true (all_sound (map marks_of ts)) (are_sizes ns && (is_empty ns || any_bits (map marks_of ts))) all.0
          (and_true (are_sizes ns) (is_empty ns || any_bits (map marks_of ts)) sizes.1 (any_or ns (any_bits (map marks_of ts)) rest.1));
    })

fewer : (n l : ℕ) → 1 ≤ n → n * l ≤ 256 → l ≤ 256
fewer zero l h k = absurd (omega (arith, h))
fewer (suc n) l h k = let e : suc n * l ≡ n * l + l = omega arith in omega (arith, e, k)

-- the element of an array that a node may have is a type that one may have
pub element_type : (n : ℕ) (t : IrType) → IsNodeType (array_of n t) → IsNodeType t
element_type n t h =
    let s = sound_array n t h.sound in
    let w = within (array_of n t) h in
    let positive : 0 < n = grind (arith, nat_tests, s.some) in
    let some : 1 ≤ bounded n = omega (arith, positive) in
    let leaves : leaf_count (ty_of (array_of n t)) ≡ bounded n * leaf_count (ty_of t) = ap leaf_count (array_ty n t) ∙ tys.leaf_count-Array (ty_of t) (bounded n) in
    let levels = array_levels n t in
    let few = w.levels_few in
    node_type t s.sound (record {
      widths = subst (λ ws. IsTrue (none_broken (map (λ w. limit_at 0 what.Width w 128) ws))) (array_widths n t) w.widths;
      leaves_few = fewer (bounded n) (leaf_count (ty_of t)) some (subst (λ k. k ≤ 256) leaves w.leaves_few);
      levels_few = omega (arith, levels, few);
    })
