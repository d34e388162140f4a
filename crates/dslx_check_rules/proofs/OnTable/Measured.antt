-- How large a type is, by how large its parts are.
use Rattle.std.proofs.Common.{◌≡◌, ◌+◌, ◌*◌, ◌++◌, ℕ, Bool, true, false, List, [], ◌∷◌, map, sum, min, max, Option, Some, None, refl, sym, ap, subst, ◌∙◌, arith, append_assoc}
use Rattle.std.specs.Prelude.{if◌then◌else◌}
use Rattle.std.specs.List.{fold}
use Rattle.std.proofs.lemmas.List.{map_push}
use Rattle.std.proofs.lemmas.List.Sums.{sum_by_push}
use mathlib.Core.Bool.{true≢false}
use Rattle.std.proofs.Math.Nat.{mul_comm}
use Rattle.dslx_meaning.specs.Types.{TypeDepth, flat_bits, flat_bits_in, is_token_type, leaves_in, leaves_of, levels_among, levels_of, most_of, token_is, tuple_type_depth, type_depth_in, unit_type}
use Rattle.dslx_meaning.specs.Rules.TypeEnvs.{all_widths, found_number, leaf_widths, widths_in}
use Rattle.dslx_meaning.specs.declared.ty.DslxType.{DslxType, fold-DslxType}
use Rattle.dslx_meaning.specs.declared.ty.DslxType as ty
use Rattle.dslx_meaning.specs.declared.ty.DslxType.TheVariants as rolls
use Rattle.dslx_meaning.specs.declared.ty.DslxType.TheOpen.{DslxType-F}
use Rattle.dslx_meaning.specs.declared.ty.DslxType.TheViews as views
use Rattle.dslx_meaning.specs.declared.ty.DslxType.TheFolds.{fold-roll-DslxType, ind-DslxType, map-DslxType}
use Rattle.dslx_check_rules.specs.declared.table.measures.TypeMeasures.{TypeMeasures}
use Rattle.dslx_check_rules.specs.declared.table.row.TypeId.{TypeId}
use Rattle.dslx_check_rules.specs.declared.table.row.TypeRow.{TypeRow}
use Rattle.dslx_check_rules.specs.declared.table.row.TypeRow.TheVariants as row
use Rattle.dslx_check_rules.specs.Measures.{least, least_wide, measures_of}
use Rattle.dslx_check_rules.specs.Inner.Measured.{begins_with_token, joined, of_nothing, of_parts, of_tuple, raised, row_measures, wide}
use Rattle.dslx_check_rules.specs.Interned.{ItemNames, row_type}
use Rattle.dslx_check_rules.proofs.Lemmas.Sizes.{min-times_left}

-- ---- folds over types

module _ (A : Type 0) (step : DslxType-F A → A) where
  pub fold-Bits : (s : Bool) (w : ℕ) → fold-DslxType A step (ty.Bits s w) ≡ step (DslxType-F.Bits s w)
  fold-Bits s w = ap (fold-DslxType A step) (sym (rolls.rolls-Bits s w)) ∙ fold-roll-DslxType A step (DslxType-F.Bits s w)

  pub fold-Tuple : (ts : List DslxType) → fold-DslxType A step (ty.Tuple ts) ≡ step (DslxType-F.Tuple (map (fold-DslxType A step) ts))
  fold-Tuple ts = ap (fold-DslxType A step) (sym (rolls.rolls-Tuple ts)) ∙ fold-roll-DslxType A step (DslxType-F.Tuple ts)

  pub fold-Array : (t : DslxType) (n : ℕ) → fold-DslxType A step (ty.Array t n) ≡ step (DslxType-F.Array (fold-DslxType A step t) n)
  fold-Array t n = ap (fold-DslxType A step) (sym (rolls.rolls-Array t n)) ∙ fold-roll-DslxType A step (DslxType-F.Array t n)

  pub fold-Struct : (name : List ℕ) (fields : List (List ℕ)) (ts : List DslxType) → fold-DslxType A step (ty.Struct name fields ts) ≡ step (DslxType-F.Struct name fields (map (fold-DslxType A step) ts))
  fold-Struct name fields ts = ap (fold-DslxType A step) (sym (rolls.rolls-Struct name fields ts)) ∙ fold-roll-DslxType A step (DslxType-F.Struct name fields ts)

  pub fold-Enum : (name : List ℕ) (s : Bool) (w : ℕ) → fold-DslxType A step (ty.Enum name s w) ≡ step (DslxType-F.Enum name s w)
  fold-Enum name s w = ap (fold-DslxType A step) (sym (rolls.rolls-Enum name s w)) ∙ fold-roll-DslxType A step (DslxType-F.Enum name s w)

  pub fold-Token : fold-DslxType A step ty.Token ≡ step DslxType-F.Token
  fold-Token = ap (fold-DslxType A step) (sym rolls.rolls-Token) ∙ fold-roll-DslxType A step DslxType-F.Token

-- ---- numbers past the cap

min_flip : (a b : ℕ) → min a b ≡ min b a
min_flip a b = omega arith

capped_plus : (c a b : ℕ) → min (min a c + min b c) c ≡ min (a + b) c
capped_plus c a b = omega arith

capped_max : (c a b : ℕ) → max (min a c) (min b c) ≡ min (max a b) c
capped_max c a b = omega arith

capped_suc : (c a : ℕ) → min (min a c + 1) c ≡ min (1 + a) c
capped_suc c a = omega arith

capped_times : (c a n : ℕ) → min (min a c * n) c ≡ min (n * a) c
capped_times c a n =
    ap (λ x. min (x * n) c) (min_flip a c) ∙ min_flip (min c a * n) c ∙ min-times_left c a n ∙ ap (min c) (mul_comm a n) ∙ min_flip c (n * a)

-- ---- the least width

least-None : (x : Option ℕ) → least x None ≡ x
least-None None = refl
least-None (Some n) = refl

least_assoc : (x y z : Option ℕ) → least (least x y) z ≡ least x (least y z)
least_assoc None y z = refl
least_assoc (Some a) None z = refl
least_assoc (Some a) (Some b) None = refl
least_assoc (Some a) (Some b) (Some c) = ap Some (omega arith)

least_wide-append : (vs ws : List ℕ) → least_wide (vs ++ ws) ≡ least (least_wide vs) (least_wide ws)
least_wide-append [] ws = refl
least_wide-append (v ∷ vs) ws = ap (least (wide v)) (least_wide-append vs ws) ∙ sym (least_assoc (wide v) (least_wide vs) (least_wide ws))

-- ---- one part more

sum_push : (f : DslxType → ℕ) (us : List DslxType) (u : DslxType) → sum (map f (us ++ u ∷ [])) ≡ sum (map f us) + f u
sum_push f us u = ap sum (map_push f us u) ∙ sum_by_push (λ (n : ℕ). n) (map f us) (f u)

most_push : (f : DslxType → ℕ) (us : List DslxType) (u : DslxType) → most_of (map f (us ++ u ∷ [])) ≡ max (most_of (map f us)) (f u)
most_push f [] u = omega arith
most_push f (v ∷ us) u = omega (arith, most_push f us u)

widths_push : (us : List DslxType) (u : DslxType) → least_wide (all_widths (map leaf_widths (us ++ u ∷ []))) ≡ least (least_wide (all_widths (map leaf_widths us))) (least_wide (leaf_widths u))
widths_push [] u = least_wide-append (leaf_widths u) [] ∙ least-None (least_wide (leaf_widths u))
widths_push (v ∷ us) u =
    least_wide-append (leaf_widths v) (all_widths (map leaf_widths (us ++ u ∷ [])))
    ∙ ap (least (least_wide (leaf_widths v))) (widths_push us u)
    ∙ sym (least_assoc (least_wide (leaf_widths v)) (least_wide (all_widths (map leaf_widths us))) (least_wide (leaf_widths u)))
    ∙ ap (λ x. least x (least_wide (leaf_widths u))) (sym (least_wide-append (leaf_widths v) (all_widths (map leaf_widths us))))

-- ---- all parts

abbrev summed : List DslxType → TypeMeasures
summed us = record {
  leaves = found_number (sum (map leaves_of us));
  levels = found_number (most_of (map levels_of us));
  flat = found_number (sum (map flat_bits us));
  too_wide = least_wide (all_widths (map leaf_widths us));
  is_token = false;
}

joined_push : (us : List DslxType) (u : DslxType) → joined (summed us) (measures_of u) ≡ summed (us ++ u ∷ [])
joined_push us u = λ i. record {
  leaves = (capped_plus 18446744073709551615 (sum (map leaves_of us)) (leaves_of u) ∙ ap found_number (sym (sum_push leaves_of us u))) i;
  levels = (capped_max 18446744073709551615 (most_of (map levels_of us)) (levels_of u) ∙ ap found_number (sym (most_push levels_of us u))) i;
  flat = (capped_plus 18446744073709551615 (sum (map flat_bits us)) (flat_bits u) ∙ ap found_number (sym (sum_push flat_bits us u))) i;
  too_wide = sym (widths_push us u) i;
  is_token = false;
}

all_joined : (vs us : List DslxType) → fold joined (summed vs) (map measures_of us) ≡ summed (vs ++ us)
all_joined vs [] = ap summed (sym (append-nil vs))
  where
    append-nil : (xs : List DslxType) → xs ++ [] ≡ xs
    append-nil [] = refl
    append-nil (x ∷ xs) = ap (λ ys. x ∷ ys) (append-nil xs)
all_joined vs (u ∷ us) =
    ap (λ m. fold joined m (map measures_of us)) (joined_push vs u) ∙ all_joined (vs ++ u ∷ []) us ∙ ap summed (append_assoc vs (u ∷ []) us)

parts_measured : (us : List DslxType) → of_parts (map measures_of us) ≡ summed us
parts_measured us = all_joined [] us

-- ---- levels

abbrev depth : DslxType → TypeDepth
depth t = fold-DslxType TypeDepth type_depth_in t

levels_are : (us : List DslxType) → levels_among (map depth us) ≡ map levels_of us
levels_are [] = refl
levels_are (u ∷ us) = ap (λ ns. levels_of u ∷ ns) (levels_are us)

-- a token has no levels, and nothing else is one
record IsDepth (t : DslxType) : Type 0 where
  token : (depth t).is_token ≡ is_token_type t
  flat : (depth t).is_token ≡ true → (depth t).levels ≡ 0

not_token : (t : DslxType) (l : DslxType-F DslxType) (d : TypeDepth) → ty.out-DslxType t ≡ l → token_is l ≡ false → depth t ≡ d → d.is_token ≡ false → IsDepth t
not_token t l d out other is none = record {
  token = ap (λ (e : TypeDepth). e.is_token) is ∙ none ∙ sym other ∙ ap token_is (sym out);
  flat = λ e. absurd (true≢false (sym e ∙ ap (λ (e : TypeDepth). e.is_token) is ∙ none));
}

tuple_no_token : (hs : List TypeDepth) → (tuple_type_depth hs).is_token ≡ false
tuple_no_token [] = refl
tuple_no_token (h ∷ hs) = refl

depth_is : (t : DslxType) → IsDepth t
depth_is = ind-DslxType IsDepth (λ x y is. subst (λ z. IsDepth (views.roll-DslxType z)) is (case y))
  where
    case : (y : DslxType-F ((t : DslxType) × IsDepth t)) → IsDepth (views.roll-DslxType (map-DslxType ((t : DslxType) × IsDepth t) DslxType (λ e. e.0) y))
    case (DslxType-F.Bits s w) = subst IsDepth (sym (rolls.rolls-Bits s w))
        (not_token (ty.Bits s w) (DslxType-F.Bits s w) _ (views.outs-Bits s w) refl (fold-Bits TypeDepth type_depth_in s w) refl)
    case (DslxType-F.Tuple es) = let ts = map (λ (e : (t : DslxType) × IsDepth t). e.0) es in subst IsDepth (sym (rolls.rolls-Tuple ts))
        (not_token (ty.Tuple ts) (DslxType-F.Tuple ts) _ (views.outs-Tuple ts) refl (fold-Tuple TypeDepth type_depth_in ts) (tuple_no_token (map depth ts)))
    case (DslxType-F.Array e n) = subst IsDepth (sym (rolls.rolls-Array e.0 n))
        (not_token (ty.Array e.0 n) (DslxType-F.Array e.0 n) _ (views.outs-Array e.0 n) refl (fold-Array TypeDepth type_depth_in e.0 n) refl)
    case (DslxType-F.Struct name fields es) = let ts = map (λ (e : (t : DslxType) × IsDepth t). e.0) es in subst IsDepth (sym (rolls.rolls-Struct name fields ts))
        (not_token (ty.Struct name fields ts) (DslxType-F.Struct name fields ts) _ (views.outs-Struct name fields ts) refl (fold-Struct TypeDepth type_depth_in name fields ts) refl)
    case (DslxType-F.Enum name s w) = subst IsDepth (sym (rolls.rolls-Enum name s w))
        (not_token (ty.Enum name s w) (DslxType-F.Enum name s w) _ (views.outs-Enum name s w) refl (fold-Enum TypeDepth type_depth_in name s w) refl)
    case DslxType-F.Token = subst IsDepth (sym rolls.rolls-Token) (record {
      token = ap (λ (e : TypeDepth). e.is_token) (fold-Token TypeDepth type_depth_in) ∙ sym (ap token_is views.outs-Token);
      flat = λ e. ap (λ (e : TypeDepth). e.levels) (fold-Token TypeDepth type_depth_in);
    })

-- ---- each kind of type

bits_measured : (s : Bool) (w : ℕ) → measures_of (ty.Bits s w) ≡ row_measures (λ n. of_nothing) (row.Bits (record { signed = s; width = w }))
bits_measured s w = λ i. record {
  leaves = ap found_number (fold-Bits ℕ leaves_in s w) i;
  levels = ap (λ (d : TypeDepth). found_number d.levels) (fold-Bits TypeDepth type_depth_in s w) i;
  flat = ap found_number (fold-Bits ℕ flat_bits_in s w) i;
  too_wide = (ap least_wide (fold-Bits (List ℕ) widths_in s w) ∙ least-None (wide w)) i;
  is_token = ap token_is (views.outs-Bits s w) i;
}

enum_measured : (name : List ℕ) (s : Bool) (w : ℕ) → measures_of (ty.Enum name s w) ≡ row_measures (λ n. of_nothing) (row.Bits (record { signed = s; width = w }))
enum_measured name s w = λ i. record {
  leaves = ap found_number (fold-Enum ℕ leaves_in name s w) i;
  levels = ap (λ (d : TypeDepth). found_number d.levels) (fold-Enum TypeDepth type_depth_in name s w) i;
  flat = ap found_number (fold-Enum ℕ flat_bits_in name s w) i;
  too_wide = (ap least_wide (fold-Enum (List ℕ) widths_in name s w) ∙ least-None (wide w)) i;
  is_token = ap token_is (views.outs-Enum name s w) i;
}

token_measured : measures_of ty.Token ≡ row_measures (λ n. of_nothing) row.Token
token_measured = λ i. record {
  leaves = ap found_number (fold-Token ℕ leaves_in) i;
  levels = ap (λ (d : TypeDepth). found_number d.levels) (fold-Token TypeDepth type_depth_in) i;
  flat = ap found_number (fold-Token ℕ flat_bits_in) i;
  too_wide = ap least_wide (fold-Token (List ℕ) widths_in) i;
  is_token = ap token_is views.outs-Token i;
}

array_measured : (t : DslxType) (n : ℕ) → measures_of (ty.Array t n) ≡ row_measures (λ k. measures_of t) (row.Array (record { 0 = 0 }) n)
array_measured t n = λ i. record {
  leaves = (ap found_number (fold-Array ℕ leaves_in t n) ∙ sym (capped_times 18446744073709551615 (leaves_of t) n)) i;
  levels = (ap (λ (d : TypeDepth). found_number d.levels) (fold-Array TypeDepth type_depth_in t n) ∙ sym (capped_suc 18446744073709551615 (levels_of t))) i;
  flat = (ap found_number (fold-Array ℕ flat_bits_in t n) ∙ sym (capped_times 18446744073709551615 (flat_bits t) n)) i;
  too_wide = ap least_wide (fold-Array (List ℕ) widths_in t n) i;
  is_token = ap token_is (views.outs-Array t n) i;
}

struct_measured : (name : List ℕ) (fields : List (List ℕ)) (us : List DslxType) → measures_of (ty.Struct name fields us) ≡ raised (of_parts (map measures_of us))
struct_measured name fields us =
    (λ i. record {
      leaves = ap found_number (fold-Struct ℕ leaves_in name fields us) i;
      levels = (ap (λ (d : TypeDepth). found_number d.levels) (fold-Struct TypeDepth type_depth_in name fields us)
          ∙ ap (λ ns. found_number (1 + most_of ns)) (levels_are us) ∙ sym (capped_suc 18446744073709551615 (most_of (map levels_of us)))) i;
      flat = ap found_number (fold-Struct ℕ flat_bits_in name fields us) i;
      too_wide = ap least_wide (fold-Struct (List ℕ) widths_in name fields us) i;
      is_token = ap token_is (views.outs-Struct name fields us) i;
    }) ∙ ap raised (sym (parts_measured us))

-- a tuple of these levels, by whether it begins with a token
tuple_levels : (us : List DslxType) → found_number (tuple_type_depth (map depth us)).levels ≡ (if begins_with_token (map measures_of us) then summed us else raised (summed us)).levels
tuple_levels [] = refl
tuple_levels (u ∷ us) = by (is_token_type u) (depth_is u).token (depth_is u).flat
  where
    by : (b : Bool) → (depth u).is_token ≡ b → ((depth u).is_token ≡ true → (depth u).levels ≡ 0)
        → found_number (tuple_type_depth (depth u ∷ map depth us)).levels ≡ (if b then summed (u ∷ us) else raised (summed (u ∷ us))).levels
    by true e flat =
        ap (λ b. found_number (if b then most_of (levels_among (map depth us)) else (1 + most_of (levels_of u ∷ levels_among (map depth us))))) e
        ∙ ap (λ ns. found_number (most_of ns)) (levels_are us)
        ∙ ap found_number (no_more (levels_of u) (most_of (map levels_of us)) (flat e))
      where
        no_more : (a b : ℕ) → a ≡ 0 → b ≡ max a b
        no_more a b z = omega arith
    by false e flat =
        ap (λ b. found_number (if b then most_of (levels_among (map depth us)) else (1 + most_of (levels_of u ∷ levels_among (map depth us))))) e
        ∙ ap (λ ns. found_number (1 + most_of (levels_of u ∷ ns))) (levels_are us)
        ∙ sym (capped_suc 18446744073709551615 (most_of (map levels_of (u ∷ us))))

whichever : (b : Bool) (m : TypeMeasures) → ((if b then m else raised m).leaves ≡ m.leaves) × ((if b then m else raised m).flat ≡ m.flat) × ((if b then m else raised m).too_wide ≡ m.too_wide)
whichever true m = (refl, refl, refl)
whichever false m = (refl, refl, refl)

no_token : (b : Bool) (us : List DslxType) → (if b then summed us else raised (summed us)).is_token ≡ false
no_token true us = refl
no_token false us = refl

tuple_measured : (us : List DslxType) → measures_of (ty.Tuple us) ≡ of_tuple (map measures_of us)
tuple_measured us =
    (λ i. record {
      leaves = (ap found_number (fold-Tuple ℕ leaves_in us) ∙ sym (whichever (begins_with_token (map measures_of us)) (summed us)).0) i;
      levels = (ap (λ (d : TypeDepth). found_number d.levels) (fold-Tuple TypeDepth type_depth_in us) ∙ tuple_levels us) i;
      flat = (ap found_number (fold-Tuple ℕ flat_bits_in us) ∙ sym (whichever (begins_with_token (map measures_of us)) (summed us)).1) i;
      too_wide = (ap least_wide (fold-Tuple (List ℕ) widths_in us) ∙ sym (whichever (begins_with_token (map measures_of us)) (summed us)).2) i;
      is_token = (ap token_is (views.outs-Tuple us) ∙ sym (no_token (begins_with_token (map measures_of us)) us)) i;
    }) ∙ ap (λ m. if begins_with_token (map measures_of us) then m else raised m) (sym (parts_measured us))

-- ---- rows

parts_mapped : (f : ℕ → DslxType) (ts : List TypeId) → map measures_of (map (λ (t : TypeId). f t.0) ts) ≡ map (λ (t : TypeId). measures_of (f t.0)) ts
parts_mapped f [] = refl
parts_mapped f (t ∷ ts) = ap (λ ms. measures_of (f t.0) ∷ ms) (parts_mapped f ts)

pub row_measured : (names : ItemNames) (f : ℕ → DslxType) (r : TypeRow) → measures_of (row_type names f r) ≡ row_measures (λ n. measures_of (f n)) r
row_measured names f (row.Bits k) = bits_measured k.signed k.width
row_measured names f (row.Tuple ts) = tuple_measured (map (λ (t : TypeId). f t.0) ts) ∙ ap of_tuple (parts_mapped f ts)
row_measured names f (row.Array t n) = array_measured (f t.0) n
row_measured names f (row.Struct i ts) = struct_measured (names.item i) (names.fields i) (map (λ (t : TypeId). f t.0) ts) ∙ ap (λ ms. raised (of_parts ms)) (parts_mapped f ts)
row_measured names f (row.Enum i k) = enum_measured (names.item i) k.signed k.width
row_measured names f row.Token = token_measured

pub unit_measured : measures_of unit_type ≡ raised of_nothing
unit_measured = tuple_measured []
