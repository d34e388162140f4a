-- The flat word of a value of a type is as wide as the type, and what is taken at a type is of the type.
use Rattle.std.proofs.Common.{◌≡◌, ℕ, zero, suc, lit<, ◌+◌, ◌*◌, ◌%◌, ◌^◌, ◌<◌, ◌≤◌, ◌==◌, nat_lt, nat_le, List, [], ◌∷◌, map, sum, length, Bool, IsTrue, refl, sym, ap, ap₂, subst, ◌∙◌, arith}
use Rattle.std.specs.List.{list_all}
use Rattle.std.proofs.lemmas.List.Sums.{sum_by-cons}
use Rattle.std.proofs.lemmas.Nat.{mod_below, pow_pos, pow-add}
use Rattle.std.proofs.Math.Nat.{mul-le-mul_right}
use Rattle.std.proofs.lemmas.Bool.Decides.{nat_tests}
use Rattle.xb_bits.specs.Word.{Word, word}
use Rattle.xb_value.specs.declared.ty.Ty.{Ty}
use Rattle.xb_value.specs.declared.ty.Ty as ty
use Rattle.xb_value.specs.declared.value.Value.{Value, Bits, Tuple, Array}
use Rattle.xb_value.specs.declared.value.Value.TheViews.{outs-Bits, outs-Tuple, outs-Array}
use Rattle.xb_value.specs.Flat.{flat_of, joined}
use Rattle.xb_value.specs.Typing.{IsOfType, fits, bits_fit, tuple_fits, array_fits, is_word_of, each_passes}
use Rattle.xb_value.specs.Unflat.{Taker, taken_by, taken_times, take_step, taken_low}
use Rattle.xb_value.specs.Width.{width_of, HasWidths, HasAllWidths, widths_step}
use Rattle.xb_value.proofs.Lemmas.Types as types
use Rattle.xb_value.proofs.Lemmas.Types.{EachHas, ty_induction}
use Rattle.xb_value.proofs.Lemmas.Typing.{bits_of_type, tuple_of_type, array_of_type, fits-Bits, fits-Tuple, fits-Array}
use Rattle.xb_value.proofs.Lemmas.Values.{flat_of-Bits, flat_of-Tuple, flat_of-Array}
use Rattle.xb_value.proofs.Widths.{both_true, and_true}

-- ---- how wide

abbrev pub IsAsWide : Ty → Type 0
IsAsWide t = (v : Value) → IsOfType t v → (flat_of v).width ≡ width_of t

wide_each : (ts : List Ty) (vs : List Value) → EachHas IsAsWide ts → IsTrue (each_passes (map fits ts) vs) → (joined (map flat_of vs)).width ≡ sum (map width_of ts)
wide_each [] [] each pass = refl
wide_each [] (v ∷ vs) each pass = absurd (cc)
wide_each (t ∷ ts) [] each pass = absurd (cc)
wide_each (t ∷ ts) (v ∷ vs) each pass =
    let both = both_true (fits t v) (each_passes (map fits ts) vs) pass in
    ap₂ (λ a b. a + b) (each.0 v both.0) (wide_each ts vs each.1 both.1) ∙ sym (sum_by-cons (λ x. x) (width_of t) (map width_of ts))

wide_all : (t : Ty) (vs : List Value) → IsAsWide t → IsTrue (list_all (fits t) vs) → (joined (map flat_of vs)).width ≡ length vs * width_of t
wide_all t [] wide pass = omega arith
wide_all t (v ∷ vs) wide pass =
    let both = both_true (fits t v) (list_all (fits t) vs) pass in
    let first = wide v both.0 in
    let later = wide_all t vs wide both.1 in
    omega (arith, first, later)

pub as_wide : (t : Ty) → IsAsWide t
as_wide = ty_induction IsAsWide
    (λ w v of.
    let b = bits_of_type w v of in
    ap (λ u. (flat_of u).width) b.is ∙ ap (λ (x : Word). x.width) (flat_of-Bits b.word) ∙ b.width ∙ sym (types.width_of-Bits w))
    (λ ts each v of.
    let b = tuple_of_type ts v of in
    ap (λ u. (flat_of u).width) b.is ∙ ap (λ (x : Word). x.width) (flat_of-Tuple b.parts)
    ∙ wide_each ts b.parts each b.each ∙ sym (types.width_of-Tuple ts))
    (λ t n wide v of.
    let b = array_of_type t n v of in
    ap (λ u. (flat_of u).width) b.is ∙ ap (λ (x : Word). x.width) (flat_of-Array b.parts)
    ∙ wide_all t b.parts wide b.all ∙ ap (λ k. k * width_of t) b.count ∙ sym (types.width_of-Array t n))

-- ---- of which type

abbrev pub GivesTyped : Ty → Type 0
GivesTyped t = HasWidths t → (n : ℕ) → IsOfType t (taken_low t n).0

word_fits : (w n : ℕ) → 1 ≤ w → w ≤ 128 → IsTrue (is_word_of w (word w (n % 2 ^ w)))
word_fits w n some most =
    let positive : 0 < 2 ^ w = pow_pos w in
    let below : n % 2 ^ w < 2 ^ w = mod_below n (2 ^ w) positive in
    let same : IsTrue (w == w) = grind (arith, nat_tests) in
    let least : IsTrue (nat_le 1 w) = grind (arith, nat_tests) in
    let greatest : IsTrue (nat_le w 128) = grind (arith, nat_tests) in
    let range : IsTrue (nat_lt (n % 2 ^ w) (2 ^ w)) = grind (arith, nat_tests) in
    and_true _ _ (and_true _ _ (and_true _ _ same least) greatest) range

widths-Bits : (w : ℕ) → HasWidths (ty.Bits w) → (1 ≤ w) × (w ≤ 128)
widths-Bits w h =
    let both = both_true (nat_le 1 w) (nat_le w 128) (sym (types.fold-Bits Bool widths_step w) ∙ h) in
    (grind (arith, nat_tests, both.0), grind (arith, nat_tests, both.1))

typed_each : (ts : List Ty) → EachHas GivesTyped ts → HasAllWidths ts → (n : ℕ) → IsTrue (each_passes (map fits ts) (taken_by (map taken_low ts) n).0)
typed_each [] each widths n = refl
typed_each (t ∷ ts) each widths n =
    let both = both_true _ _ widths in
    and_true _ _ (each.0 both.0 (taken_by (map taken_low ts) n).1) (typed_each ts each.1 both.1 n)

typed_times : (k : ℕ) (t : Ty) → ((n : ℕ) → IsOfType t (taken_low t n).0) → (n : ℕ) → IsTrue (list_all (fits t) (taken_times k (taken_low t) n).0)
typed_times zero t typed n = refl
typed_times (suc k) t typed n = and_true _ _ (typed (taken_times k (taken_low t) n).1) (typed_times k t typed n)

length_times : (k : ℕ) (p : Taker) (n : ℕ) → length (taken_times k p n).0 ≡ k
length_times zero p n = refl
length_times (suc k) p n = ap suc (length_times k p n)

pub gives_typed : (t : Ty) → GivesTyped t
gives_typed = ty_induction GivesTyped
    (λ w widths n.
    let ws = widths-Bits w widths in
    subst (λ (r : Value × ℕ). IsOfType (ty.Bits w) r.0) (sym (ap (λ (p : Taker). p n) (types.fold-Bits Taker take_step w)))
    (fits-Bits w (Bits (word w (n % 2 ^ w))) ∙ ap (bits_fit w) (outs-Bits (word w (n % 2 ^ w))) ∙ word_fits w n ws.0 ws.1))
    (λ ts each widths n.
    let all = taken_by (map taken_low ts) n in
    subst (λ (r : Value × ℕ). IsOfType (ty.Tuple ts) r.0) (sym (ap (λ (p : Taker). p n) (types.fold-Tuple Taker take_step ts)))
    (fits-Tuple ts (Tuple all.0) ∙ ap (tuple_fits (map fits ts)) (outs-Tuple all.0)
    ∙ typed_each ts each (sym (types.fold-Tuple Bool widths_step ts) ∙ widths) n))
    (λ t k typed widths n.
    let all = taken_times k (taken_low t) n in
    let count : IsTrue (length all.0 == k) = let same : length all.0 ≡ k = length_times k (taken_low t) n in grind (arith, nat_tests) in
    subst (λ (r : Value × ℕ). IsOfType (ty.Array t k) r.0) (sym (ap (λ (p : Taker). p n) (types.fold-Array Taker take_step t k)))
    (fits-Array t k (Array all.0) ∙ ap (array_fits (fits t) k) (outs-Array all.0)
    ∙ and_true _ _ count (typed_times k t (typed (sym (types.fold-Array Bool widths_step t k) ∙ widths)) n)))

-- ---- how great

abbrev pub IsInRange : Word → Type 0
IsInRange x = x.value < 2 ^ x.width

beside_below : (v l a p : ℕ) → v < a → l < p → v * p + l < a * p
beside_below v l a p h k =
    let whole : suc v * p ≤ a * p = mul-le-mul_right p h in
    let part : suc v * p ≡ v * p + p = omega arith in
    omega arith

joined_in_range : (xs : List Word) → EachHas IsInRange xs → IsInRange (joined xs)
joined_in_range [] each = lit< tt
joined_in_range (x ∷ xs) each =
    let low = joined_in_range xs each.1 in
    let first = each.0 in
    let high : 2 ^ (x.width + (joined xs).width) ≡ 2 ^ x.width * 2 ^ (joined xs).width = pow-add 2 x.width (joined xs).width in
    subst (λ m. x.value * 2 ^ (joined xs).width + (joined xs).value < m) (sym high)
    (beside_below x.value (joined xs).value (2 ^ x.width) (2 ^ (joined xs).width) first low)

abbrev FlatsInRange : Ty → Type 0
FlatsInRange t = (v : Value) → IsOfType t v → IsInRange (flat_of v)

each_in_range : (ts : List Ty) (vs : List Value) → EachHas FlatsInRange ts → IsTrue (each_passes (map fits ts) vs) → EachHas IsInRange (map flat_of vs)
each_in_range [] [] each pass = tt
each_in_range [] (v ∷ vs) each pass = absurd (cc)
each_in_range (t ∷ ts) [] each pass = absurd (cc)
each_in_range (t ∷ ts) (v ∷ vs) each pass =
    let both = both_true (fits t v) (each_passes (map fits ts) vs) pass in
    (each.0 v both.0, each_in_range ts vs each.1 both.1)

all_in_range : (t : Ty) (vs : List Value) → FlatsInRange t → IsTrue (list_all (fits t) vs) → EachHas IsInRange (map flat_of vs)
all_in_range t [] one pass = tt
all_in_range t (v ∷ vs) one pass =
    let both = both_true (fits t v) (list_all (fits t) vs) pass in
    (one v both.0, all_in_range t vs one both.1)

-- the flat word of a value of a type is in the range of its width
pub in_range : (t : Ty) (v : Value) → IsOfType t v → IsInRange (flat_of v)
in_range = ty_induction FlatsInRange
    (λ w v of.
    let b = bits_of_type w v of in
    let below : IsInRange b.word = subst (λ k. b.word.value < 2 ^ k) (sym b.width) b.in_range in
    subst IsInRange (sym (flat_of-Bits b.word) ∙ ap flat_of (sym b.is)) below)
    (λ ts each v of.
    let b = tuple_of_type ts v of in
    subst IsInRange (sym (flat_of-Tuple b.parts) ∙ ap flat_of (sym b.is)) (joined_in_range (map flat_of b.parts) (each_in_range ts b.parts each b.each)))
    (λ t n one v of.
    let b = array_of_type t n v of in
    subst IsInRange (sym (flat_of-Array b.parts) ∙ ap flat_of (sym b.is)) (joined_in_range (map flat_of b.parts) (all_in_range t b.parts one b.all)))
