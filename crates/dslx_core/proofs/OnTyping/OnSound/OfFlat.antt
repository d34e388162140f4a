-- A value of a type comes back from its flat word.
use Rattle.std.proofs.Common.{◌≡◌, ◌&&◌, ℕ, ◌+◌, ◌*◌, ◌/◌, ◌%◌, ◌^◌, ◌<◌, lit<, Bool, true, false, List, [], ◌∷◌, map, length, sum, arith, refl, sym, ap, ap₂, subst, ◌∙◌}
use mathlib.Core.Bool.{true≢false}
use Rattle.std.specs.List.{list_all}
use Rattle.std.proofs.lemmas.List.Sums.{sum_by-cons}
use Rattle.std.proofs.lemmas.Nat.{mod_low, pow-add, shr_high}
use Rattle.std.proofs.lemmas.Bool.Decides.{Decides-ltb}
use Rattle.xb_bits.specs.Word.{Word, word}
use Rattle.xb_value.specs.Flat.{flat_of, joined}
use Rattle.xb_value.specs.Unflat.{Taker, take_step, taken_by, taken_low, taken_times}
use Rattle.xb_value.specs.declared.ty.Ty as pty
use Rattle.xb_value.specs.declared.ty.Ty.{Ty}
use Rattle.xb_value.specs.declared.value.Value as plain
use Rattle.xb_value.specs.declared.value.Value.{Value}
use Rattle.xb_value.specs.declared.value.Value.TheViews as plain_views
use Rattle.xb_value.proofs.Lemmas.Types as types
use Rattle.xb_value.proofs.Lemmas.Types.{EachHas}
use Rattle.xb_value.proofs.Lemmas.Values.{flat_of-Bits, flat_of-Tuple, flat_of-Array}
use Rattle.dslx_meaning.specs.Lists.{apply_each}
use Rattle.dslx_meaning.specs.Types.{flat_bits, flat_bits_in, plain_step, plain_type}
use Rattle.dslx_meaning.specs.Values.{at_type, at_type_step, forget_step, from_word, parts_in_step, plain_parts, plain_value, plain_word, word_in_step}
use Rattle.dslx_meaning.specs.declared.ty.DslxType as ty
use Rattle.dslx_meaning.specs.declared.ty.DslxType.{DslxType}
use Rattle.dslx_meaning.specs.declared.ty.DslxType.TheFolds.{fold-roll-DslxType}
use Rattle.dslx_meaning.specs.declared.ty.DslxType.TheOpen.{DslxType-F}
use Rattle.dslx_meaning.specs.declared.ty.DslxType.TheVariants as type_rolls
use Rattle.dslx_meaning.specs.declared.value.DslxValue as value
use Rattle.dslx_meaning.specs.declared.value.DslxValue.{DslxValue, out-DslxValue}
use Rattle.dslx_meaning.specs.declared.value.DslxValue.TheFolds.{fold-roll-DslxValue}
use Rattle.dslx_meaning.specs.declared.value.DslxValue.TheOpen.{DslxValue-F}
use Rattle.dslx_meaning.specs.declared.value.DslxValue.TheVariants as rolls
use Rattle.dslx_meaning.specs.declared.value.DslxValue.TheViews as views
use Rattle.dslx_core.specs.Typing.Typed.Kinds.{each_of, is_of, lies_in}
use Rattle.dslx_core.proofs.Lemmas.Typing.Typed.{ElementsOf, is_array_of, is_bits_of, is_enum_of, is_struct_of, is_token_of, is_tuple_of, type_induction}

-- ---- words one above another

-- a number above the bits of a word
abbrev above : ℕ → Word → ℕ
above h x = h * 2 ^ x.width + x.value

abbrev InRange : Word → Type 0
InRange x = x.value < 2 ^ x.width

beside : (p w v lw lv : ℕ) → (p * 2 ^ w + v) * 2 ^ lw + lv ≡ p * 2 ^ (w + lw) + (v * 2 ^ lw + lv)
beside p w v lw lv = rw (pow-add 2 w lw) (omega arith)

beside_below : (v l a p : ℕ) → v < a → l < p → v * p + l < a * p
beside_below v l a p h k = grind arith

both_true : (p q : Bool) → (p && q) ≡ true → (p ≡ true) × (q ≡ true)
both_true true q e = (refl, e)
both_true false q e = absurd (true≢false (sym e))

-- ---- what it is for a value to come back

pub record ComesBack (t : DslxType) (v : DslxValue) : Type 0 where
  pub back : (h : ℕ) → taken_low (plain_type t) (above h (flat_of (plain_value v))) ≡ (plain_value v, h)
  pub at : at_type t (plain_value v) ≡ v
  pub wide : (flat_of (plain_value v)).width ≡ flat_bits t
  pub range : InRange (flat_of (plain_value v))

abbrev Returns : DslxType → Type 0
Returns t = (v : DslxValue) → is_of t v ≡ true → ComesBack t v

rebuilt : (v : DslxValue) (l : DslxValue-F DslxValue) → out-DslxValue v ≡ l → v ≡ views.roll-DslxValue l
rebuilt v l e = sym (views.roll-out-DslxValue v) ∙ ap views.roll-DslxValue e

-- ---- bits

bits_back : (w h : ℕ) (x : Word) → x.width ≡ w → InRange x → taken_low (pty.Bits w) (above h x) ≡ (plain.Bits x, h)
bits_back w h x width range =
    let n = above h x in
    ap (λ (p : Taker). p n) (types.fold-Bits Taker take_step w)
    ∙ ap (λ k. (plain.Bits (word k (n % 2 ^ k)), n / 2 ^ k)) (sym width)
    ∙ ap₂ (λ m k. (plain.Bits (word x.width m), k)) (mod_low h x.width x.value range) (shr_high h x.width x.value range)

word_of_bits : (x : Word) → plain_word (plain.Bits x) ≡ x
word_of_bits x = ap word_in_step (plain_views.outs-Bits x)

bits_return : (s : Bool) (w : ℕ) → Returns (ty.Bits s w)
bits_return s w v of = record {
  back = λ h. (λ i. taken_low (plain_is i) (above h (flat_of (own i)))) ∙ ap (λ y. taken_low (pty.Bits w) (above h y)) (flat_of-Bits x) ∙ bits_back w h x q.2 range ∙ ap (λ u. (u, h)) (sym own);
  at = (λ i. at_is i (own i)) ∙ ap (value.Bits s) (word_of_bits x) ∙ sym (rolls.rolls-Bits s x) ∙ sym (rebuilt v (DslxValue-F.Bits s x) q.1);
  wide = ap (λ (y : Word). y.width) flat ∙ q.2 ∙ sym (ap flat_bits (sym (type_rolls.rolls-Bits s w)) ∙ fold-roll-DslxType ℕ flat_bits_in (DslxType-F.Bits s w));
  range = subst InRange (sym flat) range;
}
  where
    q : (x : Word) × (out-DslxValue v ≡ DslxValue-F.Bits s x) × (x.width ≡ w) × (lies_in x ≡ true)
    q = is_bits_of s w v of

    x : Word
    x = q.0

    range : InRange x
    range = (Decides-ltb x.value (2 ^ x.width)).0 q.3

    own : plain_value v ≡ plain.Bits x
    own = ap plain_value (rebuilt v (DslxValue-F.Bits s x) q.1) ∙ fold-roll-DslxValue Value forget_step (DslxValue-F.Bits s x)

    flat : flat_of (plain_value v) ≡ x
    flat = ap flat_of own ∙ flat_of-Bits x

    plain_is : plain_type (ty.Bits s w) ≡ pty.Bits w
    plain_is = ap plain_type (sym (type_rolls.rolls-Bits s w)) ∙ fold-roll-DslxType Ty plain_step (DslxType-F.Bits s w)

    at_is : at_type (ty.Bits s w) ≡ at_type_step (DslxType-F.Bits s w)
    at_is = ap at_type (sym (type_rolls.rolls-Bits s w)) ∙ fold-roll-DslxType (Value → DslxValue) at_type_step (DslxType-F.Bits s w)

enum_return : (name : List ℕ) (s : Bool) (w : ℕ) → Returns (ty.Enum name s w)
enum_return name s w v of = record {
  back = λ h. (λ i. taken_low (plain_is i) (above h (flat_of (own i)))) ∙ ap (λ y. taken_low (pty.Bits w) (above h y)) (flat_of-Bits x) ∙ bits_back w h x q.2 range ∙ ap (λ u. (u, h)) (sym own);
  at = (λ i. at_is i (own i)) ∙ ap (value.Enum name s) (word_of_bits x) ∙ sym (rolls.rolls-Enum name s x) ∙ sym (rebuilt v (DslxValue-F.Enum name s x) q.1);
  wide = ap (λ (y : Word). y.width) flat ∙ q.2 ∙ sym (ap flat_bits (sym (type_rolls.rolls-Enum name s w)) ∙ fold-roll-DslxType ℕ flat_bits_in (DslxType-F.Enum name s w));
  range = subst InRange (sym flat) range;
}
  where
    q : (x : Word) × (out-DslxValue v ≡ DslxValue-F.Enum name s x) × (x.width ≡ w) × (lies_in x ≡ true)
    q = is_enum_of name s w v of

    x : Word
    x = q.0

    range : InRange x
    range = (Decides-ltb x.value (2 ^ x.width)).0 q.3

    own : plain_value v ≡ plain.Bits x
    own = ap plain_value (rebuilt v (DslxValue-F.Enum name s x) q.1) ∙ fold-roll-DslxValue Value forget_step (DslxValue-F.Enum name s x)

    flat : flat_of (plain_value v) ≡ x
    flat = ap flat_of own ∙ flat_of-Bits x

    plain_is : plain_type (ty.Enum name s w) ≡ pty.Bits w
    plain_is = ap plain_type (sym (type_rolls.rolls-Enum name s w)) ∙ fold-roll-DslxType Ty plain_step (DslxType-F.Enum name s w)

    at_is : at_type (ty.Enum name s w) ≡ at_type_step (DslxType-F.Enum name s w)
    at_is = ap at_type (sym (type_rolls.rolls-Enum name s w)) ∙ fold-roll-DslxType (Value → DslxValue) at_type_step (DslxType-F.Enum name s w)

-- ---- parts, each of its own type

back_more : (p : Taker) (v : Value) (vs : List Value) (later : List Value × ℕ) (h : ℕ) → ((k : ℕ) → p (above k (flat_of v)) ≡ (v, k)) → later ≡ (vs, above h (flat_of v))
    → ◌≡◌ {A = List Value × ℕ} ((p later.1).0 ∷ later.0, (p later.1).1) (v ∷ vs, h)
back_more p v vs later h one all = ap (λ (l : List Value × ℕ). ((p l.1).0 ∷ l.0, (p l.1).1)) all ∙ ap (λ (r : Value × ℕ). (r.0 ∷ vs, r.1)) (one h)

abbrev flats : List DslxValue → Word
flats vs = joined (map flat_of (map plain_value vs))

record EachBack (ts : List DslxType) (vs : List DslxValue) : Type 0 where
  back : (h : ℕ) → taken_by (map taken_low (map plain_type ts)) (above h (flats vs)) ≡ (map plain_value vs, h)
  at : apply_each (map at_type ts) (map plain_value vs) ≡ vs
  wide : (flats vs).width ≡ sum (map flat_bits ts)
  range : InRange (flats vs)

joined_range : (x y : Word) → InRange x → InRange y → InRange (word (x.width + y.width) (x.value * 2 ^ y.width + y.value))
joined_range x y h k = subst (λ m. x.value * 2 ^ y.width + y.value < m) (sym (pow-add 2 x.width y.width)) (beside_below x.value y.value (2 ^ x.width) (2 ^ y.width) h k)

each_back : (ts : List DslxType) (vs : List DslxValue) → EachHas Returns ts → each_of (map is_of ts) vs ≡ true → EachBack ts vs
each_back [] [] each e = record { back = λ h. ap (λ n. ([], n)) (omega arith); at = refl; wide = refl; range = lit< tt }
each_back [] (v ∷ vs) each e = absurd (true≢false (sym e))
each_back (t ∷ ts) [] each e = absurd (true≢false (sym e))
each_back (t ∷ ts) (v ∷ vs) each e =
    let both = both_true (is_of t v) (each_of (map is_of ts) vs) e in
    let one = each.0 v both.0 in
    let more = each_back ts vs each.1 both.1 in
    let x = flat_of (plain_value v) in
    let low = flats vs in
    record {
      back = λ h. back_more (taken_low (plain_type t)) (plain_value v) (map plain_value vs) (taken_by (map taken_low (map plain_type ts)) (above h (flats (v ∷ vs)))) h one.back
          (ap (taken_by (map taken_low (map plain_type ts))) (sym (beside h x.width x.value low.width low.value)) ∙ more.back (above h x));
      at = λ i. one.at i ∷ more.at i;
      wide = ap₂ (λ a b. a + b) one.wide more.wide ∙ sym (sum_by-cons (λ n. n) (flat_bits t) (map flat_bits ts));
      range = joined_range x low one.range more.range;
    }

parts_of_tuple : (vs : List Value) → plain_parts (plain.Tuple vs) ≡ vs
parts_of_tuple vs = ap parts_in_step (plain_views.outs-Tuple vs)

tuple_return : (ts : List DslxType) → EachHas Returns ts → Returns (ty.Tuple ts)
tuple_return ts each v of = record {
  back = λ h. (λ i. taken_low (plain_is i) (above h (flat_of (own i)))) ∙ ap (λ y. taken_low (pty.Tuple (map plain_type ts)) (above h y)) (flat_of-Tuple (map plain_value vs))
      ∙ ap (λ (p : Taker). p (above h (flats vs))) (types.fold-Tuple Taker take_step (map plain_type ts)) ∙ ap (λ (r : List Value × ℕ). (plain.Tuple r.0, r.1)) (all.back h) ∙ ap (λ u. (u, h)) (sym own);
  at = (λ i. at_is i (own i)) ∙ ap (λ ps. value.Tuple (apply_each (map at_type ts) ps)) (parts_of_tuple (map plain_value vs)) ∙ ap value.Tuple all.at ∙ sym (rolls.rolls-Tuple vs) ∙ sym (rebuilt v (DslxValue-F.Tuple vs) q.1);
  wide = ap (λ (y : Word). y.width) flat ∙ all.wide ∙ sym (ap flat_bits (sym (type_rolls.rolls-Tuple ts)) ∙ fold-roll-DslxType ℕ flat_bits_in (DslxType-F.Tuple ts));
  range = subst InRange (sym flat) all.range;
}
  where
    q : (vs : List DslxValue) × (out-DslxValue v ≡ DslxValue-F.Tuple vs) × (each_of (map is_of ts) vs ≡ true)
    q = is_tuple_of ts v of

    vs : List DslxValue
    vs = q.0

    all : EachBack ts vs
    all = each_back ts vs each q.2

    own : plain_value v ≡ plain.Tuple (map plain_value vs)
    own = ap plain_value (rebuilt v (DslxValue-F.Tuple vs) q.1) ∙ fold-roll-DslxValue Value forget_step (DslxValue-F.Tuple vs)

    flat : flat_of (plain_value v) ≡ flats vs
    flat = ap flat_of own ∙ flat_of-Tuple (map plain_value vs)

    plain_is : plain_type (ty.Tuple ts) ≡ pty.Tuple (map plain_type ts)
    plain_is = ap plain_type (sym (type_rolls.rolls-Tuple ts)) ∙ fold-roll-DslxType Ty plain_step (DslxType-F.Tuple ts)

    at_is : at_type (ty.Tuple ts) ≡ at_type_step (DslxType-F.Tuple (map at_type ts))
    at_is = ap at_type (sym (type_rolls.rolls-Tuple ts)) ∙ fold-roll-DslxType (Value → DslxValue) at_type_step (DslxType-F.Tuple ts)

struct_return : (name : List ℕ) (fields : List (List ℕ)) (ts : List DslxType) → EachHas Returns ts → Returns (ty.Struct name fields ts)
struct_return name fields ts each v of = record {
  back = λ h. (λ i. taken_low (plain_is i) (above h (flat_of (own i)))) ∙ ap (λ y. taken_low (pty.Tuple (map plain_type ts)) (above h y)) (flat_of-Tuple (map plain_value vs))
      ∙ ap (λ (p : Taker). p (above h (flats vs))) (types.fold-Tuple Taker take_step (map plain_type ts)) ∙ ap (λ (r : List Value × ℕ). (plain.Tuple r.0, r.1)) (all.back h) ∙ ap (λ u. (u, h)) (sym own);
  at = (λ i. at_is i (own i)) ∙ ap (λ ps. value.Struct name fields (apply_each (map at_type ts) ps)) (parts_of_tuple (map plain_value vs)) ∙ ap (value.Struct name fields) all.at ∙ sym (rolls.rolls-Struct name fields vs)
      ∙ sym (rebuilt v (DslxValue-F.Struct name fields vs) q.1);
  wide = ap (λ (y : Word). y.width) flat ∙ all.wide ∙ sym (ap flat_bits (sym (type_rolls.rolls-Struct name fields ts)) ∙ fold-roll-DslxType ℕ flat_bits_in (DslxType-F.Struct name fields ts));
  range = subst InRange (sym flat) all.range;
}
  where
    q : (vs : List DslxValue) × (out-DslxValue v ≡ DslxValue-F.Struct name fields vs) × (each_of (map is_of ts) vs ≡ true)
    q = is_struct_of name fields ts v of

    vs : List DslxValue
    vs = q.0

    all : EachBack ts vs
    all = each_back ts vs each q.2

    own : plain_value v ≡ plain.Tuple (map plain_value vs)
    own = ap plain_value (rebuilt v (DslxValue-F.Struct name fields vs) q.1) ∙ fold-roll-DslxValue Value forget_step (DslxValue-F.Struct name fields vs)

    flat : flat_of (plain_value v) ≡ flats vs
    flat = ap flat_of own ∙ flat_of-Tuple (map plain_value vs)

    plain_is : plain_type (ty.Struct name fields ts) ≡ pty.Tuple (map plain_type ts)
    plain_is = ap plain_type (sym (type_rolls.rolls-Struct name fields ts)) ∙ fold-roll-DslxType Ty plain_step (DslxType-F.Struct name fields ts)

    at_is : at_type (ty.Struct name fields ts) ≡ at_type_step (DslxType-F.Struct name fields (map at_type ts))
    at_is = ap at_type (sym (type_rolls.rolls-Struct name fields ts)) ∙ fold-roll-DslxType (Value → DslxValue) at_type_step (DslxType-F.Struct name fields ts)

-- ---- elements of one type

record AllBack (t : DslxType) (vs : List DslxValue) : Type 0 where
  back : (h : ℕ) → taken_times (length vs) (taken_low (plain_type t)) (above h (flats vs)) ≡ (map plain_value vs, h)
  at : map (at_type t) (map plain_value vs) ≡ vs
  wide : (flats vs).width ≡ length vs * flat_bits t
  range : InRange (flats vs)

all_back : (t : DslxType) (vs : List DslxValue) → Returns t → list_all (is_of t) vs ≡ true → AllBack t vs
all_back t [] one e = record { back = λ h. ap (λ n. ([], n)) (omega arith); at = refl; wide = omega arith; range = lit< tt }
all_back t (v ∷ vs) one e =
    let both = both_true (is_of t v) (list_all (is_of t) vs) e in
    let first = one v both.0 in
    let more = all_back t vs one both.1 in
    let x = flat_of (plain_value v) in
    let low = flats vs in
    let width = first.wide in
    let later = more.wide in
    record {
      back = λ h. back_more (taken_low (plain_type t)) (plain_value v) (map plain_value vs) (taken_times (length vs) (taken_low (plain_type t)) (above h (flats (v ∷ vs)))) h first.back
          (ap (taken_times (length vs) (taken_low (plain_type t))) (sym (beside h x.width x.value low.width low.value)) ∙ more.back (above h x));
      at = λ i. first.at i ∷ more.at i;
      wide = omega (arith, width, later);
      range = joined_range x low first.range more.range;
    }

parts_of_array : (vs : List Value) → plain_parts (plain.Array vs) ≡ vs
parts_of_array vs = ap parts_in_step (plain_views.outs-Array vs)

array_return : (t : DslxType) (n : ℕ) → Returns t → Returns (ty.Array t n)
array_return t n one v of = record {
  back = λ h. (λ i. taken_low (plain_is i) (above h (flat_of (own i)))) ∙ ap (λ y. taken_low (pty.Array (plain_type t) n) (above h y)) (flat_of-Array (map plain_value vs))
      ∙ ap (λ (p : Taker). p (above h (flats vs))) (types.fold-Array Taker take_step (plain_type t) n)
      ∙ ap (λ j. let r = taken_times j (taken_low (plain_type t)) (above h (flats vs)) in (plain.Array r.0, r.1)) q.count ∙ ap (λ (r : List Value × ℕ). (plain.Array r.0, r.1)) (all.back h) ∙ ap (λ u. (u, h)) (sym own);
  at = (λ i. at_is i (own i)) ∙ ap (λ ps. value.Array (map (at_type t) ps)) (parts_of_array (map plain_value vs)) ∙ ap value.Array all.at ∙ sym (rolls.rolls-Array vs) ∙ sym (rebuilt v (DslxValue-F.Array vs) q.out);
  wide = ap (λ (y : Word). y.width) flat ∙ all.wide ∙ ap (λ k. k * flat_bits t) (sym q.count) ∙ sym (ap flat_bits (sym (type_rolls.rolls-Array t n)) ∙ fold-roll-DslxType ℕ flat_bits_in (DslxType-F.Array t n));
  range = subst InRange (sym flat) all.range;
}
  where
    q : ElementsOf t n v
    q = is_array_of t n v of

    vs : List DslxValue
    vs = q.elements

    all : AllBack t vs
    all = all_back t vs one q.all

    own : plain_value v ≡ plain.Array (map plain_value vs)
    own = ap plain_value (rebuilt v (DslxValue-F.Array vs) q.out) ∙ fold-roll-DslxValue Value forget_step (DslxValue-F.Array vs)

    flat : flat_of (plain_value v) ≡ flats vs
    flat = ap flat_of own ∙ flat_of-Array (map plain_value vs)

    plain_is : plain_type (ty.Array t n) ≡ pty.Array (plain_type t) n
    plain_is = ap plain_type (sym (type_rolls.rolls-Array t n)) ∙ fold-roll-DslxType Ty plain_step (DslxType-F.Array t n)

    at_is : at_type (ty.Array t n) ≡ at_type_step (DslxType-F.Array (at_type t) n)
    at_is = ap at_type (sym (type_rolls.rolls-Array t n)) ∙ fold-roll-DslxType (Value → DslxValue) at_type_step (DslxType-F.Array t n)

-- ---- tokens

token_return : Returns ty.Token
token_return v of = record {
  back = λ h. (λ i. taken_low (plain_is i) (above h (flat_of (own i)))) ∙ ap (λ y. taken_low (pty.Tuple []) (above h y)) (flat_of-Tuple [])
      ∙ ap (λ (p : Taker). p (above h (word 0 0))) (types.fold-Tuple Taker take_step []) ∙ ap (λ n. (plain.Tuple [], n)) (omega arith) ∙ ap (λ u. (u, h)) (sym own);
  at = (λ i. at_is i (own i)) ∙ sym rolls.rolls-Token ∙ sym (rebuilt v DslxValue-F.Token q);
  wide = ap (λ (y : Word). y.width) flat ∙ sym (ap flat_bits (sym type_rolls.rolls-Token) ∙ fold-roll-DslxType ℕ flat_bits_in DslxType-F.Token);
  range = subst InRange (sym flat) (lit< tt);
}
  where
    q : out-DslxValue v ≡ DslxValue-F.Token
    q = is_token_of v of

    own : plain_value v ≡ plain.Tuple []
    own = ap plain_value (rebuilt v DslxValue-F.Token q) ∙ fold-roll-DslxValue Value forget_step DslxValue-F.Token

    flat : flat_of (plain_value v) ≡ word 0 0
    flat = ap flat_of own ∙ flat_of-Tuple []

    plain_is : plain_type ty.Token ≡ pty.Tuple []
    plain_is = ap plain_type (sym type_rolls.rolls-Token) ∙ fold-roll-DslxType Ty plain_step DslxType-F.Token

    at_is : at_type ty.Token ≡ at_type_step DslxType-F.Token
    at_is = ap at_type (sym type_rolls.rolls-Token) ∙ fold-roll-DslxType (Value → DslxValue) at_type_step DslxType-F.Token

-- ---- the whole

pub comes_back : (t : DslxType) (v : DslxValue) → is_of t v ≡ true → ComesBack t v
comes_back = type_induction Returns bits_return tuple_return array_return struct_return enum_return token_return

-- the word of a value of a type is one of as many bits as the type has, and holds the value
pub word_holds : (t : DslxType) (v : DslxValue) → is_of t v ≡ true → (n : ℕ) × (n < 2 ^ flat_bits t) × (from_word t (word (flat_bits t) n) ≡ v)
word_holds t v of =
    let b = comes_back t v of in
    let x = flat_of (plain_value v) in
    let none : x.value ≡ above 0 x = omega arith in
    (x.value, subst (λ w. x.value < 2 ^ w) b.wide b.range, ap (at_type t) (ap (λ n. (taken_low (plain_type t) n).0) none ∙ ap (λ (r : Value × ℕ). r.0) (b.back 0)) ∙ b.at)
