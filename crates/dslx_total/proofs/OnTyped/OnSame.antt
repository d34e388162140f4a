-- Values that pass the test are one value without signs and names, and so are the values of one number.
use Rattle.std.proofs.Common.{◌≡◌, ◌==◌, ℕ, suc, zero, ◌-◌, Bool, true, false, if◌then◌else◌, List, [], ◌∷◌, map, Some, None, refl, sym, ap, ◌∙◌}
use mathlib.Core.Bool.{true≢false}
use Rattle.std.specs.Prelude.{nat_le, nat_lt, ◌^◌}
use Rattle.std.specs.Str.{bytes_eq}
use Rattle.std.specs.List.{list_all}
use Rattle.std.proofs.lemmas.Bool.Decides.{Decides-eqb}
use Rattle.xb_bits.specs.Word.{Word, word}
use Rattle.xb_value.specs.declared.value.Value.{Value}
use Rattle.xb_value.specs.declared.value.Value as plain
use Rattle.xb_value.proofs.Lemmas.Types.{EachHas}
use Rattle.dslx_meaning.specs.Lists.{pairwise}
use Rattle.dslx_meaning.specs.Operators.{negative_word, number_in, number_value, positive_word, word_in_range}
use Rattle.dslx_meaning.specs.Types.{same_bool}
use Rattle.dslx_meaning.specs.Values.{array_same, bits_same, enum_same, forget_step, plain_value, same_value, same_value_step, same_word, struct_same, tuple_same, type_of_value}
use Rattle.dslx_meaning.specs.declared.ty.BitKind.{BitKind}
use Rattle.dslx_meaning.specs.declared.ty.DslxType.{DslxType}
use Rattle.dslx_meaning.specs.declared.ty.DslxType as ty
use Rattle.dslx_meaning.specs.declared.value.DslxValue.{DslxValue, out-DslxValue}
use Rattle.dslx_meaning.specs.declared.value.DslxValue as value
use Rattle.dslx_meaning.specs.declared.value.DslxValue.TheOpen.{DslxValue-F}
use Rattle.dslx_meaning.specs.declared.value.DslxValue.TheViews as views
use Rattle.dslx_meaning.specs.declared.value.DslxValue.TheFolds.{fold-roll-DslxValue, map-DslxValue}
use Rattle.dslx_meaning.specs.declared.value.UntypedLiteral.{UntypedLiteral}
use Rattle.dslx_core.proofs.Lemmas.Lowering.{from_then}
use Rattle.dslx_core.proofs.Lemmas.Typing.Laws.{and_true}
use Rattle.dslx_core.proofs.Lemmas.Typing.Typed.{is_array_of, is_bits_of, is_enum_of, is_struct_of, is_token_of, is_tuple_of, none_some, one_bool, same_some, type_induction, typed_level}
use Rattle.dslx_core.specs.Typing.Typed.Kinds.{each_of, is_of}
use Rattle.dslx_total.proofs.OnTyped.OfNames.{number_kind}

-- ---- values at their kinds

pub plain_at_level : (v : DslxValue) (l : DslxValue-F DslxValue) → out-DslxValue v ≡ l → plain_value v ≡ forget_step (map-DslxValue DslxValue Value plain_value l)
plain_at_level v l e = ap plain_value (sym (views.roll-out-DslxValue v) ∙ ap views.roll-DslxValue e) ∙ fold-roll-DslxValue Value forget_step l

same_level : (v w : DslxValue) (l : DslxValue-F DslxValue) → out-DslxValue v ≡ l → same_value v w ≡ same_value_step (map-DslxValue DslxValue (DslxValue → Bool) same_value l) w
same_level v w l e = ap (λ f. f w) (ap same_value (sym (views.roll-out-DslxValue v) ∙ ap views.roll-DslxValue e) ∙ fold-roll-DslxValue (DslxValue → Bool) same_value_step l)

one_word : (x y : Word) → same_word x y ≡ true → x ≡ y
one_word x y e =
    let q = and_true (x.width == y.width) (x.value == y.value) e in
    let width = (Decides-eqb x.width y.width).0 q.0 in
    let number = (Decides-eqb x.value y.value).0 q.1 in
    λ i. record { width = width i; value = number i }

-- ---- values of one type

abbrev pub SamePlain : DslxType → Type 0
SamePlain t = (v w : DslxValue) → is_of t v ≡ true → is_of t w ≡ true → same_value v w ≡ true → plain_value v ≡ plain_value w

each_same : (ts : List DslxType) (vs ws : List DslxValue) → EachHas SamePlain ts → each_of (map is_of ts) vs ≡ true → each_of (map is_of ts) ws ≡ true → pairwise (λ p v. p v) (map same_value vs) ws ≡ true → map plain_value vs ≡ map plain_value ws
each_same [] [] [] h e f k = refl
each_same [] (v ∷ vs) ws h e f k = absurd (true≢false (sym e))
each_same [] [] (w ∷ ws) h e f k = absurd (true≢false (sym f))
each_same (t ∷ ts) [] ws h e f k = absurd (true≢false (sym e))
each_same (t ∷ ts) (v ∷ vs) [] h e f k = absurd (true≢false (sym f))
each_same (t ∷ ts) (v ∷ vs) (w ∷ ws) h e f k =
    let q = and_true (is_of t v) (each_of (map is_of ts) vs) e in
    let r = and_true (is_of t w) (each_of (map is_of ts) ws) f in
    let s = and_true (same_value v w) (pairwise (λ p v. p v) (map same_value vs) ws) k in
    λ i. h.0 v w q.0 r.0 s.0 i ∷ each_same ts vs ws h.1 q.1 r.1 s.1 i

all_same : (t : DslxType) (vs ws : List DslxValue) → SamePlain t → list_all (is_of t) vs ≡ true → list_all (is_of t) ws ≡ true → pairwise (λ p v. p v) (map same_value vs) ws ≡ true → map plain_value vs ≡ map plain_value ws
all_same t [] [] h e f k = refl
all_same t [] (w ∷ ws) h e f k = absurd (true≢false (sym k))
all_same t (v ∷ vs) [] h e f k = absurd (true≢false (sym k))
all_same t (v ∷ vs) (w ∷ ws) h e f k =
    let q = and_true (is_of t v) (list_all (is_of t) vs) e in
    let r = and_true (is_of t w) (list_all (is_of t) ws) f in
    let s = and_true (same_value v w) (pairwise (λ p v. p v) (map same_value vs) ws) k in
    λ i. h v w q.0 r.0 s.0 i ∷ all_same t vs ws h q.1 r.1 s.1 i

bits_alike : (s : Bool) (n : ℕ) → SamePlain (ty.Bits s n)
bits_alike s n v w e f k =
    let x = is_bits_of s n v e in
    let y = is_bits_of s n w f in
    let tests = and_true (same_bool s s) (same_word x.0 y.0) (sym (same_level v w (DslxValue-F.Bits s x.0) x.1 ∙ ap (bits_same s x.0) y.1) ∙ k) in
    plain_at_level v (DslxValue-F.Bits s x.0) x.1 ∙ ap plain.Bits (one_word x.0 y.0 tests.1) ∙ sym (plain_at_level w (DslxValue-F.Bits s y.0) y.1)

tuple_alike : (ts : List DslxType) → EachHas SamePlain ts → SamePlain (ty.Tuple ts)
tuple_alike ts h v w e f k =
    let vs = is_tuple_of ts v e in
    let ws = is_tuple_of ts w f in
    let tests = sym (same_level v w (DslxValue-F.Tuple vs.0) vs.1 ∙ ap (tuple_same (map same_value vs.0)) ws.1) ∙ k in
    plain_at_level v (DslxValue-F.Tuple vs.0) vs.1 ∙ ap plain.Tuple (each_same ts vs.0 ws.0 h vs.2 ws.2 tests) ∙ sym (plain_at_level w (DslxValue-F.Tuple ws.0) ws.1)

array_alike : (t : DslxType) (n : ℕ) → SamePlain t → SamePlain (ty.Array t n)
array_alike t n h v w e f k =
    let vs = is_array_of t n v e in
    let ws = is_array_of t n w f in
    let tests = sym (same_level v w (DslxValue-F.Array vs.elements) vs.out ∙ ap (array_same (map same_value vs.elements)) ws.out) ∙ k in
    plain_at_level v (DslxValue-F.Array vs.elements) vs.out ∙ ap plain.Array (all_same t vs.elements ws.elements h vs.all ws.all tests) ∙ sym (plain_at_level w (DslxValue-F.Array ws.elements) ws.out)

struct_alike : (name : List ℕ) (fields : List (List ℕ)) (ts : List DslxType) → EachHas SamePlain ts → SamePlain (ty.Struct name fields ts)
struct_alike name fields ts h v w e f k =
    let vs = is_struct_of name fields ts v e in
    let ws = is_struct_of name fields ts w f in
    let tests = and_true (bytes_eq name name) (pairwise (λ p v. p v) (map same_value vs.0) ws.0) (sym (same_level v w (DslxValue-F.Struct name fields vs.0) vs.1 ∙ ap (struct_same name (map same_value vs.0)) ws.1) ∙ k) in
    plain_at_level v (DslxValue-F.Struct name fields vs.0) vs.1 ∙ ap plain.Tuple (each_same ts vs.0 ws.0 h vs.2 ws.2 tests.1) ∙ sym (plain_at_level w (DslxValue-F.Struct name fields ws.0) ws.1)

enum_alike : (name : List ℕ) (s : Bool) (n : ℕ) → SamePlain (ty.Enum name s n)
enum_alike name s n v w e f k =
    let x = is_enum_of name s n v e in
    let y = is_enum_of name s n w f in
    let tests = and_true (bytes_eq name name) (same_word x.0 y.0) (sym (same_level v w (DslxValue-F.Enum name s x.0) x.1 ∙ ap (enum_same name x.0) y.1) ∙ k) in
    plain_at_level v (DslxValue-F.Enum name s x.0) x.1 ∙ ap plain.Bits (one_word x.0 y.0 tests.1) ∙ sym (plain_at_level w (DslxValue-F.Enum name s y.0) y.1)

pub same_plain : (t : DslxType) → SamePlain t
same_plain = type_induction SamePlain bits_alike tuple_alike array_alike struct_alike enum_alike
    (λ v w e f k. plain_at_level v DslxValue-F.Token (is_token_of v e) ∙ sym (plain_at_level w DslxValue-F.Token (is_token_of w f)))

-- ---- numbers

in_test : (b : Bool) (w : ℕ) (y x : Word) → y.width ≡ w → (if b then Some y else None) ≡ Some x → x.width ≡ w
in_test true w y x h e = ap (λ (z : Word). z.width) (sym (same_some y x e)) ∙ h
in_test false w y x h e = none_some x e

range_width : (k : BitKind) (number : UntypedLiteral) (x : Word) → word_in_range k number ≡ Some x → x.width ≡ k.width
range_width k number x e = by_test number.is_negative e
  where
    negative : (s : Bool) (w n : ℕ) → negative_word s w n ≡ Some x → x.width ≡ w
    negative s w zero q = ap (λ (z : Word). z.width) (sym (same_some (word w 0) x q))
    negative false w (suc n) q = none_some x q
    negative true w (suc n) q = in_test (nat_le (suc n) (2 ^ (w - 1))) w (word w (2 ^ w - suc n)) x refl q

    positive : (s : Bool) (w n : ℕ) → positive_word s w n ≡ Some x → x.width ≡ w
    positive false w n q = in_test (nat_lt n (2 ^ w)) w (word w n) x refl q
    positive true w n q = in_test (nat_lt n (2 ^ (w - 1))) w (word w n) x refl q

    by_test : (b : Bool) → (if b then negative_word k.signed k.width number.value else positive_word k.signed k.width number.value) ≡ Some x → x.width ≡ k.width
    by_test true q = negative k.signed k.width number.value q
    by_test false q = positive k.signed k.width number.value q

-- bits that are a number
record NumberBits (t : DslxType) (number : UntypedLiteral) (v : DslxValue) : Type 0 where
  kind : BitKind
  bits : number_value t number ≡ number_in (Some kind) number
  held : Word
  is : v ≡ value.Bits kind.signed held
  wide : held.width ≡ kind.width

number_bits : (t : DslxType) (number : UntypedLiteral) (v : DslxValue) → number_value t number ≡ Some v → NumberBits t number v
number_bits t number v e =
    let k = number_kind t number v e in
    let bits = ap (λ o. number_in o number) k.1 in
    let x = from_then (word_in_range k.0 number) (λ w. Some (value.Bits k.0.signed w)) v (sym bits ∙ e) in
    record { kind = k.0; bits = bits; held = x.0; is = sym (same_some (value.Bits k.0.signed x.0) v x.2); wide = range_width k.0 number x.0 x.1 }

-- a number is the value that it is compared with, where that has the number's type
pub one_number : (number : UntypedLiteral) (t s : DslxType) (u w v : DslxValue) → number_value t number ≡ Some u → number_value s number ≡ Some w → is_of (type_of_value u) v ≡ true → same_value v w ≡ true → plain_value u ≡ plain_value v
one_number number t s u w v e f of same =
    let a = number_bits t number u e in
    let b = number_bits s number w f in
    let own = typed_level u (DslxValue-F.Bits a.kind.signed a.held) (ap out-DslxValue a.is ∙ views.outs-Bits a.kind.signed a.held) in
    let x = is_bits_of a.kind.signed a.held.width v (ap (λ y. is_of y v) (sym own) ∙ of) in
    let tests = and_true (same_bool a.kind.signed b.kind.signed) (same_word x.0 b.held)
    (sym (same_level v w (DslxValue-F.Bits a.kind.signed x.0) x.1 ∙ ap (bits_same a.kind.signed x.0) (ap out-DslxValue b.is ∙ views.outs-Bits b.kind.signed b.held)) ∙ same) in
    let sign = one_bool a.kind.signed b.kind.signed tests.0 in
    let one = one_word x.0 b.held tests.1 in
    let width : a.kind.width ≡ b.kind.width = sym a.wide ∙ sym x.2 ∙ ap (λ (z : Word). z.width) one ∙ b.wide in
    let kinds : a.kind ≡ b.kind = λ i. record { signed = sign i; width = width i } in
    let numbers : u ≡ w = same_some u w (sym e ∙ a.bits ∙ ap (λ k. number_in (Some k) number) kinds ∙ sym b.bits ∙ f) in
    ap plain_value (numbers ∙ b.is) ∙ plain_at_level (value.Bits b.kind.signed b.held) (DslxValue-F.Bits b.kind.signed b.held) (views.outs-Bits b.kind.signed b.held)
    ∙ ap plain.Bits (sym one) ∙ sym (plain_at_level v (DslxValue-F.Bits a.kind.signed x.0) x.1)
