-- Two values of one type are equal where they are without signs and names.
use Rattle.std.proofs.Common.{◌≡◌, ◌&&◌, ◌==◌, ℕ, Bool, true, false, List, [], ◌∷◌, map, refl, sym, ap, ◌∙◌}
use mathlib.Core.Bool.{true≢false}
use Rattle.std.specs.Str.{bytes_eq}
use Rattle.std.specs.List.{list_all}
use Rattle.std.proofs.lemmas.Bool.Decides.{Decides-eqb}
use Rattle.std.proofs.lemmas.Slice.Eq.{bytes_eq-Decides}
use Rattle.xb_bits.specs.Word.{Word}
use Rattle.xb_value.proofs.Lemmas.Types.{EachHas}
use Rattle.xb_value.specs.declared.value.Value.{Value, out-Value}
use Rattle.xb_value.specs.declared.value.Value as plain
use Rattle.xb_value.specs.declared.value.Value.TheOpen.{Value-F}
use Rattle.xb_value.specs.declared.value.Value.TheVariants as plain_rolls
use Rattle.xb_value.specs.declared.value.Value.TheViews as plain_views
use Rattle.xb_value.specs.declared.value.Value.TheFolds.{fold-roll-Value}
use Rattle.dslx_meaning.specs.Lists.{pairwise}
use Rattle.dslx_meaning.specs.Types.{same_bool}
use Rattle.dslx_meaning.specs.Values.{plain_value, same_word, bits_same, tuple_same, array_same, struct_same, enum_same, token_same, same_value, same_value_step}
use Rattle.dslx_meaning.specs.declared.ty.DslxType.{DslxType}
use Rattle.dslx_meaning.specs.declared.ty.DslxType as ty
use Rattle.dslx_meaning.specs.declared.value.DslxValue.{DslxValue, out-DslxValue}
use Rattle.dslx_meaning.specs.declared.value.DslxValue.TheOpen.{DslxValue-F}
use Rattle.dslx_meaning.specs.declared.value.DslxValue.TheViews as views
use Rattle.dslx_meaning.specs.declared.value.DslxValue.TheFolds.{fold-roll-DslxValue, map-DslxValue}
use Rattle.dslx_core.proofs.Lemmas.Typing.Laws.{and_true}
use Rattle.dslx_core.specs.Typing.Typed.Kinds.{is_of, each_of}
use Rattle.dslx_core.proofs.Lemmas.Typing.Typed.{is_array_of, is_bits_of, is_enum_of, is_struct_of, is_token_of, is_tuple_of, type_induction}
use Rattle.dslx_core.specs.CoreValues.{array_like, bits_like, is_like, like_step, tuple_like}
use Rattle.dslx_core.proofs.OnLowering.Openings.{plain_level}

-- ---- the tests at each kind of value

pub like_bits : (y : Word) (u : Value) → is_like (plain.Bits y) u ≡ bits_like y (out-Value u)
like_bits y u = ap (λ f. f u) (ap is_like (sym (plain_rolls.rolls-Bits y)) ∙ fold-roll-Value (Value → Bool) like_step (Value-F.Bits y))

like_tuple : (vs : List Value) (u : Value) → is_like (plain.Tuple vs) u ≡ tuple_like (map is_like vs) (out-Value u)
like_tuple vs u = ap (λ f. f u) (ap is_like (sym (plain_rolls.rolls-Tuple vs)) ∙ fold-roll-Value (Value → Bool) like_step (Value-F.Tuple vs))

like_array : (vs : List Value) (u : Value) → is_like (plain.Array vs) u ≡ array_like (map is_like vs) (out-Value u)
like_array vs u = ap (λ f. f u) (ap is_like (sym (plain_rolls.rolls-Array vs)) ∙ fold-roll-Value (Value → Bool) like_step (Value-F.Array vs))

same_level : (v w : DslxValue) (l : DslxValue-F DslxValue) → out-DslxValue v ≡ l → same_value v w ≡ same_value_step (map-DslxValue DslxValue (DslxValue → Bool) same_value l) w
same_level v w l e = ap (λ f. f w) (ap same_value (sym (views.roll-out-DslxValue v) ∙ ap views.roll-DslxValue e) ∙ fold-roll-DslxValue (DslxValue → Bool) same_value_step l)

-- ---- tests that don't depend on the order

either_way : (a c : ℕ) → (a == c) ≡ (c == a)
either_way a c = by (a == c) (c == a) refl refl
  where
    by : (p q : Bool) → (a == c) ≡ p → (c == a) ≡ q → p ≡ q
    by true true h k = refl
    by true false h k = absurd (true≢false (sym ((Decides-eqb c a).1 (sym ((Decides-eqb a c).0 h))) ∙ k))
    by false true h k = absurd (true≢false (sym ((Decides-eqb a c).1 (sym ((Decides-eqb c a).0 k))) ∙ h))
    by false false h k = refl

pub words_either_way : (x y : Word) → same_word y x ≡ same_word x y
words_either_way x y = λ i. either_way y.width x.width i && either_way y.value x.value i

bool_itself : (s : Bool) → same_bool s s ≡ true
bool_itself true = refl
bool_itself false = refl

name_itself : (name : List ℕ) → bytes_eq name name ≡ true
name_itself name = (bytes_eq-Decides name name).1 refl

-- ---- values of one type

abbrev IsLike : DslxType → Type 0
IsLike t = (v w : DslxValue) → is_of t v ≡ true → is_of t w ≡ true → is_like (plain_value w) (plain_value v) ≡ same_value v w

each_like : (ts : List DslxType) (vs ws : List DslxValue) → EachHas IsLike ts → each_of (map is_of ts) vs ≡ true → each_of (map is_of ts) ws ≡ true
    → pairwise (λ p v. p v) (map is_like (map plain_value ws)) (map plain_value vs) ≡ pairwise (λ p v. p v) (map same_value vs) ws
each_like [] [] [] h e f = refl
each_like [] (v ∷ vs) ws h e f = absurd (true≢false (sym e))
each_like [] [] (w ∷ ws) h e f = absurd (true≢false (sym f))
each_like (t ∷ ts) [] ws h e f = absurd (true≢false (sym e))
each_like (t ∷ ts) (v ∷ vs) [] h e f = absurd (true≢false (sym f))
each_like (t ∷ ts) (v ∷ vs) (w ∷ ws) h e f =
    let q = and_true (is_of t v) (each_of (map is_of ts) vs) e in
    let r = and_true (is_of t w) (each_of (map is_of ts) ws) f in
    λ i. h.0 v w q.0 r.0 i && each_like ts vs ws h.1 q.1 r.1 i

all_like : (t : DslxType) (vs ws : List DslxValue) → IsLike t → list_all (is_of t) vs ≡ true → list_all (is_of t) ws ≡ true
    → pairwise (λ p v. p v) (map is_like (map plain_value ws)) (map plain_value vs) ≡ pairwise (λ p v. p v) (map same_value vs) ws
all_like t [] [] h e f = refl
all_like t [] (w ∷ ws) h e f = refl
all_like t (v ∷ vs) [] h e f = refl
all_like t (v ∷ vs) (w ∷ ws) h e f =
    let q = and_true (is_of t v) (list_all (is_of t) vs) e in
    let r = and_true (is_of t w) (list_all (is_of t) ws) f in
    λ i. h v w q.0 r.0 i && all_like t vs ws h q.1 r.1 i

bits_alike : (s : Bool) (w : ℕ) → IsLike (ty.Bits s w)
bits_alike s n v w e f =
    let x = is_bits_of s n v e in
    let y = is_bits_of s n w f in
    (λ i. is_like (plain_level w (DslxValue-F.Bits s y.0) y.1 i) (plain_level v (DslxValue-F.Bits s x.0) x.1 i))
    ∙ like_bits y.0 (plain.Bits x.0) ∙ ap (bits_like y.0) (plain_views.outs-Bits x.0) ∙ words_either_way x.0 y.0
    ∙ (λ i. sym (bool_itself s) i && same_word x.0 y.0) ∙ ap (bits_same s x.0) (sym y.1) ∙ sym (same_level v w (DslxValue-F.Bits s x.0) x.1)

tuple_alike : (ts : List DslxType) → EachHas IsLike ts → IsLike (ty.Tuple ts)
tuple_alike ts h v w e f =
    let vs = is_tuple_of ts v e in
    let ws = is_tuple_of ts w f in
    (λ i. is_like (plain_level w (DslxValue-F.Tuple ws.0) ws.1 i) (plain_level v (DslxValue-F.Tuple vs.0) vs.1 i))
    ∙ like_tuple (map plain_value ws.0) (plain.Tuple (map plain_value vs.0)) ∙ ap (tuple_like (map is_like (map plain_value ws.0))) (plain_views.outs-Tuple (map plain_value vs.0))
    ∙ each_like ts vs.0 ws.0 h vs.2 ws.2 ∙ ap (tuple_same (map same_value vs.0)) (sym ws.1) ∙ sym (same_level v w (DslxValue-F.Tuple vs.0) vs.1)

array_alike : (t : DslxType) (n : ℕ) → IsLike t → IsLike (ty.Array t n)
array_alike t n h v w e f =
    let vs = is_array_of t n v e in
    let ws = is_array_of t n w f in
    (λ i. is_like (plain_level w (DslxValue-F.Array ws.elements) ws.out i) (plain_level v (DslxValue-F.Array vs.elements) vs.out i))
    ∙ like_array (map plain_value ws.elements) (plain.Array (map plain_value vs.elements)) ∙ ap (array_like (map is_like (map plain_value ws.elements))) (plain_views.outs-Array (map plain_value vs.elements))
    ∙ all_like t vs.elements ws.elements h vs.all ws.all ∙ ap (array_same (map same_value vs.elements)) (sym ws.out) ∙ sym (same_level v w (DslxValue-F.Array vs.elements) vs.out)

struct_alike : (name : List ℕ) (fields : List (List ℕ)) (ts : List DslxType) → EachHas IsLike ts → IsLike (ty.Struct name fields ts)
struct_alike name fields ts h v w e f =
    let vs = is_struct_of name fields ts v e in
    let ws = is_struct_of name fields ts w f in
    (λ i. is_like (plain_level w (DslxValue-F.Struct name fields ws.0) ws.1 i) (plain_level v (DslxValue-F.Struct name fields vs.0) vs.1 i))
    ∙ like_tuple (map plain_value ws.0) (plain.Tuple (map plain_value vs.0)) ∙ ap (tuple_like (map is_like (map plain_value ws.0))) (plain_views.outs-Tuple (map plain_value vs.0))
    ∙ each_like ts vs.0 ws.0 h vs.2 ws.2 ∙ (λ i. sym (name_itself name) i && pairwise (λ p v. p v) (map same_value vs.0) ws.0)
    ∙ ap (struct_same name (map same_value vs.0)) (sym ws.1) ∙ sym (same_level v w (DslxValue-F.Struct name fields vs.0) vs.1)

enum_alike : (name : List ℕ) (s : Bool) (w : ℕ) → IsLike (ty.Enum name s w)
enum_alike name s n v w e f =
    let x = is_enum_of name s n v e in
    let y = is_enum_of name s n w f in
    (λ i. is_like (plain_level w (DslxValue-F.Enum name s y.0) y.1 i) (plain_level v (DslxValue-F.Enum name s x.0) x.1 i))
    ∙ like_bits y.0 (plain.Bits x.0) ∙ ap (bits_like y.0) (plain_views.outs-Bits x.0) ∙ words_either_way x.0 y.0
    ∙ (λ i. sym (name_itself name) i && same_word x.0 y.0) ∙ ap (enum_same name x.0) (sym y.1) ∙ sym (same_level v w (DslxValue-F.Enum name s x.0) x.1)

token_alike : IsLike ty.Token
token_alike v w e f =
    (λ i. is_like (plain_level w DslxValue-F.Token (is_token_of w f) i) (plain_level v DslxValue-F.Token (is_token_of v e) i))
    ∙ like_tuple [] (plain.Tuple []) ∙ ap (tuple_like []) (plain_views.outs-Tuple [])
    ∙ ap token_same (sym (is_token_of w f)) ∙ sym (same_level v w DslxValue-F.Token (is_token_of v e))

pub alike_by_type : (t : DslxType) → IsLike t
alike_by_type = type_induction IsLike bits_alike tuple_alike array_alike struct_alike enum_alike token_alike
