-- Values that pass the test are one value, and each passes it with itself.
use Rattle.std.proofs.Common.{◌≡◌, ◌&&◌, ◌==◌, ℕ, Bool, true, false, List, [], ◌∷◌, map, refl, sym, ap, subst, ◌∙◌}
use mathlib.Core.Bool.{true≢false}
use Rattle.std.specs.Str.{bytes_eq}
use Rattle.std.proofs.lemmas.Bool.Decides.{Decides-eqb}
use Rattle.std.proofs.lemmas.Slice.Eq.{bytes_eq-Decides}
use Rattle.xb_bits.specs.Word.{Word}
use Rattle.xb_value.proofs.Lemmas.Types.{EachHas}
use Rattle.dslx_meaning.specs.Lists.{pairwise}
use Rattle.dslx_meaning.specs.Types.{same_bool}
use Rattle.dslx_meaning.specs.Values.{array_same, bits_same, same_word, token_same, tuple_same}
use Rattle.dslx_meaning.specs.declared.value.DslxValue.{DslxValue, out-DslxValue}
use Rattle.dslx_meaning.specs.declared.value.DslxValue as value
use Rattle.dslx_meaning.specs.declared.value.DslxValue.TheVariants as rolls
use Rattle.dslx_meaning.specs.declared.value.DslxValue.TheOpen.{DslxValue-F}
use Rattle.dslx_meaning.specs.declared.value.DslxValue.TheViews as views
use Rattle.dslx_meaning.specs.declared.value.DslxValue.TheFolds.{fold-roll-DslxValue, ind-DslxValue, map-DslxValue}
use Rattle.dslx_meaning.specs.Rules.EqualValues.{enum_value_equal, equal_value, equal_value_step, struct_value_equal}
use Rattle.dslx_core.proofs.OnTyping.OnLaws.Typed.{and_true}

equal_as : (l : DslxValue-F DslxValue) (u : DslxValue) → equal_value (views.roll-DslxValue l) u ≡ equal_value_step (map-DslxValue DslxValue (DslxValue → Bool) equal_value l) u
equal_as l u = ap (λ f. f u) (fold-roll-DslxValue (DslxValue → Bool) equal_value_step l)

-- a value by its level
of_value_level : (u : DslxValue) (l : DslxValue-F DslxValue) → out-DslxValue u ≡ l → views.roll-DslxValue l ≡ u
of_value_level u l e = ap views.roll-DslxValue (sym e) ∙ views.roll-out-DslxValue u

-- by the kind of the value, where it holds of its parts
pairs_have : (P : DslxValue → Type 0) → (es : List ((v : DslxValue) × P v)) → EachHas P (map (λ e. e.0) es)
pairs_have P [] = tt
pairs_have P (e ∷ es) = (e.1, pairs_have P es)

value_induction : (P : DslxValue → Type 0) → ((s : Bool) (w : Word) → P (value.Bits s w)) → ((vs : List DslxValue) → EachHas P vs → P (value.Tuple vs)) → ((vs : List DslxValue) → EachHas P vs → P (value.Array vs))
    → ((name : List ℕ) (fields : List (List ℕ)) (vs : List DslxValue) → EachHas P vs → P (value.Struct name fields vs)) → ((name : List ℕ) (s : Bool) (w : Word) → P (value.Enum name s w)) → P value.Token → (v : DslxValue) → P v
value_induction P bits tuple array struct enum token = ind-DslxValue P (λ x y is. subst (λ z. P (views.roll-DslxValue z)) is (case y))
  where
    case : (y : DslxValue-F ((v : DslxValue) × P v)) → P (views.roll-DslxValue (map-DslxValue ((v : DslxValue) × P v) DslxValue (λ e. e.0) y))
    case (DslxValue-F.Bits s w) = subst P (sym (rolls.rolls-Bits s w)) (bits s w)
    case (DslxValue-F.Tuple es) = subst P (sym (rolls.rolls-Tuple (map (λ e. e.0) es))) (tuple (map (λ e. e.0) es) (pairs_have P es))
    case (DslxValue-F.Array es) = subst P (sym (rolls.rolls-Array (map (λ e. e.0) es))) (array (map (λ e. e.0) es) (pairs_have P es))
    case (DslxValue-F.Struct name fields es) = subst P (sym (rolls.rolls-Struct name fields (map (λ e. e.0) es))) (struct name fields (map (λ e. e.0) es) (pairs_have P es))
    case (DslxValue-F.Enum name s w) = subst P (sym (rolls.rolls-Enum name s w)) (enum name s w)
    case DslxValue-F.Token = subst P (sym rolls.rolls-Token) token

-- ---- what passes is one

one_bool : (s t : Bool) → same_bool s t ≡ true → s ≡ t
one_bool true true e = refl
one_bool true false e = absurd (true≢false (sym e))
one_bool false true e = absurd (true≢false (sym e))
one_bool false false e = refl

one_name : (a b : List ℕ) → bytes_eq a b ≡ true → a ≡ b
one_name a b e = (bytes_eq-Decides a b).0 e

one_list : (ns ms : List (List ℕ)) → pairwise bytes_eq ns ms ≡ true → ns ≡ ms
one_list [] [] e = refl
one_list [] (m ∷ ms) e = absurd (true≢false (sym e))
one_list (n ∷ ns) [] e = absurd (true≢false (sym e))
one_list (n ∷ ns) (m ∷ ms) e = let q = and_true (bytes_eq n m) (pairwise bytes_eq ns ms) e in λ i. one_name n m q.0 i ∷ one_list ns ms q.1 i

one_word : (x y : Word) → same_word x y ≡ true → x ≡ y
one_word x y e =
    let q = and_true (x.width == y.width) (x.value == y.value) e in
    λ i. record { width = (Decides-eqb x.width y.width).0 q.0 i; value = (Decides-eqb x.value y.value).0 q.1 i }

abbrev IsOne : DslxValue → Type 0
IsOne v = (u : DslxValue) → equal_value v u ≡ true → v ≡ u

each_one : (vs us : List DslxValue) → EachHas IsOne vs → pairwise (λ (p : DslxValue → Bool) v. p v) (map equal_value vs) us ≡ true → vs ≡ us
each_one [] [] h e = refl
each_one [] (u ∷ us) h e = absurd (true≢false (sym e))
each_one (v ∷ vs) [] h e = absurd (true≢false (sym e))
each_one (v ∷ vs) (u ∷ us) h e = let q = and_true (equal_value v u) (pairwise (λ (p : DslxValue → Bool) v. p v) (map equal_value vs) us) e in λ i. h.0 u q.0 i ∷ each_one vs us h.1 q.1 i

bits_one : (s : Bool) (w : Word) → IsOne (value.Bits s w)
bits_one s w u e = by_level (out-DslxValue u) refl (sym (ap (λ t. equal_value t u) (sym (rolls.rolls-Bits s w)) ∙ equal_as (DslxValue-F.Bits s w) u) ∙ e)
  where
    by_level : (l : DslxValue-F DslxValue) → out-DslxValue u ≡ l → bits_same s w l ≡ true → value.Bits s w ≡ u
    by_level (DslxValue-F.Bits s' w') q h =
        let r = and_true (same_bool s s') (same_word w w') h in
        (λ i. value.Bits (one_bool s s' r.0 i) (one_word w w' r.1 i)) ∙ sym (rolls.rolls-Bits s' w') ∙ of_value_level u (DslxValue-F.Bits s' w') q
    by_level (DslxValue-F.Tuple us) q h = absurd (true≢false (sym h))
    by_level (DslxValue-F.Array us) q h = absurd (true≢false (sym h))
    by_level (DslxValue-F.Struct name fields us) q h = absurd (true≢false (sym h))
    by_level (DslxValue-F.Enum name s' w') q h = absurd (true≢false (sym h))
    by_level DslxValue-F.Token q h = absurd (true≢false (sym h))

tuple_one : (vs : List DslxValue) → EachHas IsOne vs → IsOne (value.Tuple vs)
tuple_one vs all u e = by_level (out-DslxValue u) refl (sym (ap (λ t. equal_value t u) (sym (rolls.rolls-Tuple vs)) ∙ equal_as (DslxValue-F.Tuple vs) u) ∙ e)
  where
    by_level : (l : DslxValue-F DslxValue) → out-DslxValue u ≡ l → tuple_same (map equal_value vs) l ≡ true → value.Tuple vs ≡ u
    by_level (DslxValue-F.Tuple us) q h = ap value.Tuple (each_one vs us all h) ∙ sym (rolls.rolls-Tuple us) ∙ of_value_level u (DslxValue-F.Tuple us) q
    by_level (DslxValue-F.Bits s w) q h = absurd (true≢false (sym h))
    by_level (DslxValue-F.Array us) q h = absurd (true≢false (sym h))
    by_level (DslxValue-F.Struct name fields us) q h = absurd (true≢false (sym h))
    by_level (DslxValue-F.Enum name s w) q h = absurd (true≢false (sym h))
    by_level DslxValue-F.Token q h = absurd (true≢false (sym h))

array_one : (vs : List DslxValue) → EachHas IsOne vs → IsOne (value.Array vs)
array_one vs all u e = by_level (out-DslxValue u) refl (sym (ap (λ t. equal_value t u) (sym (rolls.rolls-Array vs)) ∙ equal_as (DslxValue-F.Array vs) u) ∙ e)
  where
    by_level : (l : DslxValue-F DslxValue) → out-DslxValue u ≡ l → array_same (map equal_value vs) l ≡ true → value.Array vs ≡ u
    by_level (DslxValue-F.Array us) q h = ap value.Array (each_one vs us all h) ∙ sym (rolls.rolls-Array us) ∙ of_value_level u (DslxValue-F.Array us) q
    by_level (DslxValue-F.Bits s w) q h = absurd (true≢false (sym h))
    by_level (DslxValue-F.Tuple us) q h = absurd (true≢false (sym h))
    by_level (DslxValue-F.Struct name fields us) q h = absurd (true≢false (sym h))
    by_level (DslxValue-F.Enum name s w) q h = absurd (true≢false (sym h))
    by_level DslxValue-F.Token q h = absurd (true≢false (sym h))

struct_one : (name : List ℕ) (fields : List (List ℕ)) (vs : List DslxValue) → EachHas IsOne vs → IsOne (value.Struct name fields vs)
struct_one name fields vs all u e = by_level (out-DslxValue u) refl (sym (ap (λ t. equal_value t u) (sym (rolls.rolls-Struct name fields vs)) ∙ equal_as (DslxValue-F.Struct name fields vs) u) ∙ e)
  where
    by_level : (l : DslxValue-F DslxValue) → out-DslxValue u ≡ l → struct_value_equal name fields (map equal_value vs) l ≡ true → value.Struct name fields vs ≡ u
    by_level (DslxValue-F.Struct name' fields' us) q h =
        let r = and_true (bytes_eq name name' && pairwise bytes_eq fields fields') (pairwise (λ (p : DslxValue → Bool) v. p v) (map equal_value vs) us) h in
        let n = and_true (bytes_eq name name') (pairwise bytes_eq fields fields') r.0 in
        (λ i. value.Struct (one_name name name' n.0 i) (one_list fields fields' n.1 i) (each_one vs us all r.1 i)) ∙ sym (rolls.rolls-Struct name' fields' us) ∙ of_value_level u (DslxValue-F.Struct name' fields' us) q
    by_level (DslxValue-F.Bits s w) q h = absurd (true≢false (sym h))
    by_level (DslxValue-F.Tuple us) q h = absurd (true≢false (sym h))
    by_level (DslxValue-F.Array us) q h = absurd (true≢false (sym h))
    by_level (DslxValue-F.Enum name' s w) q h = absurd (true≢false (sym h))
    by_level DslxValue-F.Token q h = absurd (true≢false (sym h))

enum_one : (name : List ℕ) (s : Bool) (w : Word) → IsOne (value.Enum name s w)
enum_one name s w u e = by_level (out-DslxValue u) refl (sym (ap (λ t. equal_value t u) (sym (rolls.rolls-Enum name s w)) ∙ equal_as (DslxValue-F.Enum name s w) u) ∙ e)
  where
    by_level : (l : DslxValue-F DslxValue) → out-DslxValue u ≡ l → enum_value_equal name s w l ≡ true → value.Enum name s w ≡ u
    by_level (DslxValue-F.Enum name' s' w') q h =
        let r = and_true (bytes_eq name name') (same_bool s s' && same_word w w') h in
        let k = and_true (same_bool s s') (same_word w w') r.1 in
        (λ i. value.Enum (one_name name name' r.0 i) (one_bool s s' k.0 i) (one_word w w' k.1 i)) ∙ sym (rolls.rolls-Enum name' s' w') ∙ of_value_level u (DslxValue-F.Enum name' s' w') q
    by_level (DslxValue-F.Bits s' w') q h = absurd (true≢false (sym h))
    by_level (DslxValue-F.Tuple us) q h = absurd (true≢false (sym h))
    by_level (DslxValue-F.Array us) q h = absurd (true≢false (sym h))
    by_level (DslxValue-F.Struct name' fields us) q h = absurd (true≢false (sym h))
    by_level DslxValue-F.Token q h = absurd (true≢false (sym h))

token_one : IsOne value.Token
token_one u e = by_level (out-DslxValue u) refl (sym (ap (λ t. equal_value t u) (sym rolls.rolls-Token) ∙ equal_as DslxValue-F.Token u) ∙ e)
  where
    by_level : (l : DslxValue-F DslxValue) → out-DslxValue u ≡ l → token_same l ≡ true → value.Token ≡ u
    by_level DslxValue-F.Token q h = sym rolls.rolls-Token ∙ of_value_level u DslxValue-F.Token q
    by_level (DslxValue-F.Bits s w) q h = absurd (true≢false (sym h))
    by_level (DslxValue-F.Tuple us) q h = absurd (true≢false (sym h))
    by_level (DslxValue-F.Array us) q h = absurd (true≢false (sym h))
    by_level (DslxValue-F.Struct name fields us) q h = absurd (true≢false (sym h))
    by_level (DslxValue-F.Enum name s w) q h = absurd (true≢false (sym h))

pub one_value_by_test : (v u : DslxValue) → equal_value v u ≡ true → v ≡ u
one_value_by_test = value_induction IsOne bits_one tuple_one array_one struct_one enum_one token_one

-- ---- each is one with itself

abbrev IsItself : DslxValue → Type 0
IsItself v = equal_value v v ≡ true

sign_itself : (s : Bool) → same_bool s s ≡ true
sign_itself true = refl
sign_itself false = refl

word_itself : (x : Word) → same_word x x ≡ true
word_itself x = λ i. (Decides-eqb x.width x.width).1 refl i && (Decides-eqb x.value x.value).1 refl i

names_themselves : (names : List (List ℕ)) → pairwise bytes_eq names names ≡ true
names_themselves [] = refl
names_themselves (n ∷ ns) = λ i. (bytes_eq-Decides n n).1 refl i && names_themselves ns i

each_itself : (vs : List DslxValue) → EachHas IsItself vs → pairwise (λ (p : DslxValue → Bool) v. p v) (map equal_value vs) vs ≡ true
each_itself [] h = refl
each_itself (v ∷ vs) h = λ i. h.0 i && each_itself vs h.1 i

pub value_equals_itself : (v : DslxValue) → equal_value v v ≡ true
value_equals_itself = value_induction IsItself
    (λ s x. ap (λ t. equal_value t (value.Bits s x)) (sym (rolls.rolls-Bits s x)) ∙ equal_as (DslxValue-F.Bits s x) (value.Bits s x) ∙ ap (bits_same s x) (views.outs-Bits s x) ∙ (λ i. sign_itself s i && word_itself x i))
    (λ vs h. ap (λ t. equal_value t (value.Tuple vs)) (sym (rolls.rolls-Tuple vs)) ∙ equal_as (DslxValue-F.Tuple vs) (value.Tuple vs) ∙ ap (tuple_same (map equal_value vs)) (views.outs-Tuple vs) ∙ each_itself vs h)
    (λ vs h. ap (λ t. equal_value t (value.Array vs)) (sym (rolls.rolls-Array vs)) ∙ equal_as (DslxValue-F.Array vs) (value.Array vs) ∙ ap (array_same (map equal_value vs)) (views.outs-Array vs) ∙ each_itself vs h)
    (λ name fields vs h. ap (λ t. equal_value t (value.Struct name fields vs)) (sym (rolls.rolls-Struct name fields vs)) ∙ equal_as (DslxValue-F.Struct name fields vs) (value.Struct name fields vs)
    ∙ ap (struct_value_equal name fields (map equal_value vs)) (views.outs-Struct name fields vs) ∙ (λ i. ((bytes_eq-Decides name name).1 refl i && names_themselves fields i) && each_itself vs h i))
    (λ name s x. ap (λ t. equal_value t (value.Enum name s x)) (sym (rolls.rolls-Enum name s x)) ∙ equal_as (DslxValue-F.Enum name s x) (value.Enum name s x) ∙ ap (enum_value_equal name s x) (views.outs-Enum name s x)
    ∙ (λ i. (bytes_eq-Decides name name).1 refl i && (sign_itself s i && word_itself x i)))
    (ap (λ t. equal_value t value.Token) (sym rolls.rolls-Token) ∙ equal_as DslxValue-F.Token value.Token ∙ ap token_same views.outs-Token)
