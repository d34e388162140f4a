-- Values of each kind of type, and that a value of a type has that type.
use Rattle.std.proofs.Common.{◌≡◌, ◌==◌, ◌&&◌, ℕ, suc, length, Bool, true, false, not, List, [], ◌∷◌, map, Some, refl, sym, ap, subst, ◌∙◌}
use mathlib.Core.Bool.{true≢false}
use Rattle.std.specs.Str.{bytes_eq}
use Rattle.std.specs.List.{list_all}
use Rattle.std.proofs.lemmas.Bool.Decides.{Decides-eqb}
use Rattle.std.proofs.lemmas.Slice.Eq.{bytes_eq-Decides}
use Rattle.xb_bits.specs.Word.{Word}
use Rattle.xb_value.proofs.Lemmas.Types.{EachHas}
use Rattle.dslx_meaning.specs.Types.{same_bool}
use Rattle.dslx_meaning.specs.Values.{type_of_value, type_step, array_type, based_bits, based_step, bits_of, signed_step}
use Rattle.dslx_meaning.specs.declared.ty.DslxType.{DslxType}
use Rattle.dslx_meaning.specs.declared.ty.DslxType as ty
use Rattle.dslx_meaning.specs.declared.ty.DslxType.TheVariants as type_rolls
use Rattle.dslx_meaning.specs.declared.ty.DslxType.TheOpen.{DslxType-F}
use Rattle.dslx_meaning.specs.declared.ty.DslxType.TheViews as type_views
use Rattle.dslx_meaning.specs.declared.ty.DslxType.TheFolds.{fold-roll-DslxType, ind-DslxType, map-DslxType}
use Rattle.dslx_meaning.specs.declared.value.DslxValue.{DslxValue, out-DslxValue}
use Rattle.dslx_meaning.specs.declared.value.DslxValue as value
use Rattle.dslx_meaning.specs.declared.value.DslxValue.TheOpen.{DslxValue-F}
use Rattle.dslx_meaning.specs.declared.value.DslxValue.TheViews as views
use Rattle.dslx_meaning.specs.declared.value.DslxValue.TheFolds.{fold-roll-DslxValue}
use Rattle.dslx_meaning.specs.declared.value.SignedWord.{SignedWord}
use Rattle.dslx_meaning.specs.Rules.ConstantRules.{is_zero}
use Rattle.dslx_core.proofs.Lemmas.Typing.Laws.{and_true, AreBits}
use Rattle.dslx_core.proofs.OnTyping.OnTyped.TypingRelations.{none_some, same_some}
use Rattle.dslx_core.specs.Typing.Typed.Kinds.{lies_in, each_of, bits_of_kind, tuple_of, elements_all_of, same_names, struct_of, enum_of_kind, is_some_token, is_of_step, is_of}

-- ---- induction on types

pairs_have : (P : DslxType → Type 0) → (es : List ((t : DslxType) × P t)) → EachHas P (map (λ e. e.0) es)
pairs_have P [] = tt
pairs_have P (e ∷ es) = (e.1, pairs_have P es)

pub type_induction : (P : DslxType → Type 0) → ((s : Bool) (w : ℕ) → P (ty.Bits s w)) → ((ts : List DslxType) → EachHas P ts → P (ty.Tuple ts)) → ((t : DslxType) (n : ℕ) → P t → P (ty.Array t n))
    → ((name : List ℕ) (fields : List (List ℕ)) (ts : List DslxType) → EachHas P ts → P (ty.Struct name fields ts)) → ((name : List ℕ) (s : Bool) (w : ℕ) → P (ty.Enum name s w)) → P ty.Token → (t : DslxType) → P t
type_induction P bits tuple array struct enum token = ind-DslxType P (λ x y is. subst (λ z. P (type_views.roll-DslxType z)) is (case y))
  where
    case : (y : DslxType-F ((t : DslxType) × P t)) → P (type_views.roll-DslxType (map-DslxType ((t : DslxType) × P t) DslxType (λ e. e.0) y))
    case (DslxType-F.Bits s w) = subst P (sym (type_rolls.rolls-Bits s w)) (bits s w)
    case (DslxType-F.Tuple es) = subst P (sym (type_rolls.rolls-Tuple (map (λ e. e.0) es))) (tuple (map (λ e. e.0) es) (pairs_have P es))
    case (DslxType-F.Array e n) = subst P (sym (type_rolls.rolls-Array e.0 n)) (array e.0 n e.1)
    case (DslxType-F.Struct name fields es) = subst P (sym (type_rolls.rolls-Struct name fields (map (λ e. e.0) es))) (struct name fields (map (λ e. e.0) es) (pairs_have P es))
    case (DslxType-F.Enum name s w) = subst P (sym (type_rolls.rolls-Enum name s w)) (enum name s w)
    case DslxType-F.Token = subst P (sym type_rolls.rolls-Token) token

-- ---- values of each kind of type

pub of_bits : (s : Bool) (w : ℕ) (v : DslxValue) → is_of (ty.Bits s w) v ≡ bits_of_kind s w (out-DslxValue v)
of_bits s w v = ap (λ f. f v) (ap is_of (sym (type_rolls.rolls-Bits s w)) ∙ fold-roll-DslxType (DslxValue → Bool) is_of_step (DslxType-F.Bits s w))

pub of_tuple : (ts : List DslxType) (v : DslxValue) → is_of (ty.Tuple ts) v ≡ tuple_of (map is_of ts) (out-DslxValue v)
of_tuple ts v = ap (λ f. f v) (ap is_of (sym (type_rolls.rolls-Tuple ts)) ∙ fold-roll-DslxType (DslxValue → Bool) is_of_step (DslxType-F.Tuple ts))

pub of_array : (t : DslxType) (n : ℕ) (v : DslxValue) → is_of (ty.Array t n) v ≡ elements_all_of (is_of t) n (out-DslxValue v)
of_array t n v = ap (λ f. f v) (ap is_of (sym (type_rolls.rolls-Array t n)) ∙ fold-roll-DslxType (DslxValue → Bool) is_of_step (DslxType-F.Array t n))

pub of_struct : (name : List ℕ) (fields : List (List ℕ)) (ts : List DslxType) (v : DslxValue) → is_of (ty.Struct name fields ts) v ≡ struct_of name fields (map is_of ts) (out-DslxValue v)
of_struct name fields ts v = ap (λ f. f v) (ap is_of (sym (type_rolls.rolls-Struct name fields ts)) ∙ fold-roll-DslxType (DslxValue → Bool) is_of_step (DslxType-F.Struct name fields ts))

pub of_enum : (name : List ℕ) (s : Bool) (w : ℕ) (v : DslxValue) → is_of (ty.Enum name s w) v ≡ enum_of_kind name s w (out-DslxValue v)
of_enum name s w v = ap (λ f. f v) (ap is_of (sym (type_rolls.rolls-Enum name s w)) ∙ fold-roll-DslxType (DslxValue → Bool) is_of_step (DslxType-F.Enum name s w))

pub of_token : (v : DslxValue) → is_of ty.Token v ≡ is_some_token (out-DslxValue v)
of_token v = ap (λ f. f v) (ap is_of (sym type_rolls.rolls-Token) ∙ fold-roll-DslxType (DslxValue → Bool) is_of_step DslxType-F.Token)

-- ---- names and signs that are equal by test

pub one_bool : (a b : Bool) → same_bool a b ≡ true → a ≡ b
one_bool true true e = refl
one_bool true false e = absurd (true≢false (sym e))
one_bool false true e = absurd (true≢false (sym e))
one_bool false false e = refl

pub one_number : (a b : ℕ) → (a == b) ≡ true → a ≡ b
one_number a b e = (Decides-eqb a b).0 e

pub one_name : (a b : List ℕ) → bytes_eq a b ≡ true → a ≡ b
one_name a b e = (bytes_eq-Decides a b).0 e

pub one_list : (ns ms : List (List ℕ)) → same_names ns ms ≡ true → ns ≡ ms
one_list [] [] e = refl
one_list [] (m ∷ ms) e = absurd (true≢false (sym e))
one_list (n ∷ ns) [] e = absurd (true≢false (sym e))
one_list (n ∷ ns) (m ∷ ms) e = let q = and_true (bytes_eq n m) (same_names ns ms) e in λ i. one_name n m q.0 i ∷ one_list ns ms q.1 i

-- ---- what a value of a kind of type is made of

-- the value itself, by its level
rebuilt : (v : DslxValue) (l : DslxValue-F DslxValue) → out-DslxValue v ≡ l → v ≡ views.roll-DslxValue l
rebuilt v l e = sym (views.roll-out-DslxValue v) ∙ ap views.roll-DslxValue e

pub is_bits_of : (s : Bool) (w : ℕ) (v : DslxValue) → is_of (ty.Bits s w) v ≡ true → (x : Word) × (out-DslxValue v ≡ DslxValue-F.Bits s x) × (x.width ≡ w) × (lies_in x ≡ true)
is_bits_of s w v e = by_level (out-DslxValue v) refl (sym (of_bits s w v) ∙ e)
  where
    by_level : (l : DslxValue-F DslxValue) → out-DslxValue v ≡ l → bits_of_kind s w l ≡ true → (x : Word) × (out-DslxValue v ≡ DslxValue-F.Bits s x) × (x.width ≡ w) × (lies_in x ≡ true)
    by_level (DslxValue-F.Bits s' x) q h =
        let k = and_true (same_bool s s' && w == x.width) (lies_in x) h in
        let r = and_true (same_bool s s') (w == x.width) k.0 in
        (x, q ∙ ap (λ b. DslxValue-F.Bits b x) (sym (one_bool s s' r.0)), sym (one_number w x.width r.1), k.1)
    by_level (DslxValue-F.Tuple vs) q h = absurd (true≢false (sym h))
    by_level (DslxValue-F.Array vs) q h = absurd (true≢false (sym h))
    by_level (DslxValue-F.Struct name fields vs) q h = absurd (true≢false (sym h))
    by_level (DslxValue-F.Enum name s' x) q h = absurd (true≢false (sym h))
    by_level DslxValue-F.Token q h = absurd (true≢false (sym h))

pub is_tuple_of : (ts : List DslxType) (v : DslxValue) → is_of (ty.Tuple ts) v ≡ true → (vs : List DslxValue) × (out-DslxValue v ≡ DslxValue-F.Tuple vs) × (each_of (map is_of ts) vs ≡ true)
is_tuple_of ts v e = by_level (out-DslxValue v) refl (sym (of_tuple ts v) ∙ e)
  where
    by_level : (l : DslxValue-F DslxValue) → out-DslxValue v ≡ l → tuple_of (map is_of ts) l ≡ true → (vs : List DslxValue) × (out-DslxValue v ≡ DslxValue-F.Tuple vs) × (each_of (map is_of ts) vs ≡ true)
    by_level (DslxValue-F.Tuple vs) q h = (vs, q, h)
    by_level (DslxValue-F.Bits s x) q h = absurd (true≢false (sym h))
    by_level (DslxValue-F.Array vs) q h = absurd (true≢false (sym h))
    by_level (DslxValue-F.Struct name fields vs) q h = absurd (true≢false (sym h))
    by_level (DslxValue-F.Enum name s x) q h = absurd (true≢false (sym h))
    by_level DslxValue-F.Token q h = absurd (true≢false (sym h))

pub record ElementsOf (t : DslxType) (n : ℕ) (v : DslxValue) : Type 0 where
  pub elements : List DslxValue
  pub out : out-DslxValue v ≡ DslxValue-F.Array elements
  pub some : not (is_zero n) ≡ true
  pub count : n ≡ length elements
  pub all : list_all (is_of t) elements ≡ true

pub is_array_of : (t : DslxType) (n : ℕ) (v : DslxValue) → is_of (ty.Array t n) v ≡ true → ElementsOf t n v
is_array_of t n v e = by_level (out-DslxValue v) refl (sym (of_array t n v) ∙ e)
  where
    by_level : (l : DslxValue-F DslxValue) → out-DslxValue v ≡ l → elements_all_of (is_of t) n l ≡ true → ElementsOf t n v
    by_level (DslxValue-F.Array vs) q h =
        let r = and_true (not (is_zero n) && n == length vs) (list_all (is_of t) vs) h in
        let k = and_true (not (is_zero n)) (n == length vs) r.0 in
        record { elements = vs; out = q; some = k.0; count = one_number n (length vs) k.1; all = r.1 }
    by_level (DslxValue-F.Bits s x) q h = absurd (true≢false (sym h))
    by_level (DslxValue-F.Tuple vs) q h = absurd (true≢false (sym h))
    by_level (DslxValue-F.Struct name fields vs) q h = absurd (true≢false (sym h))
    by_level (DslxValue-F.Enum name s x) q h = absurd (true≢false (sym h))
    by_level DslxValue-F.Token q h = absurd (true≢false (sym h))

pub is_struct_of : (name : List ℕ) (fields : List (List ℕ)) (ts : List DslxType) (v : DslxValue) → is_of (ty.Struct name fields ts) v ≡ true
    → (vs : List DslxValue) × (out-DslxValue v ≡ DslxValue-F.Struct name fields vs) × (each_of (map is_of ts) vs ≡ true)
is_struct_of name fields ts v e = by_level (out-DslxValue v) refl (sym (of_struct name fields ts v) ∙ e)
  where
    by_level : (l : DslxValue-F DslxValue) → out-DslxValue v ≡ l → struct_of name fields (map is_of ts) l ≡ true
        → (vs : List DslxValue) × (out-DslxValue v ≡ DslxValue-F.Struct name fields vs) × (each_of (map is_of ts) vs ≡ true)
    by_level (DslxValue-F.Struct name' fields' vs) q h =
        let r = and_true (bytes_eq name name' && same_names fields fields') (each_of (map is_of ts) vs) h in
        let k = and_true (bytes_eq name name') (same_names fields fields') r.0 in
        (vs, q ∙ (λ i. DslxValue-F.Struct (sym (one_name name name' k.0) i) (sym (one_list fields fields' k.1) i) vs), r.1)
    by_level (DslxValue-F.Bits s x) q h = absurd (true≢false (sym h))
    by_level (DslxValue-F.Tuple vs) q h = absurd (true≢false (sym h))
    by_level (DslxValue-F.Array vs) q h = absurd (true≢false (sym h))
    by_level (DslxValue-F.Enum name' s x) q h = absurd (true≢false (sym h))
    by_level DslxValue-F.Token q h = absurd (true≢false (sym h))

pub is_enum_of : (name : List ℕ) (s : Bool) (w : ℕ) (v : DslxValue) → is_of (ty.Enum name s w) v ≡ true → (x : Word) × (out-DslxValue v ≡ DslxValue-F.Enum name s x) × (x.width ≡ w) × (lies_in x ≡ true)
is_enum_of name s w v e = by_level (out-DslxValue v) refl (sym (of_enum name s w v) ∙ e)
  where
    by_level : (l : DslxValue-F DslxValue) → out-DslxValue v ≡ l → enum_of_kind name s w l ≡ true → (x : Word) × (out-DslxValue v ≡ DslxValue-F.Enum name s x) × (x.width ≡ w) × (lies_in x ≡ true)
    by_level (DslxValue-F.Enum name' s' x) q h =
        let r = and_true (bytes_eq name name') ((same_bool s s' && w == x.width) && lies_in x) h in
        let l = and_true (same_bool s s' && w == x.width) (lies_in x) r.1 in
        let k = and_true (same_bool s s') (w == x.width) l.0 in
        (x, q ∙ (λ i. DslxValue-F.Enum (sym (one_name name name' r.0) i) (sym (one_bool s s' k.0) i) x), sym (one_number w x.width k.1), l.1)
    by_level (DslxValue-F.Bits s' x) q h = absurd (true≢false (sym h))
    by_level (DslxValue-F.Tuple vs) q h = absurd (true≢false (sym h))
    by_level (DslxValue-F.Array vs) q h = absurd (true≢false (sym h))
    by_level (DslxValue-F.Struct name' fields vs) q h = absurd (true≢false (sym h))
    by_level DslxValue-F.Token q h = absurd (true≢false (sym h))

pub is_token_of : (v : DslxValue) → is_of ty.Token v ≡ true → out-DslxValue v ≡ DslxValue-F.Token
is_token_of v e = by_level (out-DslxValue v) refl (sym (of_token v) ∙ e)
  where
    by_level : (l : DslxValue-F DslxValue) → out-DslxValue v ≡ l → is_some_token l ≡ true → out-DslxValue v ≡ DslxValue-F.Token
    by_level DslxValue-F.Token q h = q
    by_level (DslxValue-F.Bits s x) q h = absurd (true≢false (sym h))
    by_level (DslxValue-F.Tuple vs) q h = absurd (true≢false (sym h))
    by_level (DslxValue-F.Array vs) q h = absurd (true≢false (sym h))
    by_level (DslxValue-F.Struct name fields vs) q h = absurd (true≢false (sym h))
    by_level (DslxValue-F.Enum name s x) q h = absurd (true≢false (sym h))

-- ---- a value of a type has that type

abbrev OfOneType : DslxType → Type 0
OfOneType t = (v : DslxValue) → is_of t v ≡ true → type_of_value v ≡ t

pub typed_level : (v : DslxValue) (l : DslxValue-F DslxValue) → out-DslxValue v ≡ l → type_of_value v ≡ type_step (value.TheFolds.map-DslxValue DslxValue DslxType type_of_value l)
typed_level v l e = ap type_of_value (rebuilt v l e) ∙ fold-roll-DslxValue DslxType type_step l

parts_typed : (ts : List DslxType) (vs : List DslxValue) → EachHas OfOneType ts → each_of (map is_of ts) vs ≡ true → map type_of_value vs ≡ ts
parts_typed [] [] h e = refl
parts_typed [] (v ∷ vs) h e = absurd (true≢false (sym e))
parts_typed (t ∷ ts) [] h e = absurd (true≢false (sym e))
parts_typed (t ∷ ts) (v ∷ vs) h e = let q = and_true (is_of t v) (each_of (map is_of ts) vs) e in λ i. h.0 v q.0 i ∷ parts_typed ts vs h.1 q.1 i

array_typed : (t : DslxType) (n : ℕ) (vs : List DslxValue) → OfOneType t → not (is_zero n) ≡ true → n ≡ length vs → list_all (is_of t) vs ≡ true → array_type (map type_of_value vs) ≡ ty.Array t n
array_typed t n [] h some count e = absurd (true≢false (sym some ∙ ap (λ k. not (is_zero k)) count))
array_typed t n (v ∷ vs) h some count e =
    let q = and_true (is_of t v) (list_all (is_of t) vs) e in
    λ i. ty.Array (h v q.0 i) ((ap suc (length_map type_of_value vs) ∙ sym count) i)
  where
    length_map : {A B : Type 0} (f : A → B) (xs : List A) → length (map f xs) ≡ length xs
    length_map f [] = refl
    length_map f (x ∷ xs) = ap suc (length_map f xs)

pub one_type : (t : DslxType) → OfOneType t
one_type = type_induction OfOneType
    (λ s w v e. let q = is_bits_of s w v e in typed_level v (DslxValue-F.Bits s q.0) q.1 ∙ ap (ty.Bits s) q.2)
    (λ ts h v e. let q = is_tuple_of ts v e in typed_level v (DslxValue-F.Tuple q.0) q.1 ∙ ap ty.Tuple (parts_typed ts q.0 h q.2))
    (λ t n h v e. let q = is_array_of t n v e in typed_level v (DslxValue-F.Array q.elements) q.out ∙ array_typed t n q.elements h q.some q.count q.all)
    (λ name fields ts h v e. let q = is_struct_of name fields ts v e in typed_level v (DslxValue-F.Struct name fields q.0) q.1 ∙ ap (ty.Struct name fields) (parts_typed ts q.0 h q.2))
    (λ name s w v e. let q = is_enum_of name s w v e in typed_level v (DslxValue-F.Enum name s q.0) q.1 ∙ ap (ty.Enum name s) q.2)
    (λ v e. typed_level v DslxValue-F.Token (is_token_of v e))

-- ---- bits

-- the level of a value that is bits
pub bits_level : (v : DslxValue) (x : SignedWord) → bits_of v ≡ Some x → out-DslxValue v ≡ DslxValue-F.Bits x.signed x.word
bits_level v x e = by_level (out-DslxValue v) e
  where
    by_level : (l : DslxValue-F DslxValue) → signed_step l ≡ Some x → l ≡ DslxValue-F.Bits x.signed x.word
    by_level (DslxValue-F.Bits s w) h = let q = same_some (record { signed = s; word = w }) x h in λ i. DslxValue-F.Bits (q i).signed (q i).word
    by_level (DslxValue-F.Tuple vs) h = none_some x h
    by_level (DslxValue-F.Array vs) h = none_some x h
    by_level (DslxValue-F.Struct name fields vs) h = none_some x h
    by_level (DslxValue-F.Enum name s w) h = none_some x h
    by_level DslxValue-F.Token h = none_some x h

same_itself : (s : Bool) (w : ℕ) → (same_bool s s && w == w) ≡ true
same_itself true w = (Decides-eqb w w).1 refl
same_itself false w = (Decides-eqb w w).1 refl

-- bits are of their own type
pub own_bits : (v : DslxValue) (x : SignedWord) → AreBits v x → lies_in x.word ≡ true → is_of (type_of_value v) v ≡ true
own_bits v x are lies =
    ap (λ t. is_of t v) are.1 ∙ of_bits x.signed x.word.width v ∙ ap (bits_of_kind x.signed x.word.width) (bits_level v x are.0) ∙ (λ i. same_itself x.signed x.word.width i && lies i)

-- bits of a width
pub bits_of_width : (s : Bool) (x : Word) (w : ℕ) → x.width ≡ w → lies_in x ≡ true → is_of (ty.Bits s w) (value.Bits s x) ≡ true
bits_of_width s x w e lies =
    of_bits s w (value.Bits s x) ∙ ap (bits_of_kind s w) (views.outs-Bits s x) ∙ ap (λ n. (same_bool s s && n == x.width) && lies_in x) (sym e) ∙ (λ i. same_itself s x.width i && lies i)

-- the bits that a value of a type is, or those of an enum's value, lie in their width
pub base_lies : (t : DslxType) (v : DslxValue) (x : SignedWord) → is_of t v ≡ true → based_bits v ≡ Some x → lies_in x.word ≡ true
base_lies t v x of based = by_level (out-DslxValue v) refl based
  where
    moved : (s : Bool) (w : Word) → lies_in w ≡ true → Some (record { signed = s; word = w }) ≡ Some x → lies_in x.word ≡ true
    moved s w h e = ap (λ (y : SignedWord). lies_in y.word) (sym (same_some (record { signed = s; word = w }) x e)) ∙ h

    word_at : Word → DslxValue-F DslxValue → Word
    word_at d (DslxValue-F.Bits s w) = w
    word_at d (DslxValue-F.Enum name s w) = w
    word_at d _ = d

    by_level : (l : DslxValue-F DslxValue) → out-DslxValue v ≡ l → based_step l ≡ Some x → lies_in x.word ≡ true
    by_level (DslxValue-F.Bits s w) q e =
        let own = is_bits_of s w.width v (ap (λ u. is_of u v) (sym (typed_level v (DslxValue-F.Bits s w) q) ∙ one_type t v of) ∙ of) in
        moved s w (ap (λ (l : DslxValue-F DslxValue). lies_in (word_at w l)) (sym q ∙ own.1) ∙ own.3) e
    by_level (DslxValue-F.Enum name s w) q e =
        let own = is_enum_of name s w.width v (ap (λ u. is_of u v) (sym (typed_level v (DslxValue-F.Enum name s w) q) ∙ one_type t v of) ∙ of) in
        moved s w (ap (λ (l : DslxValue-F DslxValue). lies_in (word_at w l)) (sym q ∙ own.1) ∙ own.3) e
    by_level (DslxValue-F.Tuple vs) q e = none_some x e
    by_level (DslxValue-F.Array vs) q e = none_some x e
    by_level (DslxValue-F.Struct name fields vs) q e = none_some x e
    by_level DslxValue-F.Token q e = none_some x e

pub bits_lie : (t : DslxType) (v : DslxValue) (x : SignedWord) → is_of t v ≡ true → bits_of v ≡ Some x → lies_in x.word ≡ true
bits_lie t v x of bits = base_lies t v x of (ap based_step (bits_level v x bits))
