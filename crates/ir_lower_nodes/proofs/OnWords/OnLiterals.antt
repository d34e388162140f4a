-- Values that are written out have their types, and read as themselves.
use Rattle.std.proofs.Common.{◌≡◌, ℕ, suc, ◌^◌, ◌<◌, ◌≤◌, min, Bool, true, false, not, ◌&&◌, ◌∷◌, List, map, length, IsTrue, Option, Some, refl, sym, ap, ap₂, subst, ◌∙◌, arith, []}
use Rattle.std.specs.Prelude.{nat_le, nat_lt, nat_eq, ◌||◌}
use Rattle.std.specs.List.{list_all}
use Rattle.std.proofs.lemmas.Bool.Decides.{nat_tests}
use Rattle.std.proofs.lemmas.List.{length-map}
use Rattle.xb_bits.specs.Word.{Word, word}
use Rattle.xb_value.specs.declared.ty.Ty.{Ty}
use Rattle.xb_value.specs.declared.ty.Ty as ty
use Rattle.xb_value.specs.declared.value.Value.{Value}
use Rattle.xb_value.specs.declared.value.Value as value
use Rattle.xb_value.specs.declared.value.Value.TheOpen.{Value-F}
use Rattle.xb_value.specs.Typing.{IsOfType, fits, each_passes}
use Rattle.xb_value.proofs.Lemmas.Types.{EachHas, ty_induction}
use Rattle.xb_value.proofs.Lemmas.Types as tys
use Rattle.xb_value.proofs.Lemmas.Values.{value_induction}
use Rattle.xb_value.proofs.Lemmas.Values as values_of
use Rattle.xb_value.proofs.Lemmas.Typing.{bits_of_type, tuple_of_type, array_of_type}
use Rattle.ir_tree.specs.declared.constant.Constant.{Constant}
use Rattle.ir_tree.specs.declared.constant.Constant as constant
use Rattle.ir_tree.specs.declared.constant.Constant.TheViews as views
use Rattle.ir_tree.specs.declared.ir_type.IrType.{IrType}
use Rattle.ir_tree.specs.declared.ir_type.IrType.TheViews as ir_views
use Rattle.ir_tree.specs.declared.node.Operand.{Operand}
use Rattle.ir_tree.specs.declared.node_types.types.Marks.{Marks}
use Rattle.ir_tree.specs.Types.{ty_of}
use Rattle.ir_tree.specs.Constants.{each_read, number_read, tuple_read, array_read, read_step, constant_value}
use Rattle.ir_tree.specs.NodeTypes.Constants.{each_fits, number_fits, tuple_fits, array_fits, constant_fits}
use Rattle.ir_tree.specs.NodeTypes.Types.{any_token, marks_of}
use Rattle.ir_tree.proofs.Lemmas.NodeTypes.ConstantCases as cases
use Rattle.ir_tree.proofs.Lemmas.NodeTypes.IrTypes.{type_cases}
use Rattle.ir_tree.specs.Rules.Lines.{is_value_of}
use Rattle.ir_tree.proofs.Lemmas.Rules.Typed.Checked.{both_true, and_true}
use Rattle.ir_tree.proofs.Lemmas.Rules.Typed.Scopes.{bits_there}
use Rattle.ir_tree.proofs.Lemmas.Rules.Typed.Tests.{marks-Bits, marks-Token, marks-Tuple}
use Rattle.ir_rebuild.specs.declared.putting.nodes.Nodes.{Nodes}
use Rattle.ir_rebuild.specs.Putting.Types.{array_of, array_step, ir_type_of}
use Rattle.ir_rebuild.specs.Putting.Given.{IsBuilt, IsNodeType, GivesValue}
use Rattle.ir_rebuild.proofs.Lemmas.Putting.Types.{type-Bits, type-Tuple, type-Array, type_back}
use Rattle.dslx_meaning.specs.Lists.{all_some, and_then, where_true}
use Rattle.dslx_core.proofs.Lemmas.Typing.Typed.OfLists.{all_there}
use Rattle.dslx_core.specs.Types.Typing.{if_alike, all_alike, elements_alike, is_sound_word, value_type, value_type_step}
use Rattle.dslx_core.proofs.Lemmas.Types.{then_is, if_alike_is, value_typed}
use Rattle.ir_lower_nodes.specs.Words.Given.{LoweredTo}
use Rattle.ir_lower_nodes.specs.Words.Literals.{own_step, own_type, written, written_step}
use Rattle.ir_lower_nodes.proofs.OnWords.OnWords.{lowers_value}

-- ---- the type of a value

some_same : {A : Type 0} (x y : A) → Some x ≡ Some y → x ≡ y
some_same x y h = cc

heads : {A : Type 0} (x y : A) (xs ys : List A) → (x ∷ xs) ≡ (y ∷ ys) → (x ≡ y) × (xs ≡ ys)
heads x y xs ys h = let first : x ≡ y = cc in let rest : xs ≡ ys = cc in (first, rest)

if_there : (b : Bool) (s t : Ty) → where_true b (Some s) ≡ Some t → s ≡ t
if_there true s t h = some_same s t h
if_there false s t h = absurd (cc)

alike_first : (os : List (Option Ty)) (t s : Ty) → all_alike t os ≡ Some s → t ≡ s
alike_first [] t s h = some_same t s h
alike_first (o ∷ os) t s h =
    let found = then_is (if_alike t o) (λ u. all_alike u os) s h in
    (if_alike_is t found.first o found.is).0 ∙ alike_first os found.first s found.gives

abbrev pub HasOwnType : Value → Type 0
HasOwnType v = (t : Ty) → value_type v ≡ Some t → own_type v ≡ t

each_own : (vs : List Value) (us : List Ty) → EachHas HasOwnType vs → map value_type vs ≡ map Some us → map own_type vs ≡ us
each_own [] [] each h = refl
each_own [] (u ∷ us) each h = absurd (cc)
each_own (v ∷ vs) [] each h = absurd (cc)
each_own (v ∷ vs) (u ∷ us) each h =
    let parts = heads (value_type v) (Some u) (map value_type vs) (map Some us) h in
    ap₂ (λ x xs. x ∷ xs) (each.0 u parts.0) (each_own vs us each.1 parts.1)

array_own : (vs : List Value) → EachHas HasOwnType vs → (t : Ty) → elements_alike (map value_type vs) ≡ Some t → own_step (Value-F.Array (map own_type vs)) ≡ t
array_own [] each t h = absurd (cc)
array_own (v ∷ vs) each t h =
    let first = then_is (value_type v) (λ u. and_then (all_alike u (map value_type vs)) (λ s. Some (ty.Array s (suc (length (map value_type vs)))))) t h in
    let rest = then_is (all_alike first.first (map value_type vs)) (λ s. Some (ty.Array s (suc (length (map value_type vs))))) t first.gives in
    let same = each.0 first.first first.is ∙ alike_first (map value_type vs) first.first rest.first rest.is in
    let count : length (map own_type vs) ≡ length (map value_type vs) = length-map vs own_type ∙ sym (length-map vs value_type) in
    ap₂ (λ u n. ty.Array u (suc n)) same count ∙ some_same (ty.Array rest.first (suc (length (map value_type vs)))) t rest.gives

pub own_type_is : (v : Value) → HasOwnType v
own_type_is = value_induction HasOwnType
    (λ x t h.
    values_of.fold-Bits Ty own_step x
    ∙ if_there (is_sound_word x) (ty.Bits x.width) t (sym (values_of.fold-Bits (Option Ty) value_type_step x) ∙ h))
    (λ vs each t h.
    let found = then_is (all_some (map value_type vs)) (λ us. Some (ty.Tuple us)) t (sym (values_of.fold-Tuple (Option Ty) value_type_step vs) ∙ h) in
    values_of.fold-Tuple Ty own_step vs
    ∙ (ap ty.Tuple (each_own vs found.first each (all_there (map value_type vs) found.first found.is)) ∙ some_same (ty.Tuple found.first) t found.gives))
    (λ vs each t h.
    values_of.fold-Array Ty own_step vs
    ∙ array_own vs each t (sym (values_of.fold-Array (Option Ty) value_type_step vs) ∙ h))

-- ---- what is written reads as the value, and is one of the type

written-Bits : (x : Word) → written (value.Bits x) ≡ constant.Number x.value
written-Bits = values_of.fold-Bits Constant written_step

written-Tuple : (vs : List Value) → written (value.Tuple vs) ≡ constant.Tuple (map written vs)
written-Tuple = values_of.fold-Tuple Constant written_step

written-Array : (vs : List Value) → written (value.Array vs) ≡ constant.Array (map written vs)
written-Array = values_of.fold-Array Constant written_step

pub record ReadsBack (t : Ty) (v : Value) : Type 0 where
  pub back : constant_value t (written v) ≡ v
  pub fits : constant_fits t (written v) ≡ true

abbrev pub IsReadBack : Ty → Type 0
IsReadBack t = (v : Value) → IsOfType t v → ReadsBack t v

pub record EachReadsBack (ts : List Ty) (vs : List Value) : Type 0 where
  back : each_read (map constant_value ts) (map written vs) ≡ vs
  fits : each_fits (map constant_fits ts) (map written vs) ≡ true

each_back : (ts : List Ty) (vs : List Value) → EachHas IsReadBack ts → IsTrue (each_passes (map fits ts) vs) → EachReadsBack ts vs
each_back [] [] each h = record { back = refl; fits = refl }
each_back [] (v ∷ vs) each h = absurd (cc)
each_back (t ∷ ts) [] each h = absurd (cc)
each_back (t ∷ ts) (v ∷ vs) each h =
    let parts = both_true (fits t v) (each_passes (map fits ts) vs) h in
    let one = each.0 v parts.0 in
    let rest = each_back ts vs each.1 parts.1 in
    record {
      back = ap₂ (λ x xs. x ∷ xs) one.back rest.back;
      fits = and_true (constant_fits t (written v)) (each_fits (map constant_fits ts) (map written vs)) one.fits rest.fits;
    }

pub record AllReadBack (t : Ty) (vs : List Value) : Type 0 where
  back : map (constant_value t) (map written vs) ≡ vs
  fits : list_all (constant_fits t) (map written vs) ≡ true

all_back : (t : Ty) (vs : List Value) → IsReadBack t → IsTrue (list_all (fits t) vs) → AllReadBack t vs
all_back t [] one h = record { back = refl; fits = refl }
all_back t (v ∷ vs) one h =
    let parts = both_true (fits t v) (list_all (fits t) vs) h in
    let first = one v parts.0 in
    let rest = all_back t vs one parts.1 in
    record {
      back = ap₂ (λ x xs. x ∷ xs) first.back rest.back;
      fits = and_true (constant_fits t (written v)) (list_all (constant_fits t) (map written vs)) first.fits rest.fits;
    }

word_back : (w : ℕ) (x : Word) → x.width ≡ w → 1 ≤ w → w ≤ 128 → x.value < 2 ^ w → ReadsBack (ty.Bits w) (value.Bits x)
word_back w x width some most range = record { back = back; fits = fit }
  where
    test : IsTrue (nat_le 1 w && (nat_le w 128 && nat_lt x.value (2 ^ w)))
    test =
        let first : IsTrue (nat_le 1 w) = grind (arith, nat_tests, some) in
        let second : IsTrue (nat_le w 128) = grind (arith, nat_tests, most) in
        let third : IsTrue (nat_lt x.value (2 ^ w)) = grind (arith, nat_tests, range) in
        and_true _ _ first (and_true _ _ second third)

    back : constant_value (ty.Bits w) (written (value.Bits x)) ≡ value.Bits x
    back =
        ap (constant_value (ty.Bits w)) (written-Bits x)
        ∙ (ap (λ (f : Constant → Value). f (constant.Number x.value)) (tys.fold-Bits (Constant → Value) read_step w)
        ∙ (ap (number_read w) (views.outs-Number x.value)
        ∙ (bits_there (nat_le 1 w && (nat_le w 128 && nat_lt x.value (2 ^ w))) (word w x.value) test ∙ ap (λ k. value.Bits (word k x.value)) (sym width))))

    fit : constant_fits (ty.Bits w) (written (value.Bits x)) ≡ true
    fit =
        let whole : min w 128 ≡ w = omega (arith, most) in
        let within : x.value < 2 ^ min w 128 = subst (λ k. x.value < 2 ^ k) (sym whole) range in
        let less : IsTrue (nat_lt x.value (2 ^ min w 128)) = grind (arith, nat_tests, within) in
        ap (constant_fits (ty.Bits w)) (written-Bits x) ∙ (cases.fits-Bits w (constant.Number x.value) ∙ (ap (number_fits w) (views.outs-Number x.value) ∙ less))

reads_as : (t : Ty) (u v : Value) → u ≡ v → ReadsBack t v → ReadsBack t u
reads_as t u v e h = subst (ReadsBack t) (sym e) h

pub reads_back : (t : Ty) → IsReadBack t
reads_back = ty_induction IsReadBack
    (λ w v h.
    let f = bits_of_type w v h in
    reads_as (ty.Bits w) v (value.Bits f.word) f.is (word_back w f.word f.width f.some_width f.most_width f.in_range))
    (λ ts each v h.
    let f = tuple_of_type ts v h in
    let all = each_back ts f.parts each f.each in
    reads_as (ty.Tuple ts) v (value.Tuple f.parts) f.is (record {
      back = ap (constant_value (ty.Tuple ts)) (written-Tuple f.parts)
          ∙ (ap (λ (f' : Constant → Value). f' (constant.Tuple (map written f.parts))) (tys.fold-Tuple (Constant → Value) read_step ts)
          ∙ (ap (tuple_read (map constant_value ts)) (views.outs-Tuple (map written f.parts)) ∙ ap value.Tuple all.back));
      fits = ap (constant_fits (ty.Tuple ts)) (written-Tuple f.parts) ∙ (cases.fits-Tuple ts (constant.Tuple (map written f.parts)) ∙ (ap (tuple_fits (map constant_fits ts)) (views.outs-Tuple (map written f.parts)) ∙ all.fits));
    }))
    (λ t n one v h.
    let f = array_of_type t n v h in
    let all = all_back t f.parts one f.all in
    let count : length (map written f.parts) ≡ n = length-map f.parts written ∙ f.count in
    let same : nat_eq (length (map written f.parts)) n ≡ true = grind (arith, nat_tests, count) in
    reads_as (ty.Array t n) v (value.Array f.parts) f.is (record {
      back = ap (constant_value (ty.Array t n)) (written-Array f.parts)
          ∙ (ap (λ (f' : Constant → Value). f' (constant.Array (map written f.parts))) (tys.fold-Array (Constant → Value) read_step t n)
          ∙ (ap (array_read (constant_value t)) (views.outs-Array (map written f.parts)) ∙ ap value.Array all.back));
      fits = ap (constant_fits (ty.Array t n)) (written-Array f.parts) ∙ (cases.fits-Array t n (constant.Array (map written f.parts)) ∙ (ap (array_fits (constant_fits t) n) (views.outs-Array (map written f.parts)) ∙ and_true (nat_eq (length (map written f.parts)) n) (list_all (constant_fits t) (map written f.parts)) same all.fits));
    }))

-- ---- no type of values has a token

abbrev pub token_in : IrType → Bool
token_in t = (marks_of t).token

array_token : (n : ℕ) (t : IrType) → token_in (array_of n t) ≡ token_in t
array_token n = type_cases (λ t. token_in (array_of n t) ≡ token_in t)
    (λ w ns. ap token_in (ap (array_step n) (ir_views.outs-Bits w ns)) ∙ (ap (λ (m : Marks). m.token) (marks-Bits w (n ∷ ns)) ∙ sym (ap (λ (m : Marks). m.token) (marks-Bits w ns))))
    (λ ns. ap token_in (ap (array_step n) (ir_views.outs-Token ns)) ∙ (ap (λ (m : Marks). m.token) (marks-Token (n ∷ ns)) ∙ sym (ap (λ (m : Marks). m.token) (marks-Token ns))))
    (λ ts ns. ap token_in (ap (array_step n) (ir_views.outs-Tuple ts ns)) ∙ (ap (λ (m : Marks). m.token) (marks-Tuple ts (n ∷ ns)) ∙ sym (ap (λ (m : Marks). m.token) (marks-Tuple ts ns))))

abbrev pub HasNoToken : Ty → Type 0
HasNoToken t = token_in (ir_type_of t) ≡ false

none_among : (ts : List Ty) → EachHas HasNoToken ts → any_token (map marks_of (map ir_type_of ts)) ≡ false
none_among [] each = refl
none_among (t ∷ ts) each = by (token_in (ir_type_of t)) (any_token (map marks_of (map ir_type_of ts))) each.0 (none_among ts each.1)
  where
    by : (a b : Bool) → a ≡ false → b ≡ false → (a || b) ≡ false
    by true b e h = absurd (cc)
    by false b e h = h

pub no_token : (t : Ty) → HasNoToken t
no_token = ty_induction HasNoToken
    (λ w. ap token_in (type-Bits w) ∙ ap (λ (m : Marks). m.token) (marks-Bits w []))
    (λ ts each. ap token_in (type-Tuple ts) ∙ (ap (λ (m : Marks). m.token) (marks-Tuple (map ir_type_of ts) []) ∙ none_among ts each))
    (λ t n one. ap token_in (type-Array t n) ∙ (array_token n (ir_type_of t) ∙ one))

-- ---- one node

pub literal_put : (old new : Nodes) (o : Operand) (v : Value) (own : Ty) (u : IrType) (c : Constant) → own ≡ own_type v → u ≡ ir_type_of own → c ≡ written v
    → (IsBuilt old → IsNodeType u → IsTrue (is_value_of u c) → GivesValue old new o u (λ s values. constant_value (ty_of u) c))
    → (t : Ty) → IsBuilt old → value_type v ≡ Some t → IsNodeType (ir_type_of t) → LoweredTo old new o t (λ s values. Some v)
literal_put old new o v own u c own_is type_is written_is call t built h k =
    lowers_value old new o t u (λ s values. constant_value (ty_of u) c) (λ s values. Some v) (sym same) (λ s values before. ap Some (sym value_is)) (call built (subst IsNodeType (sym same) k) fit)
  where
    same : u ≡ ir_type_of t
    same = type_is ∙ ap ir_type_of (own_is ∙ own_type_is v t h)

    type_same : ty_of u ≡ t
    type_same = ap ty_of same ∙ type_back t k

    read : ReadsBack t v
    read = reads_back t v (value_typed v t h)

    value_is : constant_value (ty_of u) c ≡ v
    value_is = ap₂ constant_value type_same written_is ∙ read.back

    fit : IsTrue (is_value_of u c)
    fit = and_true (not (marks_of u).token) (constant_fits (ty_of u) c) (ap (λ x. not (token_in x)) same ∙ ap not (no_token t)) (ap₂ constant_fits type_same written_is ∙ read.fits)
