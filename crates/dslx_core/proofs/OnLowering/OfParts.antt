-- Tuples, and parts of tuples, structs and arrays mean the same as what stands for them.
use Rattle.std.proofs.Common.{◌≡◌, ℕ, zero, suc, length, min, Bool, true, false, not, if◌then◌else◌, List, [], ◌∷◌, map, Option, Some, None, refl, sym, ap, subst, ◌∙◌}
use Rattle.std.specs.Prelude.{pred, slice_get, option_map}
use Rattle.std.specs.List.{list_all}
use Rattle.std.proofs.lemmas.Option.{slice_get-map}
use Rattle.xb_bits.specs.Word.{Word}
use Rattle.xb_value.specs.declared.value.Value.{Value, out-Value}
use Rattle.xb_value.specs.declared.value.Value as plain
use Rattle.xb_value.specs.declared.value.Value.TheViews as plain_views
use Rattle.dslx_meaning.specs.Lists.{all_some, and_then, beside, index_in, with_both}
use Rattle.dslx_meaning.specs.Values.{Fields, amount_in, array_step, bits_of, elements_of, fields_step, items_of, plain_value, tuple_step, unsigned_of}
use Rattle.dslx_meaning.specs.Operators.{element_or_last, element_value, index_value}
use Rattle.dslx_meaning.specs.Meaning.{field_of}
use Rattle.dslx_meaning.specs.declared.ty.DslxType.{DslxType, out-DslxType}
use Rattle.dslx_meaning.specs.declared.ty.DslxType as ty
use Rattle.dslx_meaning.specs.declared.ty.DslxType.TheOpen.{DslxType-F}
use Rattle.dslx_meaning.specs.declared.ty.DslxType.TheVariants as type_rolls
use Rattle.dslx_meaning.specs.declared.ty.DslxType.TheViews as type_views
use Rattle.dslx_meaning.specs.declared.value.DslxValue.{DslxValue, out-DslxValue}
use Rattle.dslx_meaning.specs.declared.value.DslxValue as value
use Rattle.dslx_meaning.specs.declared.value.DslxValue.TheOpen.{DslxValue-F}
use Rattle.dslx_meaning.specs.declared.value.DslxValue.TheViews as views
use Rattle.dslx_meaning.specs.declared.value.SignedWord.{SignedWord}
use Rattle.dslx_meaning.specs.Rules.AggregateRules.{array_in, array_parts, part_type, tuple_parts}
use Rattle.dslx_meaning.specs.Rules.ConstantRules.{is_zero}
use Rattle.dslx_core.proofs.Lemmas.Typing.Laws.{and_true}
use Rattle.dslx_core.specs.Typing.Typed.Kinds.{each_of, is_of, tuple_of}
use Rattle.dslx_core.proofs.Lemmas.Typing.Typed.{is_array_of, is_struct_of, is_tuple_of, none_some, of_tuple, same_some}
use Rattle.dslx_core.specs.CoreValues as meaning
use Rattle.dslx_core.specs.CoreValues.{Bindings, Functions, array_values_step, core_value, tuple_values_step, word_in}
use Rattle.dslx_core.specs.declared.expr.CoreExpr.{CoreExpr}
use Rattle.dslx_core.specs.declared.expr.CoreExpr as core
use Rattle.dslx_core.specs.Lowering.Lowering.{LoweredExpr, cores_of, lower_element, lower_field, field_index, lower_index, lowered, lower_tuple, types_of_lowered}
use Rattle.dslx_core.specs.Lowering.Correspondence.{HasPlainValue, KeepsValue}
use Rattle.dslx_core.proofs.OnLowering.Kept.{both_there, from_both, from_then, kept_as, operand, operand_word, value_as}
use Rattle.dslx_core.proofs.OnLowering.Lists.{AllHave, EachKeeps, all_have, all_of, all_values}
use Rattle.dslx_core.proofs.OnLowering.Openings.{core_element, core_index, core_tuple, plain_level, plain_tuple}

-- ---- tuples

tuple_of_parts : (calls : Functions) (bound : Bindings) (es : List LoweredExpr) (vs : List DslxValue) → AllHave calls bound es vs
    → HasPlainValue (record { core = core.Tuple (cores_of es); ty = ty.Tuple (types_of_lowered es) }) calls bound (value.Tuple vs)
tuple_of_parts calls bound es vs h = record {
  of = of_tuple (types_of_lowered es) (value.Tuple vs) ∙ ap (tuple_of (map is_of (types_of_lowered es))) (views.outs-Tuple vs) ∙ all_of calls bound es vs h;
  core =
      ap (λ f. f calls bound) (core_tuple (cores_of es)) ∙ ap (λ o. and_then o (λ vs. Some (plain.Tuple vs))) (all_values calls bound es vs h) ∙ ap Some (sym (plain_tuple vs));
}

pub tuple_keeps : (calls : Functions) (bound : Bindings) (ls : List (Option LoweredExpr)) (os : List (Option DslxValue)) → EachKeeps calls bound ls os
    → KeepsValue calls bound (lower_tuple ls) (and_then (all_some os) (λ vs. Some (value.Tuple vs)))
tuple_keeps calls bound ls os h e l v k =
    let es = from_then (all_some ls) (λ es. lowered (core.Tuple (cores_of es)) (ty.Tuple (types_of_lowered es))) e l in
    let vs = from_then (all_some os) (λ vs. Some (value.Tuple vs)) v k in
    value_as calls bound e (value.Tuple vs.0) v vs.2
    (kept_as calls bound (value.Tuple vs.0) (record { core = core.Tuple (cores_of es.0); ty = ty.Tuple (types_of_lowered es.0) }) e es.2
    (tuple_of_parts calls bound es.0 vs.0 (all_have calls bound ls os es.0 vs.0 h es.1 vs.1)))

-- ---- parts of tuples and structs

part_of : (ts : List DslxType) (vs : List DslxValue) (k : ℕ) (t : DslxType) (v : DslxValue) → each_of (map is_of ts) vs ≡ true → slice_get ts k ≡ Some t → slice_get vs k ≡ Some v → is_of t v ≡ true
part_of [] vs k t v of e f = none_some t e
part_of (u ∷ ts) [] k t v of e f = none_some v f
part_of (u ∷ ts) (w ∷ vs) zero t v of e f =
    (λ i. is_of (sym (same_some u t e) i) (sym (same_some w v f) i)) ∙ (and_true (is_of u w) (each_of (map is_of ts) vs) of).0
part_of (u ∷ ts) (w ∷ vs) (suc k) t v of e f = part_of ts vs k t v (and_true (is_of u w) (each_of (map is_of ts) vs) of).1 e f

-- a part of a value that is a tuple without names
pub part_keeps : (calls : Functions) (bound : Bindings) (e : LoweredExpr) (v : DslxValue) (ts : List DslxType) (vs : List DslxValue) (k : ℕ) (t : DslxType) (r : DslxValue)
    → HasPlainValue e calls bound v → plain_value v ≡ plain.Tuple (map plain_value vs) → each_of (map is_of ts) vs ≡ true → slice_get ts k ≡ Some t → slice_get vs k ≡ Some r
    → HasPlainValue (record { core = core.Element e.core k; ty = t }) calls bound r
part_keeps calls bound e v ts vs k t r has flat of et er = record {
  of = part_of ts vs k t r of et er;
  core =
      ap (λ f. f calls bound) (core_element e.core k)
      ∙ ap (λ o. and_then (and_then o (λ v. tuple_values_step (out-Value v))) (λ vs. slice_get vs k)) (has.core ∙ ap Some flat)
      ∙ ap (λ l. and_then (tuple_values_step l) (λ vs. slice_get vs k)) (plain_views.outs-Tuple (map plain_value vs))
      ∙ slice_get-map plain_value vs k ∙ ap (option_map plain_value) er;
}

pub type_is : (t : DslxType) (l : DslxType-F DslxType) → out-DslxType t ≡ l → t ≡ type_views.roll-DslxType l
type_is t l e = sym (type_views.roll-out-DslxType t) ∙ ap type_views.roll-DslxType e

pub element_keeps : (calls : Functions) (bound : Bindings) (l : Option LoweredExpr) (o : Option DslxValue) (k : ℕ) → KeepsValue calls bound l o
    → KeepsValue calls bound (lower_element l k) (and_then o (λ v. element_value v k))
element_keeps calls bound l o k keeps e h r g =
    let a = from_then l (λ e. and_then (part_type e.ty k) (λ t. lowered (core.Element e.core k) t)) e h in
    let t = from_then (part_type a.0.ty k) (λ t. lowered (core.Element a.0.core k) t) e a.2 in
    let v = from_then o (λ v. element_value v k) r g in
    let vs = from_then (elements_of v.0) (λ vs. slice_get vs k) r v.2 in
    kept_as calls bound r (record { core = core.Element a.0.core k; ty = t.0 }) e t.2
    (by_level a.0 v.0 (keeps a.0 a.1 v.0 v.1) t.0 vs.0 vs.1 vs.2 (out-DslxType a.0.ty) refl t.1)
  where
    same_level : (v : DslxValue) (ws vs : List DslxValue) → out-DslxValue v ≡ DslxValue-F.Tuple ws → elements_of v ≡ Some vs → ws ≡ vs
    same_level v ws vs q e = same_some ws vs (sym (ap tuple_step q) ∙ e)

    by_level : (a : LoweredExpr) (v : DslxValue) → HasPlainValue a calls bound v → (t : DslxType) (vs : List DslxValue) → elements_of v ≡ Some vs → slice_get vs k ≡ Some r
        → (l : DslxType-F DslxType) → out-DslxType a.ty ≡ l → slice_get (tuple_parts l) k ≡ Some t → HasPlainValue (record { core = core.Element a.core k; ty = t }) calls bound r
    by_level a v has t vs ev er (DslxType-F.Tuple ts) q et =
        let ws = is_tuple_of ts v (ap (λ u. is_of u v) (sym (type_is a.ty (DslxType-F.Tuple ts) q ∙ type_rolls.rolls-Tuple ts)) ∙ has.of) in
        part_keeps calls bound a v ts ws.0 k t r has (plain_level v (DslxValue-F.Tuple ws.0) ws.1) ws.2 et (ap (λ us. slice_get us k) (same_level v ws.0 vs ws.1 ev) ∙ er)
    by_level a v has t vs ev er (DslxType-F.Bits x y) q et = none_some t et
    by_level a v has t vs ev er (DslxType-F.Array x y) q et = none_some t et
    by_level a v has t vs ev er (DslxType-F.Struct x y z) q et = none_some t et
    by_level a v has t vs ev er (DslxType-F.Enum x y z) q et = none_some t et
    by_level a v has t vs ev er DslxType-F.Token q et = none_some t et

-- a field of a value
pub field_kept : (calls : Functions) (bound : Bindings) (a : LoweredExpr) (v : DslxValue) (field : List ℕ) (p : ℕ × DslxType) (r : DslxValue) → HasPlainValue a calls bound v
    → field_index field (out-DslxType a.ty) ≡ Some p → field_of v field ≡ Some r → HasPlainValue (record { core = core.Element a.core p.0; ty = p.1 }) calls bound r
field_kept calls bound a v field p r has low source = by_level (out-DslxType a.ty) refl low
  where
    by_level : (l : DslxType-F DslxType) → out-DslxType a.ty ≡ l → field_index field l ≡ Some p → HasPlainValue (record { core = core.Element a.core p.0; ty = p.1 }) calls bound r
    by_level (DslxType-F.Struct name fields ts) q e =
        let k = from_then (index_in field fields) (λ k. and_then (slice_get ts k) (λ t. Some (k, t))) p e in
        let t = from_then (slice_get ts k.0) (λ t. Some (k.0, t)) p k.2 in
        let ws = is_struct_of name fields ts v (ap (λ u. is_of u v) (sym (type_is a.ty (DslxType-F.Struct name fields ts) q ∙ type_rolls.rolls-Struct name fields ts)) ∙ has.of) in
        let there : slice_get ws.0 k.0 ≡ Some r = sym (ap (λ o. and_then o (λ k. slice_get ws.0 k)) k.1) ∙ sym (ap (λ l. and_then (fields_step l) (λ (s : Fields). beside field s.names s.values)) ws.1) ∙ source in
        subst (λ (x : ℕ × DslxType). HasPlainValue (record { core = core.Element a.core x.0; ty = x.1 }) calls bound r) (same_some (k.0, t.0) p t.2)
        (part_keeps calls bound a v ts ws.0 k.0 t.0 r has (plain_level v (DslxValue-F.Struct name fields ws.0) ws.1) ws.2 t.1 there)
    by_level (DslxType-F.Tuple x) q e = none_some p e
    by_level (DslxType-F.Bits x y) q e = none_some p e
    by_level (DslxType-F.Array x y) q e = none_some p e
    by_level (DslxType-F.Enum x y z) q e = none_some p e
    by_level DslxType-F.Token q e = none_some p e

pub field_keeps : (calls : Functions) (bound : Bindings) (l : Option LoweredExpr) (o : Option DslxValue) (field : List ℕ) → KeepsValue calls bound l o
    → KeepsValue calls bound (lower_field l field) (and_then o (λ v. field_of v field))
field_keeps calls bound l o field keeps e h r g =
    let a = from_then l (λ e. and_then (field_index field (out-DslxType e.ty)) (λ p. lowered (core.Element e.core p.0) p.1)) e h in
    let p = from_then (field_index field (out-DslxType a.0.ty)) (λ p. lowered (core.Element a.0.core p.0) p.1) e a.2 in
    let v = from_then o (λ v. field_of v field) r g in
    kept_as calls bound r (record { core = core.Element a.0.core p.0.0; ty = p.0.1 }) e p.2 (field_kept calls bound a.0 v.0 field p.0 r (keeps a.0 a.1 v.0 v.1) p.1 v.2)

-- ---- elements of arrays

-- an unsigned operand
pub record AmountIs (t : DslxType) (v : DslxValue) (w : Word) : Type 0 where
  pub bits : SignedWord
  pub is : bits_of v ≡ Some bits
  pub word : bits.word ≡ w

pub amount : (t : DslxType) (v : DslxValue) (w : Word) → unsigned_of v ≡ Some w → AmountIs t v w
amount t v w e = by_bits (bits_of v) refl e
  where
    by_sign : (x : SignedWord) (b : Bool) → (if b then None else Some x.word) ≡ Some w → x.word ≡ w
    by_sign x true k = none_some w k
    by_sign x false k = same_some x.word w k

    by_bits : (o : Option SignedWord) → bits_of v ≡ o → amount_in o ≡ Some w → AmountIs t v w
    by_bits None q k = none_some w k
    by_bits (Some x) q k = record { bits = x; is = q; word = by_sign x x.signed k }

-- what stands for it gives its word
pub amount_there : (e : LoweredExpr) (calls : Functions) (bound : Bindings) (v : DslxValue) (w : Word) → HasPlainValue e calls bound v → unsigned_of v ≡ Some w
    → word_in (core_value e.core) calls bound ≡ Some w
amount_there e calls bound v w has is =
    let a = amount e.ty v w is in
    operand_word e calls bound v a.bits has (operand e.ty v a.bits has.of a.is) ∙ ap Some a.word

-- what stands for an array gives its elements
pub elements_there : (e : LoweredExpr) (calls : Functions) (bound : Bindings) (v : DslxValue) (vs : List DslxValue) → HasPlainValue e calls bound v → out-DslxValue v ≡ DslxValue-F.Array vs
    → meaning.array_in (core_value e.core) calls bound ≡ Some (map plain_value vs)
elements_there e calls bound v vs has is =
    ap (λ o. and_then o (λ v. array_values_step (out-Value v))) (has.core ∙ ap Some (plain_level v (DslxValue-F.Array vs) is)) ∙ ap array_values_step (plain_views.outs-Array (map plain_value vs))

-- an array type, and the elements of a value of it
pub record ArrayIs (t : DslxType) (parts : DslxType × ℕ) (v : DslxValue) (vs : List DslxValue) : Type 0 where
  pub typed : t ≡ ty.Array parts.0 parts.1
  pub out : out-DslxValue v ≡ DslxValue-F.Array vs
  pub all : list_all (is_of parts.0) vs ≡ true
  pub some : not (is_zero parts.1) ≡ true
  pub count : parts.1 ≡ length vs

pub array_is : (t : DslxType) (parts : DslxType × ℕ) (v : DslxValue) (vs : List DslxValue) → array_in t ≡ Some parts → is_of t v ≡ true → items_of v ≡ Some vs → ArrayIs t parts v vs
array_is t parts v vs e of items = by_level (out-DslxType t) refl e
  where
    made : (u : DslxType) (n : ℕ) → t ≡ ty.Array u n → ArrayIs t (u, n) v vs
    made u n q =
        let ws = is_array_of u n v (ap (λ u. is_of u v) (sym q) ∙ of) in
        let same = same_some ws.elements vs (sym (ap array_step ws.out) ∙ items) in
        record { typed = q; out = ws.out ∙ ap DslxValue-F.Array same; all = ap (list_all (is_of u)) (sym same) ∙ ws.all; some = ws.some; count = ws.count ∙ ap length same }

    by_level : (l : DslxType-F DslxType) → out-DslxType t ≡ l → array_parts l ≡ Some parts → ArrayIs t parts v vs
    by_level (DslxType-F.Array u n) q k = subst (λ x. ArrayIs t x v vs) (same_some (u, n) parts k) (made u n (type_is t (DslxType-F.Array u n) q ∙ type_rolls.rolls-Array u n))
    by_level (DslxType-F.Tuple x) q k = none_some parts k
    by_level (DslxType-F.Bits x y) q k = none_some parts k
    by_level (DslxType-F.Struct x y z) q k = none_some parts k
    by_level (DslxType-F.Enum x y z) q k = none_some parts k
    by_level DslxType-F.Token q k = none_some parts k

one_of_all : (t : DslxType) (vs : List DslxValue) (k : ℕ) (v : DslxValue) → list_all (is_of t) vs ≡ true → slice_get vs k ≡ Some v → is_of t v ≡ true
one_of_all t [] k v all e = none_some v e
one_of_all t (w ∷ vs) zero v all e = ap (is_of t) (sym (same_some w v e)) ∙ (and_true (is_of t w) (list_all (is_of t) vs) all).0
one_of_all t (w ∷ vs) (suc k) v all e = one_of_all t vs k v (and_true (is_of t w) (list_all (is_of t) vs) all).1 e

pub length_kept : {A B : Type 0} (f : A → B) (as' : List A) → length (map f as') ≡ length as'
length_kept f [] = refl
length_kept f (a ∷ as') = ap suc (length_kept f as')

pub index_keeps : (calls : Functions) (bound : Bindings) (l li : Option LoweredExpr) (o oi : Option DslxValue) → KeepsValue calls bound l o → KeepsValue calls bound li oi
    → KeepsValue calls bound (lower_index l li) (with_both o oi index_value)
index_keeps calls bound l li o oi keeps keep_index e h r g =
    let a = from_both l li (λ e i. and_then (array_in e.ty) (λ parts. lowered (core.Index e.core i.core) parts.0)) e h in
    let p = from_then (array_in a.0.ty) (λ parts. lowered (core.Index a.0.core a.1.core) parts.0) e a.4 in
    let v = from_both o oi index_value r g in
    let q = from_both (items_of v.0) (unsigned_of v.1) (λ vs k. element_or_last vs k.value) r v.4 in
    let has = keeps a.0 a.2 v.0 v.2 in
    let place = keep_index a.1 a.3 v.1 v.3 in
    let array = array_is a.0.ty p.0 v.0 q.0 p.1 has.of q.2 in
    let at = min q.1.value (pred (length q.0)) in
    kept_as calls bound r (record { core = core.Index a.0.core a.1.core; ty = p.0.0 }) e p.2
    (record {
      of = one_of_all p.0.0 q.0 at r array.all q.4;
      core =
          ap (λ f. f calls bound) (core_index a.0.core a.1.core)
          ∙ both_there (meaning.array_in (core_value a.0.core) calls bound) (word_in (core_value a.1.core) calls bound) (λ vs k. slice_get vs (min k.value (pred (length vs)))) (map plain_value q.0) q.1
          (elements_there a.0 calls bound v.0 q.0 has array.out) (amount_there a.1 calls bound v.1 q.1 place q.3)
          ∙ ap (λ n. slice_get (map plain_value q.0) (min q.1.value (pred n))) (length_kept plain_value q.0)
          ∙ slice_get-map plain_value q.0 at ∙ ap (option_map plain_value) q.4;
    })
