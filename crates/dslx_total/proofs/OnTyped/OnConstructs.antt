-- What each kind of expression is lowered to has its type, over operands that have theirs.
use Rattle.std.proofs.Common.{◌≡◌, ◌&&◌, ◌==◌, ◌+◌, ◌-◌, ◌<◌, ◌≤◌, ℕ, suc, true, false, List, [], ◌∷◌, map, length, Option, Some, None, refl, sym, ap, subst, ◌∙◌, arith}
use Rattle.std.specs.Prelude.{nat_lt, nat_le, slice_get}
use Rattle.std.specs.List.{list_all}
use Rattle.std.proofs.lemmas.Bool.Decides.{nat_tests}
use Rattle.xb_value.specs.declared.ty.Ty.{Ty}
use Rattle.xb_value.specs.declared.ty.Ty as plain
use Rattle.dslx_meaning.specs.Lists.{all_some, and_then, index_in, where_true, with_both}
use Rattle.dslx_meaning.specs.Types.{bits_in, bits_step, bool_type, plain_type, unsigned}
use Rattle.dslx_meaning.specs.Values.{plain_value}
use Rattle.dslx_meaning.specs.declared.ty.BitKind.{BitKind}
use Rattle.dslx_meaning.specs.declared.ty.DslxType.{DslxType, out-DslxType}
use Rattle.dslx_meaning.specs.declared.ty.DslxType as ty
use Rattle.dslx_meaning.specs.declared.ty.DslxType.TheOpen.{DslxType-F}
use Rattle.dslx_meaning.specs.declared.value.DslxValue.{DslxValue}
use Rattle.dslx_meaning.specs.Rules.AggregateRules.{array_in, part_type, tuple_parts}
use Rattle.dslx_core.proofs.Lemmas.Typing.Laws.{and_true}
use Rattle.dslx_core.proofs.Lemmas.Typing.Typed.{all_are, none_some, same_some}
use Rattle.dslx_core.proofs.Lemmas.Lowering.{from_then}
use Rattle.dslx_core.specs.CoreValues.{is_width}
use Rattle.dslx_core.specs.declared.expr.CoreBinary.{CoreBinary}
use Rattle.dslx_core.specs.declared.expr.CoreExpr.{CoreExpr}
use Rattle.dslx_core.specs.declared.expr.CoreExpr as core
use Rattle.dslx_core.specs.declared.expr.CoreUnary.{CoreUnary}
use Rattle.dslx_core.specs.Lowering.CoreScopes.{CoreScope}
use Rattle.dslx_core.specs.Lowering.EqualTypes.{equal_type}
use Rattle.dslx_core.specs.Lowering.Lowering.{LoweredExpr, cores_of, field_index, literal, lower_cast, lower_choice, lower_element, lower_field, lower_function, lower_index, lower_part, lower_slice, lower_tuple, lower_updated, lowered, sign_of, types_of_lowered}
use Rattle.dslx_core.specs.Types.Typing.{Elements, FunctionTypes, Typing, array_in as elements_in, binary_type, bits_width, core_type, elements, elements_of, if_alike, parts_of_tuple, types_in, unary_type, width_in}
use Rattle.dslx_core.proofs.Lemmas.Types.{alike_itself, elements_of_array, parts_of, type_array, type_binary, type_call, type_cast, type_choose, type_element, type_index, type_literal, type_part, type_slice, type_tuple, type_unary, type_update, where_so, width_of_bits}
use Rattle.dslx_total.specs.Typed.Scopes.{IsSoundValue, IsTypedExpr, TypedBody, TypedIfThere, is_sound_type}
use Rattle.dslx_total.proofs.OnTyped.OnTypes.{HasElements, HasParts, HasWidth, bits_width_is, each_sound, has_elements, plain_array, plain_at, plain_bits, plain_level, plain_tuple, sound_bits, sound_level, sound_tuple}
use Rattle.dslx_total.proofs.OnTyped.OnLiterals.{EachIs, elements_are_alike, sound_typed}
use Rattle.dslx_total.proofs.OnTyped.OnOptions.{AllTyped, EachTypedIfThere, all_typed, both_typed, then_typed, where_typed}
use Rattle.dslx_total.proofs.OnTyped.OnOneType.{one_by_test}

-- ---- numbers of bits

pub one_wide : is_width 1 ≡ true
one_wide =
    let some : nat_lt 0 1 ≡ true = grind (arith, nat_tests) in
    let few : nat_le 1 128 ≡ true = grind (arith, nat_tests) in
    λ i. some i && few i

pub bool_wide : HasWidth bool_type 1
bool_wide = record { plain = plain_bits false 1; width = one_wide }

pub bool_sound : is_sound_type bool_type ≡ true
bool_sound = sound_bits false 1 ∙ one_wide

-- bits that are 1 to 128 wide are sound
pub kind_sound : (t : DslxType) (k : BitKind) → bits_in t ≡ Some k → is_width k.width ≡ true → is_sound_type t ≡ true
kind_sound t k e h = by_level (out-DslxType t) refl e
  where
    by_level : (l : DslxType-F DslxType) → out-DslxType t ≡ l → bits_step l ≡ Some k → is_sound_type t ≡ true
    by_level (DslxType-F.Bits s w) q r = sound_level t (DslxType-F.Bits s w) q ∙ ap (λ (k : BitKind). is_width k.width) (same_some (record { signed = s; width = w }) k r) ∙ h
    by_level (DslxType-F.Enum name s w) q r = none_some k r
    by_level (DslxType-F.Tuple us) q r = none_some k r
    by_level (DslxType-F.Array v n) q r = none_some k r
    by_level (DslxType-F.Struct name fields us) q r = none_some k r
    by_level DslxType-F.Token q r = none_some k r

sliced : (m n w : ℕ) → nat_lt m n ≡ true → nat_le n 128 ≡ true → nat_le n w ≡ true → (is_width (n - m) ≡ true) × ((nat_lt 0 (n - m) && nat_le (m + (n - m)) w) ≡ true)
sliced m n w a b c =
    let less : m < n = grind (arith, nat_tests, a) in
    let few : n ≤ 128 = grind (arith, nat_tests, b) in
    let inside : n ≤ w = grind (arith, nat_tests, c) in
    let positive : 0 < n - m = omega (arith, less) in
    let most : n - m ≤ 128 = omega (arith, few) in
    let end : m + (n - m) ≤ w = omega (arith, less, inside) in
    let some : nat_lt 0 (n - m) ≡ true = grind (arith, nat_tests, positive) in
    let low : nat_le (n - m) 128 ≡ true = grind (arith, nat_tests, most) in
    let high : nat_le (m + (n - m)) w ≡ true = grind (arith, nat_tests, end) in
    ((λ i. some i && low i), λ i. some i && high i)

-- ---- fields and parts

tuple_parts_of : (t u : DslxType) (k : ℕ) → is_sound_type t ≡ true → part_type t k ≡ Some u → (us : List DslxType) × HasParts t us × (slice_get us k ≡ Some u)
tuple_parts_of t u k sound e = by_level (out-DslxType t) refl e
  where
    by_level : (l : DslxType-F DslxType) → out-DslxType t ≡ l → slice_get (tuple_parts l) k ≡ Some u → (us : List DslxType) × HasParts t us × (slice_get us k ≡ Some u)
    by_level (DslxType-F.Tuple us) q h = (us, record { plain = plain_level t (DslxType-F.Tuple us) q; sound = sym (sound_level t (DslxType-F.Tuple us) q) ∙ sound }, h)
    by_level (DslxType-F.Bits s w) q h = none_some u h
    by_level (DslxType-F.Array v n) q h = none_some u h
    by_level (DslxType-F.Struct name fields us) q h = none_some u h
    by_level (DslxType-F.Enum name s w) q h = none_some u h
    by_level DslxType-F.Token q h = none_some u h

field_parts_of : (t : DslxType) (name : List ℕ) (p : ℕ × DslxType) → is_sound_type t ≡ true → field_index name (out-DslxType t) ≡ Some p → (us : List DslxType) × HasParts t us × (slice_get us p.0 ≡ Some p.1)
field_parts_of t name p sound e = by_level (out-DslxType t) refl e
  where
    by_level : (l : DslxType-F DslxType) → out-DslxType t ≡ l → field_index name l ≡ Some p → (us : List DslxType) × HasParts t us × (slice_get us p.0 ≡ Some p.1)
    by_level (DslxType-F.Struct own fields us) q h =
        let a = from_then (index_in name fields) (λ k. and_then {B = ℕ × DslxType} (slice_get us k) (λ t. Some (k, t))) p h in
        let b = from_then {B = ℕ × DslxType} (slice_get us a.0) (λ t. Some (a.0, t)) p a.2 in
        let same = same_some (a.0, b.0) p b.2 in
        (us, record { plain = plain_level t (DslxType-F.Struct own fields us) q; sound = sym (sound_level t (DslxType-F.Struct own fields us) q) ∙ sound }, subst (λ (p : ℕ × DslxType). slice_get us p.0 ≡ Some p.1) same b.1)
    by_level (DslxType-F.Bits s w) q h = none_some p h
    by_level (DslxType-F.Tuple us) q h = none_some p h
    by_level (DslxType-F.Array v n) q h = none_some p h
    by_level (DslxType-F.Enum own s w) q h = none_some p h
    by_level DslxType-F.Token q h = none_some p h

-- ---- lists

-- expressions of one type
abbrev pub AllOf : FunctionTypes → List Ty → DslxType → List LoweredExpr → Type 0
AllOf fs ts t [] = Unit {0}
AllOf fs ts t (e ∷ es) = (IsTypedExpr fs ts e × (t ≡ e.ty)) × AllOf fs ts t es

module _ (fs : FunctionTypes) (ts : List Ty) where
  -- ---- values

  pub literal_typed : (v : DslxValue) → IsSoundValue v → TypedIfThere fs ts (literal v)
  literal_typed v s = record { core = ap (λ (q : Typing). q fs ts) (type_literal (plain_value v)) ∙ sound_typed v s; sound = s.sound }

  -- ---- operators

  pub width_there : (e : LoweredExpr) (w : ℕ) → IsTypedExpr fs ts e → HasWidth e.ty w → width_in (core_type e.core) fs ts ≡ Some w
  width_there e w t h = ap (λ o. and_then o bits_width) (t.core ∙ ap Some h.plain) ∙ width_of_bits w h.width

  pub unary_typed : (o : CoreUnary) (e : LoweredExpr) (w : ℕ) (t : DslxType) → IsTypedExpr fs ts e → HasWidth e.ty w → unary_type o w ≡ plain_type t → is_sound_type t ≡ true → IsTypedExpr fs ts (record { core = core.Unary o e.core; ty = t })
  unary_typed o e w t h k is sound = record {
    core = ap (λ (q : Typing). q fs ts) (type_unary o e.core) ∙ ap (λ x. and_then x (λ w. Some (unary_type o w))) (width_there e w h k) ∙ ap Some is;
    sound = sound;
  }

  pub binary_typed : (o : CoreBinary) (l r : LoweredExpr) (v w : ℕ) (t : DslxType) → IsTypedExpr fs ts l → IsTypedExpr fs ts r → HasWidth l.ty v → HasWidth r.ty w → binary_type o v w ≡ Some (plain_type t) → is_sound_type t ≡ true
      → IsTypedExpr fs ts (record { core = core.Binary o l.core r.core; ty = t })
  binary_typed o l r v w t hl hr kl kr is sound = record {
    core = ap (λ (q : Typing). q fs ts) (type_binary o l.core r.core) ∙ (λ i. with_both (width_there l v hl kl i) (width_there r w hr kr i) (binary_type o)) ∙ is;
    sound = sound;
  }

  pub cast_typed : (e : LoweredExpr) (w : ℕ) (o : Option DslxType) → IsTypedExpr fs ts e → HasWidth e.ty w → TypedIfThere fs ts (lower_cast (Some e) o)
  cast_typed e w None h k = tt
  cast_typed e w (Some t) h k =
      then_typed fs ts (bits_in t) (λ kind. where_true (is_width kind.width) (lowered (core.Cast (sign_of e.ty) kind.width e.core) t))
      (λ kind q. where_typed fs ts (is_width kind.width) (lowered (core.Cast (sign_of e.ty) kind.width e.core) t)
      (λ wide.
      let sound = kind_sound t kind q wide in
      record {
        core = ap (λ (q : Typing). q fs ts) (type_cast (sign_of e.ty) kind.width e.core)
            ∙ ap (λ x. and_then x (λ v. where_true (is_width kind.width) (Some (plain.Bits kind.width)))) (width_there e w h k)
            ∙ where_so (is_width kind.width) (Some (plain.Bits kind.width)) wide
            ∙ ap Some (sym (bits_width_is t kind sound q).plain);
        sound = sound;
      }))

  pub slice_typed : (e : LoweredExpr) (w m n : ℕ) → IsTypedExpr fs ts e → HasWidth e.ty w → nat_le n w ≡ true → TypedIfThere fs ts (lower_slice (Some e) (Some m) (Some n))
  slice_typed e w m n h k inside =
      where_typed fs ts (nat_lt m n && nat_le n 128) (lowered (core.Slice e.core m (n - m)) (unsigned (n - m)))
      (λ test.
      let parts = and_true (nat_lt m n) (nat_le n 128) test in
      let q = sliced m n w parts.0 parts.1 inside in
      record {
        core = ap (λ (q : Typing). q fs ts) (type_slice e.core m (n - m))
            ∙ ap (λ x. and_then x (λ v. where_true (nat_lt 0 (n - m) && nat_le (m + (n - m)) v) (Some (plain.Bits (n - m))))) (width_there e w h k)
            ∙ where_so (nat_lt 0 (n - m) && nat_le (m + (n - m)) w) (Some (plain.Bits (n - m))) q.1
            ∙ ap Some (sym (plain_bits false (n - m)));
        sound = sound_bits false (n - m) ∙ q.0;
      })

  pub part_typed : (e i : LoweredExpr) (v w : ℕ) (o : Option DslxType) → IsTypedExpr fs ts e → IsTypedExpr fs ts i → HasWidth e.ty v → HasWidth i.ty w → TypedIfThere fs ts (lower_part (Some e) (Some i) o)
  part_typed e i v w o he hi ke ki =
      then_typed fs ts (and_then o bits_in) (λ kind. where_true (is_width kind.width) (lowered (core.Part e.core i.core kind.width) (unsigned kind.width)))
      (λ kind q. where_typed fs ts (is_width kind.width) (lowered (core.Part e.core i.core kind.width) (unsigned kind.width))
      (λ wide. record {
        core = ap (λ (q : Typing). q fs ts) (type_part e.core i.core kind.width)
            ∙ (λ d. with_both (width_there e v he ke d) (width_there i w hi ki d) (λ v k. where_true (is_width kind.width) (Some (plain.Bits kind.width))))
            ∙ where_so (is_width kind.width) (Some (plain.Bits kind.width)) wide
            ∙ ap Some (sym (plain_bits false kind.width));
        sound = sound_bits false kind.width ∙ wide;
      }))

  -- ---- parts

  element_core : (e : LoweredExpr) (us : List DslxType) (k : ℕ) (t : DslxType) → IsTypedExpr fs ts e → HasParts e.ty us → slice_get us k ≡ Some t → IsTypedExpr fs ts (record { core = core.Element e.core k; ty = t })
  element_core e us k t h p is = record {
    core = ap (λ (q : Typing). q fs ts) (type_element e.core k)
        ∙ ap (λ x. and_then (and_then x parts_of_tuple) (λ us. slice_get us k)) (h.core ∙ ap Some p.plain)
        ∙ ap (λ x. and_then x (λ us. slice_get us k)) (parts_of (map plain_type us))
        ∙ plain_at us k t is;
    sound = each_sound us k t p.sound is;
  }

  pub element_typed : (e : LoweredExpr) (k : ℕ) → IsTypedExpr fs ts e → TypedIfThere fs ts (lower_element (Some e) k)
  element_typed e k h =
      then_typed fs ts (part_type e.ty k) (λ t. lowered (core.Element e.core k) t)
      (λ t q. let p = tuple_parts_of e.ty t k h.sound q in element_core e p.0 k t h p.1 p.2)

  pub field_typed : (e : LoweredExpr) (name : List ℕ) → IsTypedExpr fs ts e → TypedIfThere fs ts (lower_field (Some e) name)
  field_typed e name h =
      then_typed fs ts (field_index name (out-DslxType e.ty)) (λ p. lowered (core.Element e.core p.0) p.1)
      (λ p q. let r = field_parts_of e.ty name p h.sound q in element_core e r.0 p.0 p.1 h r.1 r.2)

  elements_there : (e : LoweredExpr) (u : DslxType) (n : ℕ) → IsTypedExpr fs ts e → HasElements e.ty u n → elements_in (core_type e.core) fs ts ≡ Some (elements (plain_type u) n)
  elements_there e u n h k = ap (λ o. and_then o elements_of) (h.core ∙ ap Some k.plain) ∙ elements_of_array (plain_type u) n k.some

  pub index_typed : (e i : LoweredExpr) (w : ℕ) → IsTypedExpr fs ts e → IsTypedExpr fs ts i → HasWidth i.ty w → TypedIfThere fs ts (lower_index (Some e) (Some i))
  index_typed e i w he hi ki =
      then_typed fs ts (array_in e.ty) (λ parts. lowered (core.Index e.core i.core) parts.0)
      (λ parts q.
      let k = has_elements e.ty parts he.sound q in
      record {
        core = ap (λ (q : Typing). q fs ts) (type_index e.core i.core)
            ∙ (λ d. with_both (elements_there e parts.0 parts.1 he k d) (width_there i w hi ki d) (λ (a : Elements) w. Some a.element));
        sound = k.sound;
      })

  pub update_typed : (e i new : LoweredExpr) (w : ℕ) → IsTypedExpr fs ts e → IsTypedExpr fs ts i → IsTypedExpr fs ts new → HasWidth i.ty w → TypedIfThere fs ts (lower_updated (Some e ∷ Some i ∷ Some new ∷ []))
  update_typed e i new w he hi hn ki =
      then_typed fs ts (array_in e.ty) (λ parts. where_true (equal_type parts.0 new.ty) (lowered (core.Update e.core i.core new.core) e.ty))
      (λ parts q. where_typed fs ts (equal_type parts.0 new.ty) (lowered (core.Update e.core i.core new.core) e.ty)
      (λ same.
      let k = has_elements e.ty parts he.sound q in
      record {
        core = ap (λ (q : Typing). q fs ts) (type_update e.core i.core new.core)
            ∙ (λ d. with_both (elements_there e parts.0 parts.1 he k d) (width_there i w hi ki d) (λ (a : Elements) w. and_then (if_alike a.element (core_type new.core fs ts)) (λ t. Some (plain.Array a.element a.count))))
            ∙ ap (λ o. and_then (if_alike (plain_type parts.0) o) (λ t. Some (plain.Array (plain_type parts.0) parts.1))) (hn.core ∙ ap (λ t. Some (plain_type t)) (sym (one_by_test parts.0 new.ty same)))
            ∙ ap (λ o. and_then o (λ t. Some (plain.Array (plain_type parts.0) parts.1))) (alike_itself (plain_type parts.0))
            ∙ ap Some (sym k.plain);
        sound = he.sound;
      }))

  -- ---- choices

  pub choice_typed : (c a b : LoweredExpr) → IsTypedExpr fs ts c → IsTypedExpr fs ts a → IsTypedExpr fs ts b → HasWidth c.ty 1 → TypedIfThere fs ts (lower_choice (Some c) (Some a) (Some b))
  choice_typed c a b hc ha hb k =
      where_typed fs ts (equal_type a.ty b.ty) (lowered (core.Choose c.core a.core b.core) a.ty)
      (λ same.
      let one : (1 == 1) ≡ true = grind (arith, nat_tests) in
      record {
        core = ap (λ (q : Typing). q fs ts) (type_choose c.core a.core b.core)
            ∙ ap (λ x. and_then x (λ w. where_true (w == 1) (and_then (core_type a.core fs ts) (λ t. if_alike t (core_type b.core fs ts))))) (width_there c 1 hc k)
            ∙ where_so (1 == 1) (and_then (core_type a.core fs ts) (λ t. if_alike t (core_type b.core fs ts))) one
            ∙ ap (λ x. and_then x (λ t. if_alike t (core_type b.core fs ts))) ha.core
            ∙ ap (if_alike (plain_type a.ty)) (hb.core ∙ ap (λ t. Some (plain_type t)) (sym (one_by_test a.ty b.ty same)))
            ∙ alike_itself (plain_type a.ty);
        sound = ha.sound;
      })

  -- ---- tuples and arrays

  types_there : (es : List LoweredExpr) → AllTyped fs ts es → map (λ (q : Typing). q fs ts) (map core_type (cores_of es)) ≡ map Some (map plain_type (types_of_lowered es))
  types_there [] h = refl
  types_there (e ∷ es) h = λ i. h.0.core i ∷ types_there es h.1 i

  all_types_there : (es : List LoweredExpr) → AllTyped fs ts es → types_in (map core_type (cores_of es)) fs ts ≡ Some (map plain_type (types_of_lowered es))
  all_types_there es h = ap all_some (types_there es h) ∙ all_are (map plain_type (types_of_lowered es))

  all_types_sound : (es : List LoweredExpr) → AllTyped fs ts es → list_all (λ b. b) (map is_sound_type (types_of_lowered es)) ≡ true
  all_types_sound [] h = refl
  all_types_sound (e ∷ es) h = λ i. h.0.sound i && all_types_sound es h.1 i

  -- a tuple of this type, which has these parts
  pub tuple_core : (es : List LoweredExpr) (t : DslxType) → AllTyped fs ts es → plain_type t ≡ plain.Tuple (map plain_type (types_of_lowered es)) → is_sound_type t ≡ list_all (λ b. b) (map is_sound_type (types_of_lowered es))
      → IsTypedExpr fs ts (record { core = core.Tuple (cores_of es); ty = t })
  tuple_core es t h is sound = record {
    core = ap (λ (q : Typing). q fs ts) (type_tuple (cores_of es)) ∙ ap (λ x. and_then x (λ ts. Some (plain.Tuple ts))) (all_types_there es h) ∙ ap Some (sym is);
    sound = sound ∙ all_types_sound es h;
  }

  pub tuple_typed : (os : List (Option LoweredExpr)) → EachTypedIfThere fs ts os → TypedIfThere fs ts (lower_tuple os)
  tuple_typed os h =
      then_typed fs ts (all_some os) (λ es. lowered (core.Tuple (cores_of es)) (ty.Tuple (types_of_lowered es)))
      (λ es is. tuple_core es (ty.Tuple (types_of_lowered es)) (all_typed fs ts os es h is) (plain_tuple (types_of_lowered es)) (sound_tuple (types_of_lowered es)))

  -- no parts
  pub unit_core : (t : DslxType) → plain_type t ≡ plain.Tuple [] → is_sound_type t ≡ true → IsTypedExpr fs ts (record { core = core.Tuple []; ty = t })
  unit_core t is sound = tuple_core [] t tt is sound

  each_is : (es : List LoweredExpr) (t : DslxType) → AllOf fs ts t es → EachIs (plain_type t) (map (λ (q : Typing). q fs ts) (map core_type (cores_of es)))
  each_is [] t h = tt
  each_is (e ∷ es) t h = (h.0.0.core ∙ ap (λ u. Some (plain_type u)) (sym h.0.1), each_is es t h.1)

  as_many : (es : List LoweredExpr) → length (map (λ (q : Typing). q fs ts) (map core_type (cores_of es))) ≡ length es
  as_many [] = refl
  as_many (e ∷ es) = ap suc (as_many es)

  pub array_core : (es : List LoweredExpr) (t : DslxType) (n : ℕ) → AllOf fs ts t es → length es ≡ n → is_sound_type (ty.Array t n) ≡ true → nat_lt 0 n ≡ true → IsTypedExpr fs ts (record { core = core.Array (cores_of es); ty = ty.Array t n })
  array_core es t n h many sound some = record {
    core = ap (λ (q : Typing). q fs ts) (type_array (cores_of es))
        ∙ elements_are_alike (plain_type t) (map (λ (q : Typing). q fs ts) (map core_type (cores_of es))) n (each_is es t h) (as_many es ∙ many) some
        ∙ ap Some (sym (plain_array t n));
    sound = sound;
  }

  -- ---- calls

  pub function_typed : (scope : CoreScope) (name : List ℕ) (parametric_args : List (Option DslxValue)) (os : List (Option LoweredExpr)) → TypedBody fs scope.known → EachTypedIfThere fs ts os → TypedIfThere fs ts (lower_function scope name parametric_args os)
  function_typed scope name parametric_args os body h =
      both_typed fs ts (all_some parametric_args) (all_some os)
      (λ parametric_args es. and_then (scope.known.callee name parametric_args (types_of_lowered es)) (λ callee. lowered (core.Call callee.number (cores_of es)) callee.result))
      (λ given es p is. then_typed fs ts (scope.known.callee name given (types_of_lowered es)) (λ callee. lowered (core.Call callee.number (cores_of es)) callee.result)
      (λ callee q.
      let c = body.callees name given (types_of_lowered es) callee q in
      record {
        core = ap (λ (q : Typing). q fs ts) (type_call callee.number (cores_of es)) ∙ ap (λ x. and_then x (fs callee.number)) (all_types_there es (all_typed fs ts os es h is)) ∙ c.0;
        sound = c.1;
      }))
