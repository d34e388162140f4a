-- The type of each kind of expression, by those of its parts.
use Rattle.std.proofs.Common.{◌≡◌, ℕ, ◌+◌, ◌==◌, true, ◌&&◌, List, ◌∷◌, ◌++◌, map, Option, Some, None, refl, sym, ap, ap₂, subst, ◌∙◌, []}
use Rattle.std.specs.Prelude.{nat_lt, nat_le, slice_get}
use Rattle.xb_bits.specs.Word.{Word}
use Rattle.xb_value.specs.declared.ty.Ty.{Ty}
use Rattle.xb_value.specs.declared.ty.Ty as ty
use Rattle.xb_value.specs.declared.value.Value.{Value}
use Rattle.dslx_meaning.specs.Lists.{all_some, and_then, where_true, with_both}
use Rattle.dslx_core.specs.declared.expr.Arm.{Arm}
use Rattle.dslx_core.specs.declared.expr.Sign.{Sign}
use Rattle.dslx_core.specs.declared.expr.Shape.{Shape}
use Rattle.dslx_core.specs.declared.expr.CoreUnary.{CoreUnary}
use Rattle.dslx_core.specs.declared.expr.CoreBinary.{CoreBinary}
use Rattle.dslx_core.specs.declared.expr.CoreExpr.{CoreExpr, out-CoreExpr}
use Rattle.dslx_core.specs.declared.expr.CoreExpr as core
use Rattle.dslx_core.specs.declared.expr.CoreExpr.TheOpen.{CoreExpr-F}
use Rattle.dslx_core.specs.declared.expr.CoreExpr.TheViews as views
use Rattle.dslx_core.specs.declared.expr.CoreExpr.TheFolds.{map-CoreExpr, fold_out-CoreExpr}
use Rattle.dslx_core.specs.CoreValues.{is_width}
use Rattle.dslx_core.specs.Types.Typing.{FunctionTypes, Typing, CoreArmTyping, Elements, all_fit, arm_typing, arms_type, binary_type, binds_types, bits_width, elements_alike, elements_of, if_alike, is_sound_word, parts_of_tuple, shapes_of, unary_type, value_type}
use Rattle.dslx_core.proofs.Lemmas.Types.{where_so}
use Rattle.ir_lower_nodes.specs.Exprs.NodeTypes.{arm_node_type, if_node, node_step, node_type}

abbrev types_layer : CoreExpr-F CoreExpr Arm → CoreExpr-F Typing CoreArmTyping
types_layer x = map-CoreExpr CoreExpr Arm Typing CoreArmTyping node_type arm_node_type x

-- an expression has the type of its layer
opened : (e : CoreExpr) (x : CoreExpr-F CoreExpr Arm) → out-CoreExpr e ≡ x → node_type e ≡ node_step (types_layer x)
opened e x h = fold_out-CoreExpr Typing CoreArmTyping node_step arm_typing e ∙ ap (λ y. node_step (types_layer y)) h

pub all_there : (ts : List Ty) → all_some (map Some ts) ≡ Some ts
all_there [] = refl
all_there (t ∷ ts) = put_before (map Some ts) ts t (all_there ts)
  where
    put_before : (os : List (Option Ty)) (us : List Ty) (u : Ty) → all_some os ≡ Some us → all_some (Some u ∷ os) ≡ Some (u ∷ us)
    put_before os us u h = rw h

module _ (calls : FunctionTypes) (bound : List Ty) where
  at : (e : CoreExpr) (x : CoreExpr-F CoreExpr Arm) → out-CoreExpr e ≡ x → node_type e calls bound ≡ node_step (types_layer x) calls bound
  at e x h = ap (λ (q : Typing). q calls bound) (opened e x h)

  pub literal_typed : (v : Value) (t : Ty) → if_node (value_type v) ≡ Some t → node_type (core.Literal v) calls bound ≡ Some t
  literal_typed v t h = at (core.Literal v) (CoreExpr-F.Literal v) (views.outs-Literal v) ∙ h

  pub slot_typed : (k : ℕ) (u t : Ty) → slice_get bound k ≡ Some u → if_node (Some u) ≡ Some t → node_type (core.Slot k) calls bound ≡ Some t
  slot_typed k u t is h = at (core.Slot k) (CoreExpr-F.Slot k) (views.outs-Slot k) ∙ (ap if_node is ∙ h)

  pub tuple_typed : (es : List CoreExpr) (ts : List Ty) (t : Ty) → map (λ (q : Typing). q calls bound) (map node_type es) ≡ map Some ts → if_node (Some (ty.Tuple ts)) ≡ Some t → node_type (core.Tuple es) calls bound ≡ Some t
  tuple_typed es ts t are h =
      at (core.Tuple es) (CoreExpr-F.Tuple es) (views.outs-Tuple es)
      ∙ (ap (λ o. if_node (and_then o (λ us. Some (ty.Tuple us)))) (ap all_some are ∙ all_there ts) ∙ h)

  pub array_typed : (es : List CoreExpr) (ts : List Ty) (t : Ty) → map (λ (q : Typing). q calls bound) (map node_type es) ≡ map Some ts → if_node (elements_alike (map Some ts)) ≡ Some t → node_type (core.Array es) calls bound ≡ Some t
  array_typed es ts t are h =
      at (core.Array es) (CoreExpr-F.Array es) (views.outs-Array es) ∙ (ap (λ os. if_node (elements_alike os)) are ∙ h)

  pub unary_typed : (o : CoreUnary) (e : CoreExpr) (a t : Ty) → node_type e calls bound ≡ Some a → if_node (and_then (bits_width a) (λ w. Some (unary_type o w))) ≡ Some t → node_type (core.Unary o e) calls bound ≡ Some t
  unary_typed o e a t is h =
      at (core.Unary o e) (CoreExpr-F.Unary o e) (views.outs-Unary o e)
      ∙ (ap (λ p. if_node (and_then (and_then p bits_width) (λ w. Some (unary_type o w)))) is ∙ h)

  pub binary_typed : (o : CoreBinary) (l r : CoreExpr) (a b t : Ty) → node_type l calls bound ≡ Some a → node_type r calls bound ≡ Some b → if_node (with_both (bits_width a) (bits_width b) (binary_type o)) ≡ Some t → node_type (core.Binary o l r) calls bound ≡ Some t
  binary_typed o l r a b t first second h =
      at (core.Binary o l r) (CoreExpr-F.Binary o l r) (views.outs-Binary o l r)
      ∙ (ap₂ (λ p q. if_node (with_both (and_then p bits_width) (and_then q bits_width) (binary_type o))) first second ∙ h)

  pub cast_typed : (sign : Sign) (w : ℕ) (e : CoreExpr) (a t : Ty) → node_type e calls bound ≡ Some a → if_node (and_then (bits_width a) (λ v. where_true (is_width w) (Some (ty.Bits w)))) ≡ Some t → node_type (core.Cast sign w e) calls bound ≡ Some t
  cast_typed sign w e a t is h =
      at (core.Cast sign w e) (CoreExpr-F.Cast sign w e) (views.outs-Cast sign w e)
      ∙ (ap (λ p. if_node (and_then (and_then p bits_width) (λ v. where_true (is_width w) (Some (ty.Bits w))))) is ∙ h)

  pub slice_typed : (e : CoreExpr) (from w : ℕ) (a t : Ty) → node_type e calls bound ≡ Some a → if_node (and_then (bits_width a) (λ v. where_true (nat_lt 0 w && nat_le (from + w) v) (Some (ty.Bits w)))) ≡ Some t → node_type (core.Slice e from w) calls bound ≡ Some t
  slice_typed e from w a t is h =
      at (core.Slice e from w) (CoreExpr-F.Slice e from w) (views.outs-Slice e from w)
      ∙ (ap (λ p. if_node (and_then (and_then p bits_width) (λ v. where_true (nat_lt 0 w && nat_le (from + w) v) (Some (ty.Bits w))))) is ∙ h)

  pub part_typed : (e i : CoreExpr) (w : ℕ) (a b t : Ty) → node_type e calls bound ≡ Some a → node_type i calls bound ≡ Some b → if_node (with_both (bits_width a) (bits_width b) (λ v k. where_true (is_width w) (Some (ty.Bits w)))) ≡ Some t → node_type (core.Part e i w) calls bound ≡ Some t
  part_typed e i w a b t first second h =
      at (core.Part e i w) (CoreExpr-F.Part e i w) (views.outs-Part e i w)
      ∙ (ap₂ (λ p q. if_node (with_both (and_then p bits_width) (and_then q bits_width) (λ v k. where_true (is_width w) (Some (ty.Bits w))))) first second ∙ h)

  pub element_typed : (e : CoreExpr) (k : ℕ) (a t : Ty) → node_type e calls bound ≡ Some a → if_node (and_then (parts_of_tuple a) (λ ts. slice_get ts k)) ≡ Some t → node_type (core.Element e k) calls bound ≡ Some t
  element_typed e k a t is h =
      at (core.Element e k) (CoreExpr-F.Element e k) (views.outs-Element e k)
      ∙ (ap (λ p. if_node (and_then (and_then p parts_of_tuple) (λ ts. slice_get ts k))) is ∙ h)

  pub index_typed : (e i : CoreExpr) (a b t : Ty) → node_type e calls bound ≡ Some a → node_type i calls bound ≡ Some b → if_node (with_both (elements_of a) (bits_width b) (λ (x : Elements) w. Some x.element)) ≡ Some t → node_type (core.Index e i) calls bound ≡ Some t
  index_typed e i a b t first second h =
      at (core.Index e i) (CoreExpr-F.Index e i) (views.outs-Index e i)
      ∙ (ap₂ (λ p q. if_node (with_both (and_then p elements_of) (and_then q bits_width) (λ (x : Elements) w. Some x.element))) first second ∙ h)

  pub update_typed : (e i v : CoreExpr) (a b c t : Ty) → node_type e calls bound ≡ Some a → node_type i calls bound ≡ Some b → node_type v calls bound ≡ Some c → if_node (with_both (elements_of a) (bits_width b) (λ (x : Elements) w. and_then (if_alike x.element (Some c)) (λ u. Some (ty.Array x.element x.count)))) ≡ Some t → node_type (core.Update e i v) calls bound ≡ Some t
  update_typed e i v a b c t first second third h =
      at (core.Update e i v) (CoreExpr-F.Update e i v) (views.outs-Update e i v)
      ∙ (ap₂ (λ p q. if_node (with_both (and_then p elements_of) (and_then q bits_width) (λ (x : Elements) w. and_then (if_alike x.element (node_type v calls bound)) (λ u. Some (ty.Array x.element x.count))))) first second
      ∙ (ap (λ r. if_node (with_both (elements_of a) (bits_width b) (λ (x : Elements) w. and_then (if_alike x.element r) (λ u. Some (ty.Array x.element x.count))))) third ∙ h))

  pub choose_typed : (c y z : CoreExpr) (a b d t : Ty) → node_type c calls bound ≡ Some a → node_type y calls bound ≡ Some b → node_type z calls bound ≡ Some d → if_node (and_then (bits_width a) (λ w. where_true (w == 1) (if_alike b (Some d)))) ≡ Some t → node_type (core.Choose c y z) calls bound ≡ Some t
  choose_typed c y z a b d t first second third h =
      at (core.Choose c y z) (CoreExpr-F.Choose c y z) (views.outs-Choose c y z)
      ∙ (ap₂ (λ p q. if_node (and_then (and_then p bits_width) (λ w. where_true (w == 1) (and_then q (λ u. if_alike u (node_type z calls bound)))))) first second
      ∙ (ap (λ r. if_node (and_then (bits_width a) (λ w. where_true (w == 1) (if_alike b r)))) third ∙ h))

  pub bind_typed : (e : CoreExpr) (shape : Shape) (body : CoreExpr) (a u t : Ty) → node_type e calls bound ≡ Some a → and_then (binds_types true shape a bound) (node_type body calls) ≡ Some u → if_node (Some u) ≡ Some t → node_type (core.Bind e shape body) calls bound ≡ Some t
  bind_typed e shape body a u t first second h =
      at (core.Bind e shape body) (CoreExpr-F.Bind e shape body) (views.outs-Bind e shape body)
      ∙ (ap (λ p. if_node (and_then p (λ x. and_then (binds_types true shape x bound) (node_type body calls)))) first
      ∙ (ap if_node second ∙ h))

  pub select_typed : (e : CoreExpr) (arms : List Arm) (a u t : Ty) → node_type e calls bound ≡ Some a → arms_type (all_fit (shapes_of (map arm_node_type arms)) a) calls bound a (map arm_node_type arms) ≡ Some u → if_node (Some u) ≡ Some t → node_type (core.Select e arms) calls bound ≡ Some t
  select_typed e arms a u t first second h =
      at (core.Select e arms) (CoreExpr-F.Select e arms) (views.outs-Select e arms)
      ∙ (ap (λ p. if_node (and_then p (λ x. arms_type (all_fit (shapes_of (map arm_node_type arms)) x) calls bound x (map arm_node_type arms)))) first
      ∙ (ap if_node second ∙ h))

  pub loop_typed : (n : ℕ) (from : Word) (index acc : Shape) (body start : CoreExpr) (a b u t : Ty) → node_type start calls bound ≡ Some a → is_sound_word from ≡ true
      → and_then (binds_types true index (ty.Bits from.width) bound) (λ inner. and_then (binds_types true acc a inner) (node_type body calls)) ≡ Some b → if_alike a (Some b) ≡ Some u → if_node (Some u) ≡ Some t
      → node_type (core.Loop n from index acc body start) calls bound ≡ Some t
  loop_typed n from index acc body start a b u t first sound turn alike h =
      at (core.Loop n from index acc body start) (CoreExpr-F.Loop n from index acc body start) (views.outs-Loop n from index acc body start)
      ∙ (ap if_node (where_so (is_sound_word from) (and_then (node_type start calls bound) (λ x. and_then (binds_types true index (ty.Bits from.width) bound) (λ inner. and_then (binds_types true acc x inner) (λ both. if_alike x (node_type body calls both))))) sound)
      ∙ (ap (λ p. if_node (and_then p (λ x. and_then (binds_types true index (ty.Bits from.width) bound) (λ inner. and_then (binds_types true acc x inner) (λ both. if_alike x (node_type body calls both)))))) first
      ∙ (ap if_node (turned (binds_types true index (ty.Bits from.width) bound) turn) ∙ h)))
    where
      body_alike : (o : Option (List Ty)) → and_then o (node_type body calls) ≡ Some b → and_then o (λ both. if_alike a (node_type body calls both)) ≡ Some u
      body_alike None h = absurd (cc)
      body_alike (Some both) h = ap (if_alike a) h ∙ alike

      turned : (o : Option (List Ty)) → and_then o (λ inner. and_then (binds_types true acc a inner) (node_type body calls)) ≡ Some b → and_then o (λ inner. and_then (binds_types true acc a inner) (λ both. if_alike a (node_type body calls both))) ≡ Some u
      turned None h = absurd (cc)
      turned (Some inner) h = body_alike (binds_types true acc a inner) h

  pub call_typed : (f : ℕ) (es : List CoreExpr) (ts : List Ty) (t : Ty) → map (λ (q : Typing). q calls bound) (map node_type es) ≡ map Some ts → if_node (calls f ts) ≡ Some t → node_type (core.Call f es) calls bound ≡ Some t
  call_typed f es ts t are h =
      at (core.Call f es) (CoreExpr-F.Call f es) (views.outs-Call f es)
      ∙ (ap (λ o. if_node (and_then o (calls f))) (ap all_some are ∙ all_there ts) ∙ h)

  -- one more expression, and its type
  pub each_more : (xs all : List CoreExpr) (e : CoreExpr) (ts : List Ty) (t : Ty) → all ≡ xs ++ e ∷ [] → map (λ (q : Typing). q calls bound) (map node_type xs) ≡ map Some ts → node_type e calls bound ≡ Some t
      → map (λ (q : Typing). q calls bound) (map node_type all) ≡ map Some (ts ++ t ∷ [])
  each_more xs all e ts t is are h =
      ap (λ es. map (λ (q : Typing). q calls bound) (map node_type es)) is
      ∙ (behind xs ∙ (ap₂ (λ os o. os ++ o ∷ []) are h ∙ sym (some_behind ts)))
    where
      behind : (es : List CoreExpr) → map (λ (q : Typing). q calls bound) (map node_type (es ++ e ∷ [])) ≡ map (λ (q : Typing). q calls bound) (map node_type es) ++ node_type e calls bound ∷ []
      behind [] = refl
      behind (x ∷ es) = ap (λ os. node_type x calls bound ∷ os) (behind es)

      some_behind : (us : List Ty) → map Some (us ++ t ∷ []) ≡ map Some us ++ Some t ∷ []
      some_behind [] = refl
      some_behind (u ∷ us) = ap (λ os. Some u ∷ os) (some_behind us)

-- the same over the same types
pub same_bound : (calls : FunctionTypes) (e : CoreExpr) (bound own : List Ty) (t : Ty) → own ≡ bound → node_type e calls own ≡ Some t → node_type e calls bound ≡ Some t
same_bound calls e bound own t is h = subst (λ ts. node_type e calls ts ≡ Some t) is h
