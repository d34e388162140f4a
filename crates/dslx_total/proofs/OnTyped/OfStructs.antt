-- Struct values have types.
use Rattle.std.proofs.Common.{◌≡◌, ◌||◌, ◌++◌, ℕ, Bool, true, false, if◌then◌else◌, List, [], ◌∷◌, map, length, Option, Some, None, refl, sym, ap, subst, ◌∙◌}
use Rattle.std.specs.Prelude.{slice_get}
use Rattle.std.specs.List.{list_all}
use Rattle.xb_span.specs.declared.span.Span.{Span}
use Rattle.xb_value.specs.declared.ty.Ty.{Ty}
use Rattle.xb_value.specs.declared.ty.Ty as plain
use Rattle.dslx_tree.specs.declared.ident.Ident.{Ident}
use Rattle.dslx_tree.specs.declared.item.Struct.{Struct}
use Rattle.dslx_meaning.specs.Environment.{Env}
use Rattle.dslx_meaning.specs.Items.{as_struct, item_named, name_of_field}
use Rattle.dslx_meaning.specs.Lists.{and_then, is_in, where_true}
use Rattle.dslx_meaning.specs.Types.{plain_type}
use Rattle.dslx_meaning.specs.declared.ty.DslxType.{DslxType, out-DslxType}
use Rattle.dslx_meaning.specs.declared.ty.DslxType as ty
use Rattle.dslx_meaning.specs.declared.ty.DslxType.TheOpen.{DslxType-F}
use Rattle.dslx_meaning.specs.Rules.AggregateRules.{field_typing, has_twice, lacks_one, others_typing, struct_if, struct_typing, unknown_fields, wanted_faults, when_all, written_fields}
use Rattle.dslx_meaning.specs.Rules.PatternRules.{is_there}
use Rattle.dslx_meaning.specs.Rules.TypeEnvs.{ExprPair, Instance, TypeEnv, alone, breaks, breaks_if, faults_of_all, one_and, plus_size, reached_of_all, size_of_all, span_of, types_of, within}
use Rattle.dslx_meaning.specs.Rules.Typings.{FieldSeen}
use Rattle.dslx_core.proofs.Lemmas.Lowering.{from_both, from_then, from_where}
use Rattle.dslx_core.proofs.Lemmas.Typing.Sound.{all_in, alone_well_typed, none_in, none_in_three, settled_well_typed, some_fault}
use Rattle.dslx_core.proofs.Lemmas.Typing.Typed.{none_some, same_some}
use Rattle.dslx_core.specs.declared.expr.CoreExpr as core
use Rattle.dslx_core.specs.declared.expr.Shape as shape
use Rattle.dslx_core.specs.Lowering.CoreScopes.{CoreScope, with_unnamed}
use Rattle.dslx_core.specs.Lowering.EqualTypes.{equal_type}
use Rattle.dslx_core.specs.Lowering.Lowering.{LoweredExpr, cores_of, lower_field, lowered, types_of_lowered}
use Rattle.dslx_core.specs.Lowering.Patterns.{ExprLowering}
use Rattle.dslx_core.specs.Lowering.Trees.{FieldLowering, LoweredPair, field_or_other, lower_fields, lower_struct_in, names_written, of_type, others_of, struct_fields, value_written, with_others, without_others}
use Rattle.dslx_core.specs.Typing.Typed.Complete.{IsWellTypedPart}
use Rattle.dslx_core.specs.Typing.Typed.WellTyped.{IsWellTypedEnv}
use Rattle.dslx_core.specs.Types.Typing.{FunctionTypes, Typing, binds_types, core_type}
use Rattle.dslx_core.proofs.Lemmas.Types.{binds_bound, type_bind, type_slot}
use Rattle.dslx_total.specs.Expressions.Beside.{ScopeMatchesEnv}
use Rattle.dslx_total.specs.Expressions.ExprLowering.{IsClean, reaching}
use Rattle.dslx_total.specs.Typed.Scopes.{IsTypedExpr, TypedIfThere, TypedScope, is_sound_type}
use Rattle.dslx_total.specs.Typed.Claims.{PartIsTyped}
use Rattle.dslx_total.proofs.OnTyped.OnConstructs.{field_typed, tuple_core}
use Rattle.dslx_total.proofs.OnTyped.OnOneType.{one_by_test}
use Rattle.dslx_total.proofs.OnTyped.OnOptions.{AllTyped, then_typed, typed_there}
use Rattle.dslx_total.proofs.OnTyped.OnParts.{ExprTyped}
use Rattle.dslx_total.proofs.OnTyped.OnScopes.{get_last, unnamed_typed}
use Rattle.dslx_total.proofs.OnTyped.OnTypes.{plain_struct, sound_struct}

-- a field that is written
pub record FieldTyped (f : FieldSeen) (w : FieldLowering) : Type 0 where
  pub typed : (here : Instance → Bool) (context : TypeEnv) (struct : Option DslxType) (env : Env) (scope : CoreScope) (fs : FunctionTypes) (ts : List Ty) → IsWellTypedEnv context env → ScopeMatchesEnv here context scope → TypedScope fs ts scope
      → IsWellTypedPart (reaching context.known here) (field_typing context struct f) → TypedIfThere fs ts (w.value scope)

abbrev pub EachFieldTyped : List FieldSeen → List FieldLowering → Type 0
EachFieldTyped [] [] = Unit {0}
EachFieldTyped (f ∷ fs) (w ∷ ws) = FieldTyped f w × EachFieldTyped fs ws
EachFieldTyped [] (w ∷ ws) = ⊥
EachFieldTyped (f ∷ fs) [] = ⊥

abbrev pub ExprTypedIf : Option ExprPair → Option LoweredPair → Type 0
ExprTypedIf None None = Unit {0}
ExprTypedIf (Some e) (Some x) = ExprTyped e x.1
ExprTypedIf None (Some x) = ⊥
ExprTypedIf (Some e) None = ⊥

-- ---- fields over what they are lowered to

abbrev EachWritten : FunctionTypes → List Ty → CoreScope → List FieldLowering → Type 0
EachWritten fs ts scope [] = Unit {0}
EachWritten fs ts scope (w ∷ ws) = TypedIfThere fs ts (w.value scope) × EachWritten fs ts scope ws

module _ (fs : FunctionTypes) (ts : List Ty) where
  written_typed : (scope : CoreScope) (name : List ℕ) (ws : List FieldLowering) (v : ExprLowering) → EachWritten fs ts scope ws → value_written name ws ≡ Some v → TypedIfThere fs ts (v scope)
  written_typed scope name [] v h e = none_some v e
  written_typed scope name (w ∷ ws) v h e = by (is_in name (w.name ∷ [])) e (λ later. written_typed scope name ws v h.1 later)
    where
      by : (b : Bool) → (if b then Some w.value else value_written name ws) ≡ Some v → (value_written name ws ≡ Some v → TypedIfThere fs ts (v scope)) → TypedIfThere fs ts (v scope)
      by true q rest = subst (λ (v : ExprLowering). TypedIfThere fs ts (v scope)) (same_some w.value v q) h.0
      by false q rest = rest q

  field_if : (o : Option LoweredExpr) (name : List ℕ) → TypedIfThere fs ts o → TypedIfThere fs ts (lower_field o name)
  field_if None name h = tt
  field_if (Some e) name h = field_typed fs ts e name h

  other_typed : (scope : CoreScope) (others : Option LoweredExpr) (name : List ℕ) (o : Option ExprLowering) → TypedIfThere fs ts others → ((v : ExprLowering) → o ≡ Some v → TypedIfThere fs ts (v scope)) → TypedIfThere fs ts (field_or_other scope others name o)
  other_typed scope others name None h k = field_if others name h
  other_typed scope others name (Some v) h k = k v refl

  of_this : (t : DslxType) (o : Option LoweredExpr) (e : LoweredExpr) → TypedIfThere fs ts o → of_type t o ≡ Some e → IsTypedExpr fs ts e × (e.ty ≡ t)
  of_this t o e h is =
      let a = from_then o (λ e. where_true (equal_type t e.ty) (Some e)) e is in
      let b = from_where (equal_type t a.0.ty) (Some a.0) e a.2 in
      let same = same_some a.0 e b.1 in
      (subst (IsTypedExpr fs ts) same (typed_there fs ts o a.0 h a.1), sym (one_by_test t e.ty (ap (λ (c : LoweredExpr). equal_type t c.ty) (sym same) ∙ b.0)))

  fields_typed : (scope : CoreScope) (ws : List FieldLowering) (others : Option LoweredExpr) (ns : List (List ℕ)) (us : List DslxType) (es : List LoweredExpr) → EachWritten fs ts scope ws → TypedIfThere fs ts others
      → lower_fields scope ws others ns us ≡ Some es → AllTyped fs ts es × (types_of_lowered es ≡ us)
  fields_typed scope ws others [] [] es h k e = subst (λ es. AllTyped fs ts es × (types_of_lowered es ≡ [])) (same_some [] es e) (tt, refl)
  fields_typed scope ws others [] (u ∷ us) es h k e = none_some es e
  fields_typed scope ws others (n ∷ ns) [] es h k e = none_some es e
  fields_typed scope ws others (n ∷ ns) (u ∷ us) es h k e =
      let a = from_both (of_type u (field_or_other scope others n (value_written n ws))) (lower_fields scope ws others ns us) (λ e es. Some (e ∷ es)) es e in
      let one = of_this u (field_or_other scope others n (value_written n ws)) a.0 (other_typed scope others n (value_written n ws) k (λ v q. written_typed scope n ws v h q)) a.2 in
      let rest = fields_typed scope ws others ns us a.1 h k a.3 in
      subst (λ es. AllTyped fs ts es × (types_of_lowered es ≡ u ∷ us)) (same_some (a.0 ∷ a.1) es a.4) ((one.0, rest.0), λ i. one.1 i ∷ rest.1 i)

  struct_core : (own : List ℕ) (names : List (List ℕ)) (us : List DslxType) (es : List LoweredExpr) → AllTyped fs ts es × (types_of_lowered es ≡ us) → IsTypedExpr fs ts (record { core = core.Tuple (cores_of es); ty = ty.Struct own names us })
  struct_core own names us es h =
      tuple_core fs ts es (ty.Struct own names us) h.0
      (subst (λ vs. plain_type (ty.Struct own names us) ≡ plain.Tuple (map plain_type vs)) (sym h.1) (plain_struct own names us))
      (subst (λ vs. is_sound_type (ty.Struct own names us) ≡ list_all (λ b. b) (map is_sound_type vs)) (sym h.1) (sound_struct own names us))

  without_typed : (scope : CoreScope) (ws : List FieldLowering) (own : List ℕ) (names : List (List ℕ)) (us : List DslxType) → EachWritten fs ts scope ws → TypedIfThere fs ts (without_others scope ws (ty.Struct own names us) names us)
  without_typed scope ws own names us h =
      then_typed fs ts (lower_fields scope ws None names us) (λ es. lowered (core.Tuple (cores_of es)) (ty.Struct own names us))
      (λ es q. struct_core own names us es (fields_typed scope ws None names us es h tt q))

-- where another value of the struct gives the others
within_typed : (fs : FunctionTypes) (ts : List Ty) (scope : CoreScope) (e : LoweredExpr) (ws : List FieldLowering) (own : List ℕ) (names : List (List ℕ)) (us : List DslxType) → IsTypedExpr fs ts e → length ts ≡ scope.count
    → EachWritten fs (ts ++ plain_type e.ty ∷ []) (with_unnamed scope) ws → TypedIfThere fs ts (with_others scope e ws (ty.Struct own names us) names us)
within_typed fs ts scope e ws own names us he at h =
    then_typed fs ts (lower_fields (with_unnamed scope) ws (lowered (core.Slot scope.count) e.ty) names us) (λ es. lowered (core.Bind e.core shape.Bound (core.Tuple (cores_of es))) (ty.Struct own names us))
    (λ es q.
    let all = ts ++ plain_type e.ty ∷ [] in
    let slot : IsTypedExpr fs all (record { core = core.Slot scope.count; ty = e.ty }) =
    record { core = ap (λ (q : Typing). q fs all) (type_slot scope.count) ∙ ap (slice_get all) (sym at) ∙ get_last ts (plain_type e.ty); sound = he.sound } in
    let body = struct_core fs all own names us es (fields_typed fs all (with_unnamed scope) ws (lowered (core.Slot scope.count) e.ty) names us es h slot q) in
    record {
      core = ap (λ (q : Typing). q fs ts) (type_bind e.core shape.Bound (core.Tuple (cores_of es)))
          ∙ ap (λ o. and_then o (λ t. and_then (binds_types true shape.Bound t ts) (core_type (core.Tuple (cores_of es)) fs))) he.core
          ∙ ap (λ q. and_then (q (plain_type e.ty) ts) (core_type (core.Tuple (cores_of es)) fs)) (binds_bound true)
          ∙ body.core;
      sound = body.sound;
    })

-- ---- struct values

unnamed_beside : (here : Instance → Bool) (context : TypeEnv) (scope : CoreScope) → ScopeMatchesEnv here context scope → ScopeMatchesEnv here context (with_unnamed scope)
unnamed_beside here context scope at = record { items = at.items; parametric_args = at.parametric_args; locals = at.locals; sound = at.sound; calls = at.calls; widths = at.widths; constants = at.constants }

all_written : (here : Instance → Bool) (context : TypeEnv) (struct : Option DslxType) (env : Env) (scope : CoreScope) (fs : FunctionTypes) (ts : List Ty) → IsWellTypedEnv context env → ScopeMatchesEnv here context scope → TypedScope fs ts scope
    → (gs : List FieldSeen) (ws : List FieldLowering) → EachFieldTyped gs ws → faults_of_all (map (field_typing context struct) gs) ≡ [] → list_all here (reached_of_all (map (field_typing context struct) gs)) ≡ true → EachWritten fs ts scope ws
all_written here context struct env scope fs ts h at scoped [] [] k f r = tt
all_written here context struct env scope fs ts h at scoped [] (w ∷ ws) k f r = absurd k
all_written here context struct env scope fs ts h at scoped (g ∷ gs) [] k f r = absurd k
all_written here context struct env scope fs ts h at scoped (g ∷ gs) (w ∷ ws) k f r =
    let j = field_typing context struct g in
    let p = none_in j.faults (faults_of_all (map (field_typing context struct) gs)) f in
    let q = all_in here j.reached (reached_of_all (map (field_typing context struct) gs)) r in
    (k.0.typed here context struct env scope fs ts h at scoped (record { faults = p.0; reached = q.0 }), all_written here context struct env scope fs ts h at scoped gs ws k.1 p.1 q.1)

fields_are_typed : (here : Instance → Bool) (context : TypeEnv) (struct : Option DslxType) (env : Env) (scope : CoreScope) (fs : FunctionTypes) (ts : List Ty) → IsWellTypedEnv context env → ScopeMatchesEnv here context scope → TypedScope fs ts scope
    → (gs : List FieldSeen) (ws : List FieldLowering) (others : Option ExprPair) (rest : Option LoweredPair) → EachFieldTyped gs ws → ExprTypedIf others rest
    → faults_of_all (map (field_typing context struct) gs) ≡ [] → list_all here (reached_of_all (map (field_typing context struct) gs)) ≡ true
    → IsClean here (others_typing context struct others).faults (others_typing context struct others).reached
    → (l : DslxType-F DslxType) → TypedIfThere fs ts (lower_struct_in scope ws (others_of rest) l)
fields_are_typed here context struct env scope fs ts h at scoped gs ws others rest kf ko f r clean (DslxType-F.Struct own names us) = by_others others rest ko clean
  where
    without : TypedIfThere fs ts (without_others scope ws (ty.Struct own names us) names us)
    without = without_typed fs ts scope ws own names us (all_written here context struct env scope fs ts h at scoped gs ws kf f r)

    by_all : (l : ExprLowering) → TypedIfThere fs ts (l scope) → (b : Bool) → TypedIfThere fs ts (if b then without_others scope ws (ty.Struct own names us) names us else and_then (l scope) (λ e. with_others scope e ws (ty.Struct own names us) names us))
    by_all l k true = without
    by_all l k false =
        then_typed fs ts (l scope) (λ e. with_others scope e ws (ty.Struct own names us) names us)
        (λ e q. within_typed fs ts scope e ws own names us (typed_there fs ts (l scope) e k q) scoped.count
        (all_written here context struct env (with_unnamed scope) fs (ts ++ plain_type e.ty ∷ []) h (unnamed_beside here context scope at) (unnamed_typed fs ts scope (plain_type e.ty) scoped) gs ws kf f r))

    by_others : (others : Option ExprPair) (rest : Option LoweredPair) → ExprTypedIf others rest → IsClean here (others_typing context struct others).faults (others_typing context struct others).reached
        → TypedIfThere fs ts (struct_fields scope ws (others_of rest) (ty.Struct own names us) names us)
    by_others None None k clean = without
    by_others None (Some x) k clean = absurd k
    by_others (Some e) None k clean = absurd k
    by_others (Some e) (Some x) k clean =
        let a = alone context e in
        let p = none_in a.faults (wanted_faults (span_of e) struct a.ty) clean.faults in
        by_all x.1 (k.typed here context env scope fs ts h at scoped (alone_well_typed (reaching context.known here) (span_of e) (within context e) (record { faults = p.0; reached = clean.reached })).well_typed)
        (list_all (λ field. is_in field (names_written ws)) names)
fields_are_typed here context struct env scope fs ts h at scoped gs ws others rest kf ko f r clean (DslxType-F.Bits s w) = tt
fields_are_typed here context struct env scope fs ts h at scoped gs ws others rest kf ko f r clean (DslxType-F.Tuple us) = tt
fields_are_typed here context struct env scope fs ts h at scoped gs ws others rest kf ko f r clean (DslxType-F.Array v n) = tt
fields_are_typed here context struct env scope fs ts h at scoped gs ws others rest kf ko f r clean (DslxType-F.Enum name s w) = tt
fields_are_typed here context struct env scope fs ts h at scoped gs ws others rest kf ko f r clean DslxType-F.Token = tt

pub typed_struct : (span : Span) (name : Ident) (fields : List FieldSeen) (ws : List FieldLowering) (others : Option ExprPair) (rest : Option LoweredPair) → EachFieldTyped fields ws → ExprTypedIf others rest
    → PartIsTyped (λ context. struct_typing span context name fields others) (λ scope. and_then (scope.known.items.struct_named name.name) (λ t. lower_struct_in scope ws (others_of rest) (out-DslxType t)))
typed_struct span name fields ws others rest kf ko here context env scope fs ts h at scoped well_typed = by_struct (as_struct (item_named name.name context.known.whole.items)) well_typed
  where
    by_struct : (o : Option Struct) → IsWellTypedPart (reaching context.known here) (struct_if span context name fields others o)
        → TypedIfThere fs ts (and_then (scope.known.items.struct_named name.name) (λ t. lower_struct_in scope ws (others_of rest) (out-DslxType t)))
    by_struct None f = some_fault (breaks 1 name.span) _ f.faults
    by_struct (Some declared) f =
        let own = context.known.items.struct_named name.name in
        let js = map (field_typing context own) fields in
        let other = others_typing context own others in
        let names = map name_of_field declared.fields in
        let cyclic = breaks_if (context.known.is_cyclic context.owner name.name) 3 name.span in
        let wrong = breaks_if (has_twice (written_fields fields) || lacks_one names (written_fields fields) (is_there others)) 22 span in
        let s = settled_well_typed (reaching context.known here) span (when_all (other.ty ∷ types_of js) own) ((((cyclic ++ faults_of_all js) ++ other.faults) ++ unknown_fields names fields) ++ wrong) (reached_of_all js ++ other.reached)
        (one_and (plus_size (size_of_all js) other.size)) f in
        let p = none_in_three ((cyclic ++ faults_of_all js) ++ other.faults) (unknown_fields names fields) wrong s.faults in
        let q = none_in_three cyclic (faults_of_all js) other.faults p.0 in
        let r = all_in here (reached_of_all js) other.reached s.reached in
        then_typed fs ts (scope.known.items.struct_named name.name) (λ t. lower_struct_in scope ws (others_of rest) (out-DslxType t))
        (λ t k. fields_are_typed here context own env scope fs ts h at scoped fields ws others rest kf ko q.1 r.0 (record { faults = q.2; reached = r.1 }) (out-DslxType t))
