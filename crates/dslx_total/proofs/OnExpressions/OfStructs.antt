-- Struct values become something.
use Rattle.std.proofs.Common.{◌≡◌, ◌&&◌, ◌||◌, ◌++◌, ℕ, Bool, true, false, not, if◌then◌else◌, List, [], ◌∷◌, map, Option, Some, None, refl, sym, ap, subst, ◌∙◌}
use mathlib.Core.Bool.{true≢false}
use Rattle.std.specs.List.{list_all, list_any}
use Rattle.std.specs.Str.{bytes_eq}
use Rattle.std.proofs.lemmas.Slice.Eq.{bytes_eq-Decides}
use Rattle.xb_span.specs.declared.span.Span.{Span}
use Rattle.xb_span.specs.declared.fault.Fault.{Fault}
use Rattle.dslx_tree.specs.declared.ident.Ident.{Ident}
use Rattle.dslx_tree.specs.declared.item.Struct.{Struct}
use Rattle.dslx_meaning.specs.Lists.{and_then, is_in, where_true, with_both}
use Rattle.dslx_meaning.specs.Types.{same_type}
use Rattle.dslx_meaning.specs.Environment.{Env, Meanings}
use Rattle.dslx_meaning.specs.Items.{as_struct, item_named, name_of_field}
use Rattle.dslx_meaning.specs.declared.ty.DslxType.{DslxType, out-DslxType}
use Rattle.dslx_meaning.specs.declared.ty.DslxType as ty
use Rattle.dslx_meaning.specs.declared.ty.DslxType.TheViews as views
use Rattle.dslx_meaning.specs.Rules.AggregateRules.{field_typing, field_type, has_twice, lacks_one, others_typing, struct_field_type, struct_if, struct_typing, struct_with, unknown_fields, wanted_faults, when_all, written_fields}
use Rattle.dslx_meaning.specs.Rules.TypeEnvs.{ExprPair, Instance, Judgement, TypeEnv, alone, breaks, breaks_if, faults_of_all, no_token, one_and, plus_size, reached_of_all, size_of_all, span_of, types_of}
use Rattle.dslx_meaning.specs.Rules.Typings.{FieldSeen}
use Rattle.dslx_meaning.specs.Rules.NameRules.{name_typing}
use Rattle.dslx_meaning.specs.Rules.PatternRules.{is_there}
use Rattle.dslx_core.proofs.Lemmas.Typing.Laws.{and_true}
use Rattle.dslx_core.specs.Typing.Typed.Complete.{IsWellTypedPart, IsStructKnown}
use Rattle.dslx_core.specs.Typing.Typed.Declared.{AllDeclared, IsDeclared}
use Rattle.dslx_core.specs.Typing.Typed.Given.{OwnTypes}
use Rattle.dslx_core.specs.Typing.Typed.WellTyped.{IsWellTypedEnv, types_at}
use Rattle.dslx_core.proofs.Lemmas.Typing.Typed.{all_are, not_false, one_of_text, or_false, struct_declared}
use Rattle.dslx_core.proofs.Lemmas.Typing.Sound.{all_in, none_in, none_in_three, not_broken, passed, settled_well_typed, some_fault}
use Rattle.dslx_core.specs.declared.expr.CoreExpr as core
use Rattle.dslx_core.specs.declared.expr.Shape as shape
use Rattle.dslx_core.specs.Lowering.CoreScopes.{CoreScope, with_unnamed}
use Rattle.dslx_core.specs.Lowering.EqualTypes.{equal_type}
use Rattle.dslx_core.specs.Lowering.Lowering.{LoweredExpr, cores_of, lower_field, lowered}
use Rattle.dslx_core.specs.Lowering.Patterns.{ExprLowering}
use Rattle.dslx_core.specs.Lowering.Trees.{LoweredPair, FieldLowering, field_or_other, lower_fields, names_written, of_type, others_of, struct_fields, lower_struct_in, value_written, with_others, without_others}
use Rattle.dslx_total.specs.Expressions.Beside.{ScopeMatchesEnv}
use Rattle.dslx_total.specs.Expressions.ExprLowering.{ExprLowers, IsClean, PartLowers, reaching, type_of_lowered}
use Rattle.dslx_total.proofs.OnExpressions.Equal.{equal_itself, equal_of_text}
use Rattle.dslx_total.proofs.OnExpressions.OfOperations.{field_typed}
use Rattle.dslx_total.proofs.OnExpressions.Parts.{LowersTo, alone_lowers_to, typed_there}

-- ---- fields that are written

pub record FieldLowers (f : FieldSeen) (w : FieldLowering) : Type 0 where
  pub name : f.name.name ≡ w.name
  pub lowers : (here : Instance → Bool) (context : TypeEnv) (struct : Option DslxType) (env : Env) (scope : CoreScope) → IsWellTypedEnv context env → ScopeMatchesEnv here context scope
      → IsWellTypedPart (reaching context.known here) (field_typing context struct f) → LowersTo (types_at context) (field_typing context struct f) (w.value scope)

abbrev pub EachFieldLowers : List FieldSeen → List FieldLowering → Type 0
EachFieldLowers [] [] = Unit {0}
EachFieldLowers (f ∷ fs) (w ∷ ws) = FieldLowers f w × EachFieldLowers fs ws
EachFieldLowers [] (w ∷ ws) = ⊥
EachFieldLowers (f ∷ fs) [] = ⊥

-- a field, by whether an expression is written
abbrev field_by : TypeEnv → Option DslxType → FieldSeen → Option ExprPair → Judgement
field_by context struct f None = let j = no_token f.name.span (name_typing f.name.span context f.name.name) in record j { faults = j.faults ++ wanted_faults f.name.span (field_type struct f.name.name) j.ty }
field_by context struct f (Some e) = let j = alone context e in record j { faults = j.faults ++ wanted_faults (span_of e) (field_type struct f.name.name) j.ty }

-- the faults of a field have that of another type than the struct's
wanted_in : (context : TypeEnv) (struct : Option DslxType) (f : FieldSeen) → (field_typing context struct f).faults ≡ [] → (span : Span) × (wanted_faults span (field_type struct f.name.name) (field_typing context struct f).ty ≡ [])
wanted_in context struct f e = by_value f.value e
  where
    by_value : (o : Option ExprPair) → (field_by context struct f o).faults ≡ [] → (span : Span) × (wanted_faults span (field_type struct f.name.name) (field_by context struct f o).ty ≡ [])
    by_value None q =
        let j = no_token f.name.span (name_typing f.name.span context f.name.name) in
        (f.name.span, (none_in j.faults (wanted_faults f.name.span (field_type struct f.name.name) j.ty) q).1)
    by_value (Some x) q = (span_of x, (none_in (alone context x).faults (wanted_faults (span_of x) (field_type struct f.name.name) (alone context x).ty) q).1)

names_same : (fs : List FieldSeen) (ws : List FieldLowering) → EachFieldLowers fs ws → names_written ws ≡ written_fields fs
names_same [] [] k = refl
names_same [] (w ∷ ws) k = absurd k
names_same (f ∷ fs) [] k = absurd k
names_same (f ∷ fs) (w ∷ ws) k = λ i. sym k.0.name i ∷ names_same fs ws k.1 i

-- a field is written, with a value of its type, or it isn't
data FieldFound (scope : CoreScope) (name : List ℕ) (t : DslxType) (fs : List FieldSeen) (ws : List FieldLowering) : Type 0 where
  IsWritten : (v : ExprLowering) (e : LoweredExpr) → value_written name ws ≡ Some v → v scope ≡ Some e → equal_type t e.ty ≡ true → FieldFound scope name t fs ws
  IsUnwritten : value_written name ws ≡ None → is_in name (written_fields fs) ≡ false → FieldFound scope name t fs ws

module _ (here : Instance → Bool) (context : TypeEnv) (env : Env) (scope : CoreScope) (h : IsWellTypedEnv context env) (at : ScopeMatchesEnv here context scope) (S : DslxType) where
  field_found : (name : List ℕ) (t : DslxType) → field_type (Some S) name ≡ Some t → IsDeclared (types_at context) t → (fs : List FieldSeen) (ws : List FieldLowering) → EachFieldLowers fs ws
      → faults_of_all (map (field_typing context (Some S)) fs) ≡ [] → list_all here (reached_of_all (map (field_typing context (Some S)) fs)) ≡ true → FieldFound scope name t fs ws
  field_found name t e d [] [] k f r = IsUnwritten refl refl
  field_found name t e d [] (w ∷ ws) k f r = absurd k
  field_found name t e d (g ∷ gs) [] k f r = absurd k
  field_found name t e d (g ∷ gs) (w ∷ ws) k f r = by_name (bytes_eq name w.name) refl (field_found name t e d gs ws k.1 p.1 q.1)
    where
      j : Judgement
      j = field_typing context (Some S) g

      p : (j.faults ≡ []) × (faults_of_all (map (field_typing context (Some S)) gs) ≡ [])
      p = none_in j.faults (faults_of_all (map (field_typing context (Some S)) gs)) f

      q : (list_all here j.reached ≡ true) × (list_all here (reached_of_all (map (field_typing context (Some S)) gs)) ≡ true)
      q = all_in here j.reached (reached_of_all (map (field_typing context (Some S)) gs)) r

      by_name : (b : Bool) → bytes_eq name w.name ≡ b → FieldFound scope name t gs ws → FieldFound scope name t (g ∷ gs) (w ∷ ws)
      by_name true is rest =
          let v = k.0.lowers here context (Some S) env scope h at (record { faults = p.0; reached = q.0 }) in
          let same = wanted_in context (Some S) g p.0 in
          let own : field_type (Some S) g.name.name ≡ Some t = ap (field_type (Some S)) (k.0.name ∙ sym ((bytes_eq-Decides name w.name).0 is)) ∙ e in
          let like = passed (same_type t v.expr.ty) 9 same.0 ((λ i. wanted_faults same.0 (sym own i) (sym v.typed i)) ∙ same.1) in
          IsWritten w.value v.expr (ap (λ b. if (if b then true else false) then Some w.value else value_written name ws) is) v.is (equal_of_text (types_at context) t v.expr.ty like d v.declared)
      by_name false is (IsWritten v e' s u eq) = IsWritten v e' (ap (λ b. if (if b then true else false) then Some w.value else value_written name ws) is ∙ s) u eq
      by_name false is (IsUnwritten s u) =
          IsUnwritten (ap (λ b. if (if b then true else false) then Some w.value else value_written name ws) is ∙ s)
          (ap (λ n. is_in name (n ∷ written_fields gs)) k.0.name ∙ ap (λ b. if b then true else is_in name (written_fields gs)) is ∙ u)

  -- all that are written have types
  fields_typed : (fs : List FieldSeen) (ws : List FieldLowering) → EachFieldLowers fs ws → faults_of_all (map (field_typing context (Some S)) fs) ≡ []
      → list_all here (reached_of_all (map (field_typing context (Some S)) fs)) ≡ true → (ts : List DslxType) × (types_of (map (field_typing context (Some S)) fs) ≡ map Some ts)
  fields_typed [] [] k f r = ([], refl)
  fields_typed [] (w ∷ ws) k f r = absurd k
  fields_typed (g ∷ gs) [] k f r = absurd k
  fields_typed (g ∷ gs) (w ∷ ws) k f r =
      let j = field_typing context (Some S) g in
      let p = none_in j.faults (faults_of_all (map (field_typing context (Some S)) gs)) f in
      let q = all_in here j.reached (reached_of_all (map (field_typing context (Some S)) gs)) r in
      let v = k.0.lowers here context (Some S) env scope h at (record { faults = p.0; reached = q.0 }) in
      let more = fields_typed gs ws k.1 p.1 q.1 in
      (v.expr.ty ∷ more.0, λ i. v.typed i ∷ more.1 i)

-- ---- all fields of a struct

-- a field of what gives the others is of its type
abbrev OtherGives : Option LoweredExpr → List ℕ → DslxType → Type 0
OtherGives others name t = (e : LoweredExpr) × (lower_field others name ≡ Some e) × (equal_type t e.ty ≡ true)

-- each field that isn't written has its value from there
abbrev EachOther : Option LoweredExpr → List FieldSeen → List (List ℕ) → List DslxType → Type 0
EachOther others fs [] [] = Unit {0}
EachOther others fs (n ∷ ns) (t ∷ ts) = (is_in n (written_fields fs) ≡ false → OtherGives others n t) × EachOther others fs ns ts
EachOther others fs [] (t ∷ ts) = ⊥
EachOther others fs (n ∷ ns) [] = ⊥

-- each field is found among those that are written, or not
abbrev EachFound : CoreScope → List FieldSeen → List FieldLowering → List (List ℕ) → List DslxType → Type 0
EachFound scope fs ws [] [] = Unit {0}
EachFound scope fs ws (n ∷ ns) (t ∷ ts) = FieldFound scope n t fs ws × EachFound scope fs ws ns ts
EachFound scope fs ws [] (t ∷ ts) = ⊥
EachFound scope fs ws (n ∷ ns) [] = ⊥

fields_there : (scope : CoreScope) (fs : List FieldSeen) (ws : List FieldLowering) (others : Option LoweredExpr) (ns : List (List ℕ)) (ts : List DslxType)
    → EachFound scope fs ws ns ts → EachOther others fs ns ts → (es : List LoweredExpr) × (lower_fields scope ws others ns ts ≡ Some es)
fields_there scope fs ws others [] [] k o = ([], refl)
fields_there scope fs ws others [] (t ∷ ts) k o = absurd k
fields_there scope fs ws others (n ∷ ns) [] k o = absurd k
fields_there scope fs ws others (n ∷ ns) (t ∷ ts) k o =
    let first = one k.0 in
    let rest = fields_there scope fs ws others ns ts k.1 o.1 in
    (first.0 ∷ rest.0, λ i. with_both (first.1 i) (rest.1 i) (λ e es. Some (e ∷ es)))
  where
    one : FieldFound scope n t fs ws → (e : LoweredExpr) × (of_type t (field_or_other scope others n (value_written n ws)) ≡ Some e)
    one (IsWritten v e s u same) = (e, ap (λ w. of_type t (field_or_other scope others n w)) s ∙ ap (of_type t) u ∙ ap (λ b. where_true b (Some e)) same)
    one (IsUnwritten s u) = let g = o.0 u in (g.0, ap (λ w. of_type t (field_or_other scope others n w)) s ∙ ap (of_type t) g.1 ∙ ap (λ b. where_true b (Some g.0)) g.2)

-- where all are written
all_written : (fs : List FieldSeen) (others : Option LoweredExpr) (names : List (List ℕ)) (types : List DslxType) (ns : List (List ℕ)) (ts : List DslxType) → OwnTypes names types ns ts → list_all (λ n. is_in n (written_fields fs)) ns ≡ true → EachOther others fs ns ts
all_written fs others names types [] [] k e = tt
all_written fs others names types [] (t ∷ ts) k e = absurd k
all_written fs others names types (n ∷ ns) [] k e = absurd k
all_written fs others names types (n ∷ ns) (t ∷ ts) k e =
    let q = and_true (is_in n (written_fields fs)) (list_all (λ n. is_in n (written_fields fs)) ns) e in
    ((λ u. absurd (true≢false (sym q.0 ∙ u))), all_written fs others names types ns ts k.1 q.1)

none_lacks : (written ns : List (List ℕ)) → list_any (λ n. not (is_in n written)) ns ≡ false → list_all (λ n. is_in n written) ns ≡ true
none_lacks written [] e = refl
none_lacks written (n ∷ ns) e =
    let q = or_false (not (is_in n written)) (list_any (λ n. not (is_in n written)) ns) e in
    λ i. not_false (is_in n written) q.0 i && none_lacks written ns q.1 i

-- where another value of the struct gives the others
others_give : (fs : List FieldSeen) (o : Option LoweredExpr) (e : LoweredExpr) (own : List ℕ) (names : List (List ℕ)) (types : List DslxType) → o ≡ Some e → e.ty ≡ ty.Struct own names types
    → (ns : List (List ℕ)) (ts : List DslxType) → OwnTypes names types ns ts → EachOther o fs ns ts
others_give fs o e own names types is typed [] [] k = tt
others_give fs o e own names types is typed [] (t ∷ ts) k = absurd k
others_give fs o e own names types is typed (n ∷ ns) [] k = absurd k
others_give fs o e own names types is typed (n ∷ ns) (t ∷ ts) k =
    let field = ap (λ u. field_type (Some u) n) typed ∙ ap (λ l. struct_field_type l n) (views.outs-Struct own names types) ∙ k.0 in
    let g = typed_there (lower_field o n) t (field_typed o e t n is field) in
    ((λ u. (g.0, g.1, ap (equal_type t) g.2 ∙ equal_itself t)), others_give fs o e own names types is typed ns ts k.1)

each_found : (here : Instance → Bool) (context : TypeEnv) (env : Env) (scope : CoreScope) → IsWellTypedEnv context env → ScopeMatchesEnv here context scope → (own : List ℕ) (names : List (List ℕ)) (types : List DslxType)
    → (fs : List FieldSeen) (ws : List FieldLowering) → EachFieldLowers fs ws → faults_of_all (map (field_typing context (Some (ty.Struct own names types))) fs) ≡ []
    → list_all here (reached_of_all (map (field_typing context (Some (ty.Struct own names types))) fs)) ≡ true
    → (ns : List (List ℕ)) (ts : List DslxType) → OwnTypes names types ns ts → AllDeclared (types_at context) ts → EachFound scope fs ws ns ts
each_found here context env scope h at own names types fs ws k f r [] [] o d = tt
each_found here context env scope h at own names types fs ws k f r [] (t ∷ ts) o d = absurd o
each_found here context env scope h at own names types fs ws k f r (n ∷ ns) [] o d = absurd o
each_found here context env scope h at own names types fs ws k f r (n ∷ ns) (t ∷ ts) o d = (
  field_found here context env scope h at (ty.Struct own names types) n t (ap (λ l. struct_field_type l n) (views.outs-Struct own names types) ∙ o.0) d.0 fs ws k f r,
  each_found here context env scope h at own names types fs ws k f r ns ts o.1 d.1,
)

-- ---- struct values

abbrev pub ExprLowersIf : Option ExprPair → Option LoweredPair → Type 0
ExprLowersIf None None = Unit {0}
ExprLowersIf (Some e) (Some x) = ExprLowers e x.1
ExprLowersIf None (Some x) = ⊥
ExprLowersIf (Some e) None = ⊥

-- the scope where the value that gives the others is bound
unnamed_beside : (here : Instance → Bool) (context : TypeEnv) (scope : CoreScope) → ScopeMatchesEnv here context scope → ScopeMatchesEnv here context (with_unnamed scope)
unnamed_beside here context scope at = record { items = at.items; parametric_args = at.parametric_args; locals = at.locals; sound = at.sound; calls = at.calls; widths = at.widths; constants = at.constants }

-- the fields give a value of the struct
record FieldsHaveValues (context : TypeEnv) (scope : CoreScope) (ws : List FieldLowering) (struct : DslxType) (names : List (List ℕ)) (types : List DslxType) (others : Option ExprPair) (rest : Option LoweredPair) : Type 0 where
  is : type_of_lowered (struct_fields scope ws (others_of rest) struct names types) ≡ Some struct
  own : DslxType
  typed : (others_typing context (Some struct) others).ty ≡ Some own

fields_have_values : (here : Instance → Bool) (context : TypeEnv) (env : Env) (scope : CoreScope) → IsWellTypedEnv context env → ScopeMatchesEnv here context scope
    → (own : List ℕ) (names : List (List ℕ)) (types : List DslxType) → OwnTypes names types names types → IsDeclared (types_at context) (ty.Struct own names types)
    → (fs : List FieldSeen) (ws : List FieldLowering) → EachFieldLowers fs ws → faults_of_all (map (field_typing context (Some (ty.Struct own names types))) fs) ≡ []
    → list_all here (reached_of_all (map (field_typing context (Some (ty.Struct own names types))) fs)) ≡ true
    → (others : Option ExprPair) (rest : Option LoweredPair) → ExprLowersIf others rest → lacks_one names (written_fields fs) (is_there others) ≡ false
    → IsClean here (others_typing context (Some (ty.Struct own names types)) others).faults (others_typing context (Some (ty.Struct own names types)) others).reached
    → FieldsHaveValues context scope ws (ty.Struct own names types) names types others rest
fields_have_values here context env scope h at own names types each d fs ws kf f r others rest ko lacks clean = by_others others rest ko lacks clean
  where
    S : DslxType
    S = ty.Struct own names types

    parts : AllDeclared (types_at context) types
    parts = h.known.parts.fields own own names types (struct_declared (types_at context) own names types d)

    without : list_all (λ n. is_in n (written_fields fs)) names ≡ true → type_of_lowered (without_others scope ws S names types) ≡ Some S
    without all =
        let es = fields_there scope fs ws None names types (each_found here context env scope h at own names types fs ws kf f r names types each parts) (all_written fs None names types names types each all) in
        ap (λ o. type_of_lowered (and_then o (λ es. lowered (core.Tuple (cores_of es)) S))) es.1

    within_others : (e : LoweredExpr) → e.ty ≡ S → type_of_lowered (with_others scope e ws S names types) ≡ Some S
    within_others e same =
        let o = lowered (core.Slot scope.count) e.ty in
        let es = fields_there (with_unnamed scope) fs ws o names types (each_found here context env (with_unnamed scope) h (unnamed_beside here context scope at) own names types fs ws kf f r names types each parts)
        (others_give fs o (record { core = core.Slot scope.count; ty = e.ty }) own names types refl same names types each) in
        ap (λ o. type_of_lowered (and_then o (λ es. lowered (core.Bind e.core shape.Bound (core.Tuple (cores_of es))) S))) es.1

    by_all : (l : ExprLowering) (e : LoweredExpr) → l scope ≡ Some e → e.ty ≡ S → (b : Bool) → list_all (λ n. is_in n (written_fields fs)) names ≡ b
        → type_of_lowered (if b then without_others scope ws S names types else and_then (l scope) (λ e. with_others scope e ws S names types)) ≡ Some S
    by_all l e is same true q = without q
    by_all l e is same false q = ap (λ o. type_of_lowered (and_then o (λ e. with_others scope e ws S names types))) is ∙ within_others e same

    by_others : (others : Option ExprPair) (rest : Option LoweredPair) → ExprLowersIf others rest → lacks_one names (written_fields fs) (is_there others) ≡ false
        → IsClean here (others_typing context (Some S) others).faults (others_typing context (Some S) others).reached → FieldsHaveValues context scope ws S names types others rest
    by_others None None k lacks clean = record { is = without (none_lacks (written_fields fs) names lacks); own = S; typed = refl }
    by_others None (Some x) k lacks clean = absurd k
    by_others (Some e) None k lacks clean = absurd k
    by_others (Some e) (Some x) k lacks clean =
        let a = alone context e in
        let p = none_in a.faults (wanted_faults (span_of e) (Some S) a.ty) clean.faults in
        let g = alone_lowers_to here context env scope e x.1 k h at p.0 clean.reached in
        let same = passed (same_type S g.expr.ty) 9 (span_of e) (ap (wanted_faults (span_of e) (Some S)) (sym g.typed) ∙ p.1) in
        record {
          is = ap (λ written. type_of_lowered (if list_all (λ n. is_in n written) names then without_others scope ws S names types else and_then (x.1 scope) (λ e. with_others scope e ws S names types))) (names_same fs ws kf)
              ∙ by_all x.1 g.expr g.is (sym (one_of_text (types_at context) S g.expr.ty same d g.declared)) (list_all (λ n. is_in n (written_fields fs)) names) refl;
          own = g.expr.ty;
          typed = g.typed;
        }

pub lower_total_struct : (span : Span) (name : Ident) (fields : List FieldSeen) (ws : List FieldLowering) (others : Option ExprPair) (rest : Option LoweredPair) → EachFieldLowers fields ws → ExprLowersIf others rest
    → PartLowers (λ context. struct_typing span context name fields others)
    (λ scope. and_then (scope.known.items.struct_named name.name) (λ t. lower_struct_in scope ws (others_of rest) (out-DslxType t)))
lower_total_struct span name fields ws others rest kf ko here context env scope h at well_typed = by_struct (as_struct (item_named name.name context.known.whole.items)) refl well_typed
  where
    By : Judgement → Type 0
    By j = type_of_lowered (and_then (scope.known.items.struct_named name.name) (λ t. lower_struct_in scope ws (others_of rest) (out-DslxType t))) ≡ j.ty

    of_struct : (declared : Struct) → IsStructKnown (types_at context) declared (context.known.items.struct_named name.name) → (own : Option DslxType) → context.known.items.struct_named name.name ≡ own
        → IsWellTypedPart (reaching context.known here) (struct_with span context name fields others own declared) → By (struct_with span context name fields others own declared)
    of_struct declared k own q f = subst (λ o. IsWellTypedPart (reaching context.known here) (struct_with span context name fields others o declared) → By (struct_with span context name fields others o declared)) (sym k.is ∙ q) known f
      where
        S : DslxType
        S = ty.Struct k.own k.names k.fields

        js : List Judgement
        js = map (field_typing context (Some S)) fields

        other : Judgement
        other = others_typing context (Some S) others

        cyclic : List Fault
        cyclic = breaks_if (context.known.is_cyclic context.owner name.name) 3 name.span

        names : List (List ℕ)
        names = map name_of_field declared.fields

        wrong : List Fault
        wrong = breaks_if (has_twice (written_fields fields) || lacks_one names (written_fields fields) (is_there others)) 22 span

        known : IsWellTypedPart (reaching context.known here) (struct_with span context name fields others (Some S) declared) → By (struct_with span context name fields others (Some S) declared)
        known g =
            let whole_type = when_all (other.ty ∷ types_of js) (Some S) in
            let faults = (((cyclic ++ faults_of_all js) ++ other.faults) ++ unknown_fields names fields) ++ wrong in
            let s = settled_well_typed (reaching context.known here) span whole_type faults (reached_of_all js ++ other.reached) (one_and (plus_size (size_of_all js) other.size)) g in
            let p = none_in_three ((cyclic ++ faults_of_all js) ++ other.faults) (unknown_fields names fields) wrong s.faults in
            let q = none_in_three cyclic (faults_of_all js) other.faults p.0 in
            let r = all_in here (reached_of_all js) other.reached s.reached in
            let lacks = (or_false (has_twice (written_fields fields)) (lacks_one names (written_fields fields) (is_there others)) (not_broken (has_twice (written_fields fields) || lacks_one names (written_fields fields) (is_there others)) 22 span p.2)).1 in
            let ts = fields_typed here context env scope h at S fields ws kf q.1 r.0 in
            let o = fields_have_values here context env scope h at k.own k.names k.fields k.each k.declared fields ws kf q.1 r.0 others rest ko (ap (λ ns. lacks_one ns (written_fields fields) (is_there others)) (sym k.written) ∙ lacks)
            (record { faults = q.2; reached = r.1 }) in
            ap (λ o. type_of_lowered (and_then o (λ t. lower_struct_in scope ws (others_of rest) (out-DslxType t)))) (ap (λ (items : Meanings). items.struct_named name.name) at.items ∙ k.is)
            ∙ ap (λ l. type_of_lowered (lower_struct_in scope ws (others_of rest) l)) (views.outs-Struct k.own k.names k.fields)
            ∙ o.is
            ∙ sym (s.ty ∙ (λ i. when_all (o.typed i ∷ ts.1 i) (Some S)) ∙ ap (λ o. and_then o (λ ts. Some S)) (all_are (o.own ∷ ts.0)))

    by_struct : (o : Option Struct) → as_struct (item_named name.name context.known.whole.items) ≡ o → IsWellTypedPart (reaching context.known here) (struct_if span context name fields others o) → By (struct_if span context name fields others o)
    by_struct None q f = some_fault (breaks 1 name.span) _ f.faults
    by_struct (Some declared) q f = of_struct declared (h.known.structs name.name declared q) (context.known.items.struct_named name.name) refl f
