-- Patterns become shapes, and the scopes behind them match the type environment there.
use Rattle.std.proofs.Common.{◌≡◌, ◌&&◌, ◌++◌, ℕ, suc, length, Bool, true, false, not, if◌then◌else◌, List, [], ◌∷◌, Option, Some, None, refl, sym, ap, subst, ◌∙◌, arith}
use mathlib.Core.Bool.{true≢false}
use Rattle.std.specs.Prelude.{option_map}
use Rattle.std.specs.List.{list_all}
use Rattle.xb_span.specs.declared.span.Span.{Span}
use Rattle.dslx_tree.specs.declared.ident.Ident.{Ident}
use Rattle.dslx_meaning.specs.Lists.{and_then, where_true}
use Rattle.dslx_meaning.specs.Types.{bool_type, same_type}
use Rattle.dslx_meaning.specs.Values.{bool_value, plain_value, type_of_value}
use Rattle.dslx_meaning.specs.Environment.{Env, Meanings}
use Rattle.dslx_meaning.specs.declared.ty.DslxType.{DslxType, out-DslxType}
use Rattle.dslx_meaning.specs.declared.ty.DslxType.TheViews as views
use Rattle.dslx_meaning.specs.declared.value.DslxValue.{DslxValue}
use Rattle.dslx_meaning.specs.Rules.ConstantRules.{is_empty}
use Rattle.dslx_meaning.specs.Rules.TypeEnvs.{Instance, Judgement, TypeEnv, Typed, breaks, breaks_if, unlimited, with_typed}
use Rattle.dslx_meaning.specs.Rules.Typings.{PatternPair, PatternSeen, TypeExprTyping}
use Rattle.dslx_meaning.specs.Rules.NameRules.{member_typing}
use Rattle.dslx_meaning.specs.Rules.PatternRules.{constant_pattern, first_part_type, is_there, name_pattern, nothing_bound, one_value, other_part_types, part_types, parts_typing, shape_faults, tuple_pattern}
use Rattle.dslx_core.proofs.Lemmas.Typing.Laws.{and_true}
use Rattle.dslx_core.specs.Typing.Typed.Complete.{IsWellTypedPart}
use Rattle.dslx_core.specs.Typing.Typed.Declared.{AllDeclared, Declarations, IsDeclared}
use Rattle.dslx_core.specs.Typing.Typed.WellTyped.{IsWellTypedEnv, types_at}
use Rattle.dslx_core.proofs.Lemmas.Typing.Typed.{bool_gives, none_some, one_type, parts_declared, parts_of_type, same_some}
use Rattle.dslx_core.proofs.Lemmas.Typing.Sound.{all_in, none_in, none_in_three, passed, some_fault, unlimited_type}
use Rattle.dslx_core.specs.declared.expr.Shape as shape
use Rattle.dslx_core.specs.Lowering.CoreScopes.{CoreScope, with_local}
use Rattle.dslx_core.specs.Lowering.Patterns.{LoweredShapes, PatternLowering, name_shape, names_of_all, parts_shaped, shaped, tuple_shape, value_shape}
use Rattle.dslx_total.specs.Expressions.Beside.{ScopeMatchesEnv}
use Rattle.dslx_total.specs.Expressions.ExprLowering.{IsClean, NumberLowers, PatternLowers, ShapeExists, reaching}
use Rattle.dslx_total.proofs.OnExpressions.Equal.{equal_of_text}
use Rattle.dslx_total.proofs.OnExpressions.OfNames.{bool_is, member_stands}

-- ---- scopes behind patterns

-- one more name is bound in both
pub local_beside : (here : Instance → Bool) (context : TypeEnv) (locals : List Typed) (scope : CoreScope) (name : List ℕ) (t : DslxType) → ScopeMatchesEnv here (with_typed context locals) scope
    → ScopeMatchesEnv here (with_typed context (record { name = name; ty = Some t } ∷ locals)) (with_local name t scope)
local_beside here context locals scope name t at = record {
  items = at.items;
  parametric_args = at.parametric_args;
  locals = ap (λ ls. record { name = name; ty = Some t } ∷ ls) at.locals;
  sound = at.sound;
  calls = at.calls;
  widths = at.widths;
  constants = at.constants;
}

-- ---- patterns that bind nothing

pub lower_total_wild : PatternLowers (λ may_fail context t names locals. record (nothing_bound names locals) { size = 1 }) (record { names = []; lower = λ outer scope t. shaped shape.Wild scope })
lower_total_wild = record {
  lowers = λ here may_fail context t names locals env outer scope h out at d clean. record { shape = record { shape = shape.Wild; scope = scope }; is = refl; behind = at };
  unbound = λ may_fail context t names locals e. (refl, e);
  plain = λ may_fail context t names locals e. refl;
}

-- a value of a type of the text
record ValueExists (types : Declarations) (own : Judgement) (o : Option DslxValue) : Type 0 where
  value : DslxValue
  is : o ≡ Some value
  typed : own.ty ≡ Some (type_of_value value)
  declared : IsDeclared types (type_of_value value)

value_shaped : (here : Instance → Bool) (span : Span) (may_fail : Bool) (context : TypeEnv) (t : DslxType) (names : List (List ℕ)) (locals : List Typed) (own : Judgement) (known : Bool) (scope : CoreScope) (o : Option DslxValue)
    → ScopeMatchesEnv here (with_typed context locals) scope → IsDeclared (types_at context) t → (one_value span may_fail (Some t) names locals own known).faults ≡ []
    → ValueExists (types_at context) own o → ShapeExists here (with_typed context locals) (value_shape o scope t)
value_shaped here span may_fail context t names locals own known scope o at d faults v =
    let p = none_in_three own.faults (shape_faults span (Some t) own.ty) (breaks_if (not may_fail) 8 span) faults in
    let same = passed (same_type t (type_of_value v.value)) 8 span (ap (shape_faults span (Some t)) (sym v.typed) ∙ p.1) in
    record {
      shape = record { shape = shape.Equal (plain_value v.value); scope = scope };
      is = ap (λ o. value_shape o scope t) v.is ∙ ap (λ b. where_true b (shaped (shape.Equal (plain_value v.value)) scope)) (equal_of_text (types_at context) t (type_of_value v.value) same d v.declared);
      behind = at;
    }

-- what a pattern that is one value says of its own judgement
own_well_typed : (here : Instance → Bool) (span : Span) (may_fail : Bool) (context : TypeEnv) (t : DslxType) (names : List (List ℕ)) (locals : List Typed) (own : Judgement) (known : Bool)
    → IsClean here (one_value span may_fail (Some t) names locals own known).faults (one_value span may_fail (Some t) names locals own known).reached → IsWellTypedPart (reaching context.known here) own
own_well_typed here span may_fail context t names locals own known clean =
    record { faults = (none_in_three own.faults (shape_faults span (Some t) own.ty) (breaks_if (not may_fail) 8 span) clean.faults).0; reached = clean.reached }

pub lower_total_bool_pattern : (span : Span) (b : Bool) → PatternLowers (λ may_fail context t names locals. one_value span may_fail t names locals (unlimited (Some bool_type) [] [] (Some 1)) true)
    (record { names = []; lower = λ outer scope t. value_shape (Some (bool_value b)) scope t })
lower_total_bool_pattern span b = record {
  lowers = λ here may_fail context t names locals env outer scope h out at d clean.
      let own = unlimited (Some bool_type) [] [] (Some 1) in
      let g = bool_gives (types_at context) span b bool_type refl in
      value_shaped here span may_fail context t names locals own true scope (Some (bool_value b)) at d clean.faults
      (record { value = bool_value b; is = refl; typed = ap Some (sym (bool_is span b)); declared = subst (IsDeclared (types_at context)) (sym (bool_is span b)) g.declared });
  unbound = λ may_fail context t names locals e. (refl, e);
  plain = λ may_fail context t names locals e. refl;
}

-- a number that is written with its type
pub record NumberExists (j : TypeExprTyping) (l : CoreScope → Option DslxValue) : Type 0 where
  pub lowers : NumberLowers j l
  pub known : (here : Instance → Bool) (context : TypeEnv) (env : Env) (scope : CoreScope) → IsWellTypedEnv context env → ScopeMatchesEnv here context scope → IsWellTypedPart (reaching context.known here) (j context)
      → (t : DslxType) × ((j context).ty ≡ Some t) × IsDeclared (types_at context) t

mapped : (o : Option DslxValue) (t : DslxType) → option_map type_of_value o ≡ Some t → (v : DslxValue) × (o ≡ Some v) × (type_of_value v ≡ t)
mapped None t e = none_some t e
mapped (Some v) t e = (v, refl, same_some (type_of_value v) t e)

pub lower_total_number_pattern : (span : Span) (j : TypeExprTyping) (l : CoreScope → Option DslxValue) → NumberExists j l
    → PatternLowers (λ may_fail context t names locals. one_value span may_fail t names locals (j context) (is_there (j context).ty)) (record { names = []; lower = λ outer scope t. value_shape (l outer) scope t })
lower_total_number_pattern span j l st = record {
  lowers = λ here may_fail context t names locals env outer scope h out at d clean.
      let well_typed = own_well_typed here span may_fail context t names locals (j context) (is_there (j context).ty) clean in
      let u = st.known here context env outer h out well_typed in
      let v = mapped (l outer) u.0 (st.lowers here context env outer h out well_typed ∙ u.1) in
      value_shaped here span may_fail context t names locals (j context) (is_there (j context).ty) scope (l outer) at d clean.faults
      (record { value = v.0; is = v.1; typed = u.1 ∙ ap Some (sym v.2); declared = subst (IsDeclared (types_at context)) (sym v.2) u.2 });
  unbound = λ may_fail context t names locals e. (refl, e);
  plain = λ may_fail context t names locals e. refl;
}

pub lower_total_member_pattern : (span : Span) (e a : Ident)
    → PatternLowers (λ may_fail context t names locals. one_value span may_fail t names locals (member_typing context e a) (is_there (context.known.items.member e.name a.name)))
    (record { names = []; lower = λ outer scope t. value_shape (scope.known.items.member e.name a.name) scope t })
lower_total_member_pattern span e a = record {
  lowers = λ here may_fail context t names locals env outer scope h out at d clean.
      let own = member_typing context e a in
      let known = is_there (context.known.items.member e.name a.name) in
      let m = member_stands here context e a env h (own_well_typed here span may_fail context t names locals own known clean) in
      let same = one_type m.ty m.gives.value m.gives.of in
      value_shaped here span may_fail context t names locals own known scope (scope.known.items.member e.name a.name) at d clean.faults
      (record {
        value = m.gives.value;
        is = ap (λ (items : Meanings). items.member e.name a.name) at.items ∙ m.gives.is;
        typed = m.typed ∙ ap Some (sym same);
        declared = subst (IsDeclared (types_at context)) (sym same) m.gives.declared;
      });
  unbound = λ may_fail context t names locals q. (refl, q);
  plain = λ may_fail context t names locals q. refl;
}

-- ---- names

pub lower_total_name_pattern : (span : Span) (name : List ℕ)
    → PatternLowers (λ may_fail context t names locals. name_pattern span may_fail context t names locals name (context.known.items.is_constant name)) (record { names = name ∷ []; lower = λ outer scope t. name_shape name scope t })
lower_total_name_pattern span name = record {
  lowers = λ here may_fail context t names locals env outer scope h out at d clean.
      by_kind here may_fail context t names locals env scope h at d (context.known.items.is_constant name) (ap (λ (items : Meanings). items.is_constant name) at.items) refl clean;
  unbound = λ may_fail context t names locals e. by_bound may_fail context t names locals (context.known.items.is_constant name) e;
  plain = λ may_fail context t names locals e. by_plain may_fail context t names locals (context.known.items.is_constant name) e;
}
  where
    by_bound : (may_fail : Bool) (context : TypeEnv) (t : Option DslxType) (names : List (List ℕ)) (locals : List Typed) (b : Bool) → is_empty (name_pattern span may_fail context t names locals name b).names ≡ true
        → ((b && true) ≡ true) × (is_empty names ≡ true)
    by_bound may_fail context t names locals true e = (refl, e)
    by_bound may_fail context t names locals false e = absurd (true≢false (sym e))

    by_plain : (may_fail : Bool) (context : TypeEnv) (t : Option DslxType) (names : List (List ℕ)) (locals : List Typed) (b : Bool) → (b && true) ≡ true → (name_pattern span may_fail context t names locals name b).locals ≡ locals
    by_plain may_fail context t names locals true e = refl
    by_plain may_fail context t names locals false e = absurd (true≢false (sym e))

    by_kind : (here : Instance → Bool) (may_fail : Bool) (context : TypeEnv) (t : DslxType) (names : List (List ℕ)) (locals : List Typed) (env : Env) (scope : CoreScope) → IsWellTypedEnv context env
        → ScopeMatchesEnv here (with_typed context locals) scope → IsDeclared (types_at context) t → (b : Bool) → scope.known.items.is_constant name ≡ context.known.items.is_constant name → context.known.items.is_constant name ≡ b
        → IsClean here (name_pattern span may_fail context (Some t) names locals name b).faults (name_pattern span may_fail context (Some t) names locals name b).reached
        → ShapeExists here (with_typed context (name_pattern span may_fail context (Some t) names locals name b).locals) (name_shape name scope t)
    by_kind here may_fail context t names locals env scope h at d true q r clean =
        let v = h.known.constants name r in
        let own = constant_pattern span context name (context.known.items.constant name) in
        let known = is_there (context.known.items.constant name) in
        let well_typed = own_well_typed here span may_fail context t names locals own known clean in
        let typed = unlimited_type (option_map type_of_value (context.known.items.constant name)) (breaks_if (context.known.is_cyclic context.owner name) 3 span) [] (Some 1) well_typed.faults in
        subst (λ o. ShapeExists here (with_typed context locals) o) (ap (λ b. if b then value_shape (scope.known.items.constant name) scope t else shaped shape.Bound (with_local name t scope)) (sym (q ∙ r)))
        (value_shaped here span may_fail context t names locals own known scope (scope.known.items.constant name) at d clean.faults
        (record {
          value = v.0;
          is = ap (λ (items : Meanings). items.constant name) at.items ∙ v.1;
          typed = typed ∙ ap (option_map type_of_value) v.1;
          declared = at.constants name v.0 v.1;
        }))
    by_kind here may_fail context t names locals env scope h at d false q r clean = record {
      shape = record { shape = shape.Bound; scope = with_local name t scope };
      is = ap (λ b. if b then value_shape (scope.known.items.constant name) scope t else shaped shape.Bound (with_local name t scope)) (q ∙ r);
      behind = local_beside here context locals scope name t at;
    }

-- ---- tuples

abbrev pub EachPatternLowers : List PatternPair → List PatternLowering → Type 0
EachPatternLowers [] [] = Unit {0}
EachPatternLowers (p ∷ ps) (l ∷ ls) = PatternLowers p.1 l × EachPatternLowers ps ls
EachPatternLowers [] (l ∷ ls) = ⊥
EachPatternLowers (p ∷ ps) [] = ⊥

record PartsExist (here : Instance → Bool) (context : TypeEnv) (o : Option LoweredShapes) : Type 0 where
  shapes : LoweredShapes
  is : o ≡ Some shapes
  behind : ScopeMatchesEnv here context shapes.scope

parts_stand : (ps : List PatternPair) (ls : List PatternLowering) → EachPatternLowers ps ls → (here : Instance → Bool) (may_fail : Bool) (context : TypeEnv) (ts : List DslxType) (names : List (List ℕ)) (locals : List Typed) (env : Env)
    (outer scope : CoreScope) → length ts ≡ length ps → IsWellTypedEnv context env → ScopeMatchesEnv here context outer → ScopeMatchesEnv here (with_typed context locals) scope → AllDeclared (types_at context) ts
    → (parts_typing may_fail context ps (Some ts) names locals).faults ≡ [] → list_all here (parts_typing may_fail context ps (Some ts) names locals).reached ≡ true
    → PartsExist here (with_typed context (parts_typing may_fail context ps (Some ts) names locals).locals) (parts_shaped ls ts outer scope)
parts_stand [] [] k here may_fail context [] names locals env outer scope n h out at d f r = record { shapes = record { shapes = []; scope = scope }; is = refl; behind = at }
parts_stand [] [] k here may_fail context (t ∷ ts) names locals env outer scope n h out at d f r = absurd (some_types n)
  where
    some_types : suc (length ts) ≡ 0 → ⊥
    some_types q = omega (arith, q)
parts_stand [] (l ∷ ls) k here may_fail context ts names locals env outer scope n h out at d f r = absurd k
parts_stand (p ∷ ps) [] k here may_fail context ts names locals env outer scope n h out at d f r = absurd k
parts_stand (p ∷ ps) (l ∷ ls) k here may_fail context [] names locals env outer scope n h out at d f r = absurd (no_types n)
  where
    no_types : 0 ≡ suc (length ps) → ⊥
    no_types q = omega (arith, q)
parts_stand (p ∷ ps) (l ∷ ls) k here may_fail context (t ∷ ts) names locals env outer scope n h out at d f r =
    let first = p.1 may_fail context (Some t) names locals in
    let rest = parts_typing may_fail context ps (Some ts) first.names first.locals in
    let q = none_in first.faults rest.faults f in
    let m = all_in here first.reached rest.reached r in
    let fewer : length ts ≡ length ps = omega (arith, n) in
    let one = k.0.lowers here may_fail context t names locals env outer scope h out at d.0 (record { faults = q.0; reached = m.0 }) in
    let more = parts_stand ps ls k.1 here may_fail context ts first.names first.locals env outer one.shape.scope fewer h out one.behind d.1 q.1 m.1 in
    record {
      shapes = record { shapes = one.shape.shape ∷ more.shapes.shapes; scope = more.shapes.scope };
      is = ap (λ o. and_then {B = LoweredShapes} o (λ s. and_then {B = LoweredShapes} (parts_shaped ls ts outer s.scope) (λ r. Some (record { shapes = s.shape ∷ r.shapes; scope = r.scope })))) one.is
          ∙ ap (λ o. and_then {B = LoweredShapes} o (λ r. Some (record { shapes = one.shape.shape ∷ r.shapes; scope = r.scope }))) more.is;
      behind = more.behind;
    }

pub list_of : (p : List ℕ → Bool) (xs ys : List (List ℕ)) → list_all p xs ≡ true → list_all p ys ≡ true → list_all p (xs ++ ys) ≡ true
list_of p [] ys e f = f
list_of p (x ∷ xs) ys e f = let q = and_true (p x) (list_all p xs) e in λ i. q.0 i && list_of p xs ys q.1 f i

parts_unbound : (ps : List PatternPair) (ls : List PatternLowering) → EachPatternLowers ps ls → (may_fail : Bool) (context : TypeEnv) (ts : Option (List DslxType)) (names : List (List ℕ)) (locals : List Typed)
    → is_empty (parts_typing may_fail context ps ts names locals).names ≡ true → (list_all context.known.items.is_constant (names_of_all ls) ≡ true) × (is_empty names ≡ true)
parts_unbound [] [] k may_fail context ts names locals e = (refl, e)
parts_unbound [] (l ∷ ls) k may_fail context ts names locals e = absurd k
parts_unbound (p ∷ ps) [] k may_fail context ts names locals e = absurd k
parts_unbound (p ∷ ps) (l ∷ ls) k may_fail context ts names locals e =
    let first = p.1 may_fail context (first_part_type ts) names locals in
    let rest = parts_unbound ps ls k.1 may_fail context (other_part_types ts) first.names first.locals e in
    let one = k.0.unbound may_fail context (first_part_type ts) names locals rest.1 in
    (list_of context.known.items.is_constant l.names (names_of_all ls) one.0 rest.0, one.1)

parts_plain : (ps : List PatternPair) (ls : List PatternLowering) → EachPatternLowers ps ls → (may_fail : Bool) (context : TypeEnv) (ts : Option (List DslxType)) (names : List (List ℕ)) (locals : List Typed)
    → list_all context.known.items.is_constant (names_of_all ls) ≡ true → (parts_typing may_fail context ps ts names locals).locals ≡ locals
parts_plain [] [] k may_fail context ts names locals e = refl
parts_plain [] (l ∷ ls) k may_fail context ts names locals e = absurd k
parts_plain (p ∷ ps) [] k may_fail context ts names locals e = absurd k
parts_plain (p ∷ ps) (l ∷ ls) k may_fail context ts names locals e =
    let first = p.1 may_fail context (first_part_type ts) names locals in
    let q = all_in context.known.items.is_constant l.names (names_of_all ls) e in
    parts_plain ps ls k.1 may_fail context (other_part_types ts) first.names first.locals q.1 ∙ k.0.plain may_fail context (first_part_type ts) names locals q.0

pub lower_total_tuple_pattern : (span : Span) (ps : List PatternPair) (ls : List PatternLowering) → EachPatternLowers ps ls
    → PatternLowers (λ may_fail context t names locals. tuple_pattern span t (part_types (length ps) t) (parts_typing may_fail context ps (part_types (length ps) t) names locals))
    (record { names = names_of_all ls; lower = λ outer scope t. tuple_shape ls outer scope (out-DslxType t) })
lower_total_tuple_pattern span ps ls k = record {
  lowers = λ here may_fail context t names locals env outer scope h out at d clean. by_types here may_fail context t names locals env outer scope h out at d (part_types (length ps) (Some t)) refl clean;
  unbound = λ may_fail context t names locals e. parts_unbound ps ls k may_fail context (part_types (length ps) t) names locals e;
  plain = λ may_fail context t names locals e. parts_plain ps ls k may_fail context (part_types (length ps) t) names locals e;
}
  where
    seen : Bool → TypeEnv → DslxType → List (List ℕ) → List Typed → Option (List DslxType) → PatternSeen
    seen may_fail context t names locals o = tuple_pattern span (Some t) o (parts_typing may_fail context ps o names locals)

    by_types : (here : Instance → Bool) (may_fail : Bool) (context : TypeEnv) (t : DslxType) (names : List (List ℕ)) (locals : List Typed) (env : Env) (outer scope : CoreScope)
        → IsWellTypedEnv context env → ScopeMatchesEnv here context outer → ScopeMatchesEnv here (with_typed context locals) scope → IsDeclared (types_at context) t → (o : Option (List DslxType)) → part_types (length ps) (Some t) ≡ o
        → IsClean here (seen may_fail context t names locals o).faults (seen may_fail context t names locals o).reached
        → ShapeExists here (with_typed context (seen may_fail context t names locals o).locals) (tuple_shape ls outer scope (out-DslxType t))
    by_types here may_fail context t names locals env outer scope h out at d None q clean = some_fault (breaks 8 span) _ clean.faults
    by_types here may_fail context t names locals env outer scope h out at d (Some ts) q clean =
        let p = parts_of_type (length ps) t ts q in
        let s = parts_stand ps ls k here may_fail context ts names locals env outer scope p.1 h out at (parts_declared (types_at context) ts (subst (IsDeclared (types_at context)) p.0 d)) clean.faults clean.reached in
        record {
          shape = record { shape = shape.Tuple s.shapes.shapes; scope = s.shapes.scope };
          is = ap (λ t. tuple_shape ls outer scope (out-DslxType t)) p.0 ∙ ap (tuple_shape ls outer scope) (views.outs-Tuple ts) ∙ ap (λ o. and_then o (λ r. shaped (shape.Tuple r.shapes) r.scope)) s.is;
          behind = s.behind;
        }
