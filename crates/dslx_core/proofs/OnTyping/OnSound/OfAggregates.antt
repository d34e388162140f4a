-- Tuples, arrays and struct values, where nothing is wrong with them.
use Rattle.std.proofs.Common.{◌≡◌, ◌++◌, ◌||◌, ℕ, zero, suc, Bool, true, false, if◌then◌else◌, length, List, [], ◌∷◌, map, Option, Some, None, refl, sym, ap, subst, ◌∙◌}
use Rattle.std.specs.List.{list_all}
use Rattle.xb_span.specs.declared.fault.Fault.{Fault}
use Rattle.xb_span.specs.declared.span.Span.{Span}
use Rattle.dslx_tree.specs.declared.ident.Ident.{Ident}
use Rattle.dslx_tree.specs.declared.item.Struct.{Struct}
use Rattle.dslx_meaning.specs.Lists.{all_some, and_then}
use Rattle.dslx_meaning.specs.Environment.{Env}
use Rattle.dslx_meaning.specs.Items.{as_struct, item_named, name_of_field}
use Rattle.dslx_meaning.specs.Meaning.{FieldDen, ExprDen, TypeDen, array_at, rest_of, struct_at, values_of}
use Rattle.dslx_meaning.specs.Operators.{element_value}
use Rattle.dslx_meaning.specs.declared.ty.DslxType as ty
use Rattle.dslx_meaning.specs.declared.ty.DslxType.{DslxType, out-DslxType}
use Rattle.dslx_meaning.specs.declared.value.UntypedLiteral.{UntypedLiteral}
use Rattle.dslx_meaning.specs.declared.value.DslxValue as value
use Rattle.dslx_meaning.specs.declared.value.DslxValue.{DslxValue}
use Rattle.dslx_meaning.specs.Rules.AggregateRules.{array_faults, array_in, element_alone, element_in, element_type, field_typing, first_type_of, has_twice, is_some_tuple, lacks_one, like_first, others_typing, pair_alone, pair_or_alone, part_type, range_faults, struct_if, struct_typing, struct_with, tuple_element_typing, tuple_typing, typed_array, unknown_fields, untyped_array, wanted_faults, when_all, written_fields}
use Rattle.dslx_meaning.specs.Rules.ConstantRules.{untyped_typing, is_empty}
use Rattle.dslx_meaning.specs.Rules.TypeEnvs.{ExprPair, Judgement, TypeEnv, alone, untyped_of, breaks, breaks_if, faults_of_all, no_token, one_and, plus_size, reached_of_all, settled, size_of_all, span_of, types_of, within}
use Rattle.dslx_meaning.specs.Rules.Typings.{FieldSeen, TypeExprTyping}
use Rattle.dslx_meaning.specs.Rules.OperatorRules.{unless_type}
use Rattle.dslx_meaning.specs.Rules.PatternRules.{is_there}
use Rattle.dslx_meaning.specs.Rules.TypeRules.{unit_faults}
use Rattle.dslx_core.specs.Typing.Typed.Complete.{IsWellTypedPart, IsStructKnown}
use Rattle.dslx_core.specs.Typing.Typed.Given.{EachGives, EachMeans, FieldsMean, GivesItsType, IsSized, OthersGive}
use Rattle.dslx_core.specs.Typing.Typed.WellTyped.{IsWellTypedEnv, types_at}
use Rattle.dslx_core.proofs.Lemmas.Typing.Typed.{all_are, alone_type, none_some, struct_gives, tuple_gives, tuple_part_given, typed_gives, untyped_gives}
use Rattle.dslx_core.specs.Typing.Sound.Sound.{EachExprGives, EachFieldGives, ExprGives, ExprGivesIf, HasTypedValue, TypeHasDen}
use Rattle.dslx_core.proofs.OnTyping.OnSound.OfOperations.{there_known, unless_passed}
use Rattle.dslx_core.proofs.OnTyping.OnSound.WellTypedParts.{all_in, alone_has, given, none_in, none_in_three, one_sized, plus_sized, settled_well_typed, sized_if, some_fault, whole}

-- ---- elements

-- elements that stand alone: their types, and values of them
pub record AreElements (context : TypeEnv) (env : Env) (es : List ExprPair) (xs : List ExprDen) : Type 0 where
  pub types : List DslxType
  pub typed : types_of (map (element_alone context) es) ≡ map Some types
  pub give : EachGives (types_at context) context es (map (λ (x : ExprDen). x.value env) xs)
  pub sized : IsSized (size_of_all (map (element_alone context) es))

elements_have : (context : TypeEnv) (env : Env) → IsWellTypedEnv context env → (es : List ExprPair) (xs : List ExprDen) → EachExprGives es xs → faults_of_all (map (element_alone context) es) ≡ []
    → list_all context.known.is_sound (reached_of_all (map (element_alone context) es)) ≡ true → AreElements context env es xs
elements_have context env h [] [] k f r = record { types = []; typed = refl; give = tt; sized = (0, refl) }
elements_have context env h [] (x ∷ xs) k f r = absurd k
elements_have context env h (e ∷ es) [] k f r = absurd k
elements_have context env h (e ∷ es) (x ∷ xs) k f r =
    let a = alone context e in
    let p = none_in (a.faults ++ unit_faults (span_of e) a.ty) (faults_of_all (map (element_alone context) es)) f in
    let q = none_in a.faults (unit_faults (span_of e) a.ty) p.0 in
    let s = all_in context.known.is_sound a.reached (reached_of_all (map (element_alone context) es)) r in
    let g = alone_has context env e x k.0 h q.0 s.0 in
    let more = elements_have context env h es xs k.1 p.1 s.1 in
    record { types = g.0 ∷ more.types; typed = λ i. g.1 i ∷ more.typed i; give = (given (types_at context) a (x.value env) g, more.give); sized = plus_sized a.size (size_of_all (map (element_alone context) es)) g.3 more.sized }

pub tuple_has : (span : Span) (context : TypeEnv) (env : Env) (es : List ExprPair) (xs : List ExprDen) → EachExprGives es xs → IsWellTypedEnv context env → IsWellTypedPart context.known (tuple_typing span context es)
    → HasTypedValue (types_at context) (tuple_typing span context es) (and_then (values_of xs env) (λ vs. Some (value.Tuple vs)))
tuple_has span context env es xs k h well_typed =
    let js = map (element_alone context) es in
    let whole_type = and_then (all_some (types_of js)) (λ ts. Some (ty.Tuple ts)) in
    let s = settled_well_typed context.known span whole_type (faults_of_all js) (reached_of_all js) (one_and (size_of_all js)) well_typed in
    let g = elements_have context env h es xs k s.faults s.reached in
    whole (types_at context) context.known span whole_type (faults_of_all js) (reached_of_all js) (one_and (size_of_all js)) (ty.Tuple g.types) (and_then (values_of xs env) (λ vs. Some (value.Tuple vs))) s
    (ap (λ o. and_then o (λ ts. Some (ty.Tuple ts))) (ap all_some g.typed ∙ all_are g.types)) (one_sized (size_of_all js) g.sized)
    (tuple_gives (types_at context) span context es (map (λ (x : ExprDen). x.value env) xs) g.give)

pub untyped_has : (span : Span) (context : TypeEnv) (env : Env) (es : List ExprPair) (dots : Bool) (xs : List ExprDen) → EachExprGives es xs → IsWellTypedEnv context env → IsWellTypedPart context.known (untyped_array span context es dots)
    → HasTypedValue (types_at context) (untyped_array span context es dots) (and_then (values_of xs env) (λ vs. Some (value.Array vs)))
untyped_has span context env es dots xs k h well_typed =
    let js = map (element_alone context) es in
    let first = first_type_of (types_of js) in
    let whole_type = when_all (types_of js) (and_then first (λ t. Some (ty.Array t (length es)))) in
    let faults = (faults_of_all js ++ like_first first es (types_of js)) ++ breaks_if (dots || is_empty es) 21 span in
    let s = settled_well_typed context.known span whole_type faults (reached_of_all js) (one_and (size_of_all js)) well_typed in
    let f = none_in_three (faults_of_all js) (like_first first es (types_of js)) (breaks_if (dots || is_empty es) 21 span) s.faults in
    let g = elements_have context env h es xs k f.0 s.reached in
    let t = some_element es g.types g.typed f.2 in
    whole (types_at context) context.known span whole_type faults (reached_of_all js) (one_and (size_of_all js)) t.0 (and_then (values_of xs env) (λ vs. Some (value.Array vs))) s
    ((λ i. when_all (g.typed i) (and_then (first_type_of (g.typed i)) (λ t. Some (ty.Array t (length es))))) ∙ ap (λ o. and_then o (λ ts. and_then (first_type_of (map Some g.types)) (λ t. Some (ty.Array t (length es))))) (all_are g.types) ∙ t.1)
    (one_sized (size_of_all js) g.sized)
    (untyped_gives (types_at context) span context es dots (map (λ (x : ExprDen). x.value env) xs) g.give)
  where
    some_element : (es : List ExprPair) (ts : List DslxType) → types_of (map (element_alone context) es) ≡ map Some ts → breaks_if (dots || is_empty es) 21 span ≡ []
        → (t : DslxType) × (and_then (first_type_of (map Some ts)) (λ t. Some (ty.Array t (length es))) ≡ Some t)
    some_element [] ts e f = none_here dots f
      where
        none_here : {X : Type 0} (b : Bool) → breaks_if (b || true) 21 span ≡ [] → X
        none_here true q = some_fault (breaks 21 span) [] q
        none_here false q = some_fault (breaks 21 span) [] q
    some_element (x ∷ xs) [] e f = some_fault (element_alone context x).ty (types_of (map (element_alone context) xs)) e
    some_element (x ∷ xs) (t ∷ ts) e f = (ty.Array t (length (x ∷ xs)), refl)

-- ---- elements of tuples

-- a receive's pair stands as it is
abbrev pair_by : TypeEnv → ExprPair → Option DslxType → Judgement
pair_by context e None = within context e
pair_by context e (Some t) = if is_some_tuple (out-DslxType t) then within context e else no_token (span_of e) (within context e)

pair_has : (context : TypeEnv) (env : Env) (e : ExprPair) (x : ExprDen) → ExprGives e x → IsWellTypedEnv context env → IsWellTypedPart context.known (pair_alone context e) → HasTypedValue (types_at context) (pair_alone context e) (x.value env)
pair_has context env e x s h well_typed = by_type (within context e).ty well_typed
  where
    by_test : (b : Bool) → IsWellTypedPart context.known (if b then within context e else no_token (span_of e) (within context e)) → HasTypedValue (types_at context) (if b then within context e else no_token (span_of e) (within context e)) (x.value env)
    by_test true f = s.gives context env h f
    by_test false f = alone_has context env e x s h f.faults f.reached

    by_type : (o : Option DslxType) → IsWellTypedPart context.known (pair_by context e o) → HasTypedValue (types_at context) (pair_by context e o) (x.value env)
    by_type None f = s.gives context env h f
    by_type (Some t) f = by_test (is_some_tuple (out-DslxType t)) f

taken_has : (k : ℕ) (context : TypeEnv) (env : Env) (e : ExprPair) (x : ExprDen) → ExprGives e x → IsWellTypedEnv context env → IsWellTypedPart context.known (pair_or_alone k context e) → HasTypedValue (types_at context) (pair_or_alone k context e) (x.value env)
taken_has zero context env e x s h well_typed = pair_has context env e x s h well_typed
taken_has (suc zero) context env e x s h well_typed = pair_has context env e x s h well_typed
taken_has (suc (suc k)) context env e x s h well_typed = alone_has context env e x s h well_typed.faults well_typed.reached

pub element_has : (span : Span) (context : TypeEnv) (env : Env) (e : ExprPair) (k : ℕ) (x : ExprDen) → ExprGives e x → IsWellTypedEnv context env → IsWellTypedPart context.known (tuple_element_typing span context e k)
    → HasTypedValue (types_at context) (tuple_element_typing span context e k) (and_then (x.value env) (λ v. element_value v k))
element_has span context env e k x s h well_typed =
    let a = pair_or_alone k context e in
    let wrong = unless_type (λ t. is_there (part_type t k)) 19 span a.ty in
    let q = settled_well_typed context.known span (and_then a.ty (λ t. part_type t k)) (a.faults ++ wrong) a.reached (one_and a.size) well_typed in
    let f = none_in a.faults wrong q.faults in
    let g = taken_has k context env e x s h (record { faults = f.0; reached = q.reached }) in
    let t = there_known (part_type g.0 k) (unless_passed (λ t. is_there (part_type t k)) 19 span a.ty g.0 g.1 f.1) in
    let own = q.ty ∙ ap (λ o. and_then o (λ t. part_type t k)) g.1 ∙ t.1 in
    (t.0, own, tuple_part_given (types_at context) g.0 t.0 k (x.value env) g.2 t.1, sized_if _ t.0 (one_and a.size) own (one_sized a.size g.3))

-- ---- arrays with a type

-- an element, which may be a number without a type
abbrev element_by : TypeEnv → Option DslxType → ExprPair → Option UntypedLiteral → Judgement
element_by context wanted e None = record (alone context e) { faults = (alone context e).faults ++ wanted_faults (span_of e) wanted (alone context e).ty }
element_by context wanted e (Some number) = record untyped_typing { ty = wanted; faults = range_faults (span_of e) wanted number }

-- such an element: its type, and what it means
pub record IsElement (context : TypeEnv) (env : Env) (wanted : Option DslxType) (e : ExprPair) (x : ExprDen) : Type 0 where
  pub own : DslxType
  pub typed : (element_in context wanted e).ty ≡ Some own
  pub gives : GivesItsType (types_at context) (alone context e) (x.value env)
  pub sized : IsSized (element_in context wanted e).size

one_element : (context : TypeEnv) (env : Env) → IsWellTypedEnv context env → (w : DslxType) (e : ExprPair) (x : ExprDen) → ExprGives e x → IsWellTypedPart context.known (element_in context (Some w) e) → IsElement context env (Some w) e x
one_element context env h w e x s well_typed = by_untyped (untyped_of e) refl well_typed
  where
    Shown : Option UntypedLiteral → Type 0
    Shown o = (own : DslxType) × ((element_by context (Some w) e o).ty ≡ Some own) × GivesItsType (types_at context) (alone context e) (x.value env) × IsSized (element_by context (Some w) e o).size

    untyped : (number : UntypedLiteral) → untyped_of e ≡ Some number → GivesItsType (types_at context) (alone context e) (x.value env)
    untyped number q t k = none_some t (sym (s.untyped number (sym (ap (λ (y : ExprDen). y.bare) s.is) ∙ q) context) ∙ (alone_type (span_of e) (within context e) t k).0)

    by_untyped_of : (o : Option UntypedLiteral) → untyped_of e ≡ o → IsWellTypedPart context.known (element_by context (Some w) e o) → Shown o
    by_untyped_of None q f =
        let a = alone context e in
        let g = alone_has context env e x s h (none_in a.faults (wanted_faults (span_of e) (Some w) a.ty) f.faults).0 f.reached in
        (g.0, g.1, given (types_at context) a (x.value env) g, g.3)
    by_untyped_of (Some number) q f = (w, refl, untyped number q, (1, refl))

    by_untyped : (o : Option UntypedLiteral) → untyped_of e ≡ o → IsWellTypedPart context.known (element_by context (Some w) e o) → IsElement context env (Some w) e x
    by_untyped o q f = let g = subst Shown (sym q) (by_untyped_of o q f) in record { own = g.0; typed = g.1; gives = g.2; sized = g.3 }

-- all of them
pub record AreInArray (context : TypeEnv) (env : Env) (wanted : Option DslxType) (es : List ExprPair) (xs : List ExprDen) : Type 0 where
  pub types : List DslxType
  pub typed : types_of (map (element_in context wanted) es) ≡ map Some types
  pub mean : EachMeans (types_at context) context env es xs
  pub sized : IsSized (size_of_all (map (element_in context wanted) es))

elements_in : (context : TypeEnv) (env : Env) → IsWellTypedEnv context env → (w : DslxType) (es : List ExprPair) (xs : List ExprDen) → EachExprGives es xs → faults_of_all (map (element_in context (Some w)) es) ≡ []
    → list_all context.known.is_sound (reached_of_all (map (element_in context (Some w)) es)) ≡ true → AreInArray context env (Some w) es xs
elements_in context env h w [] [] k f r = record { types = []; typed = refl; mean = tt; sized = (0, refl) }
elements_in context env h w [] (x ∷ xs) k f r = absurd k
elements_in context env h w (e ∷ es) [] k f r = absurd k
elements_in context env h w (e ∷ es) (x ∷ xs) k f r =
    let j = element_in context (Some w) e in
    let p = none_in j.faults (faults_of_all (map (element_in context (Some w)) es)) f in
    let s = all_in context.known.is_sound j.reached (reached_of_all (map (element_in context (Some w)) es)) r in
    let one = one_element context env h w e x k.0 (record { faults = p.0; reached = s.0 }) in
    let more = elements_in context env h w es xs k.1 p.1 s.1 in
    record {
      types = one.own ∷ more.types;
      typed = λ i. one.typed i ∷ more.typed i;
      mean = (record { bare = ap (λ (y : ExprDen). y.bare) k.0.is; gives = one.gives }, more.mean);
      sized = plus_sized j.size (size_of_all (map (element_in context (Some w)) es)) one.sized more.sized;
    }

pub typed_has : (span : Span) (context : TypeEnv) (env : Env) (j : TypeExprTyping) (f : TypeDen) (es : List ExprPair) (dots : Bool) (xs : List ExprDen) → TypeHasDen j f → EachExprGives es xs → IsWellTypedEnv context env
    → IsWellTypedPart context.known (typed_array span context (j context) es dots)
    → HasTypedValue (types_at context) (typed_array span context (j context) es dots) (and_then (f env) (λ t. array_at env xs dots (out-DslxType t)))
typed_has span context env j f es dots xs st k h well_typed = by_parts (and_then (j context).ty array_in) refl well_typed
  where
    abbrev_typing : Option (DslxType × ℕ) → Judgement
    abbrev_typing parts =
        let js = map (element_in context (element_type parts)) es in
        settled span (when_all (types_of js) (j context).ty) (((j context).faults ++ faults_of_all js) ++ array_faults span (j context).ty parts (length es) dots) ((j context).reached ++ reached_of_all js) (one_and (size_of_all js))

    no_array : {X : Type 0} (o : Option DslxType) (t : DslxType) → o ≡ Some t → array_faults span o None (length es) dots ≡ [] → X
    no_array None t e q = none_some t e
    no_array (Some u) t e q = some_fault (breaks 9 span) [] q

    by_parts : (o : Option (DslxType × ℕ)) → and_then (j context).ty array_in ≡ o → IsWellTypedPart context.known (abbrev_typing o)
        → HasTypedValue (types_at context) (typed_array span context (j context) es dots) (and_then (f env) (λ t. array_at env xs dots (out-DslxType t)))
    by_parts None q g =
        let js = map (element_in context None) es in
        let faults = ((j context).faults ++ faults_of_all js) ++ array_faults span (j context).ty None (length es) dots in
        let s = settled_well_typed context.known span (when_all (types_of js) (j context).ty) faults ((j context).reached ++ reached_of_all js) (one_and (size_of_all js)) g in
        let p = none_in_three (j context).faults (faults_of_all js) (array_faults span (j context).ty None (length es) dots) s.faults in
        let r = all_in context.known.is_sound (j context).reached (reached_of_all js) s.reached in
        let t = st.known context env h (record { faults = p.0; reached = r.0 }) in
        no_array (j context).ty t.0 t.1 p.2
    by_parts (Some parts) q g =
        let js = map (element_in context (Some parts.0)) es in
        let wrong = array_faults span (j context).ty (Some parts) (length es) dots in
        let faults = ((j context).faults ++ faults_of_all js) ++ wrong in
        let s = settled_well_typed context.known span (when_all (types_of js) (j context).ty) faults ((j context).reached ++ reached_of_all js) (one_and (size_of_all js)) g in
        let p = none_in_three (j context).faults (faults_of_all js) wrong s.faults in
        let r = all_in context.known.is_sound (j context).reached (reached_of_all js) s.reached in
        let t = st.known context env h (record { faults = p.0; reached = r.0 }) in
        let es' = elements_in context env h parts.0 es xs k p.1 r.1 in
        let own : (abbrev_typing (Some parts)).ty ≡ Some t.0 = s.ty ∙ (λ i. when_all (es'.typed i) (t.1 i)) ∙ ap (λ o. and_then o (λ ts. Some t.0)) (all_are es'.types) in
        let is : (typed_array span context (j context) es dots).ty ≡ Some t.0 = ap (λ o. (abbrev_typing o).ty) q ∙ own in
        let sized = sized_if (abbrev_typing (Some parts)).ty t.0 (one_and (size_of_all js)) own (one_sized (size_of_all js) es'.sized) in
        (t.0, is, typed_gives (types_at context) span context env (j context) (f env) es xs dots (st.means context env h) es'.mean t.0 is, (sized.0, ap (λ o. (abbrev_typing o).size) q ∙ sized.1))

-- ---- struct values

fields_have : (context : TypeEnv) (env : Env) → IsWellTypedEnv context env → (struct : Option DslxType) (fs : List FieldSeen) (ms : List FieldDen) → EachFieldGives fs ms → faults_of_all (map (field_typing context struct) fs) ≡ []
    → list_all context.known.is_sound (reached_of_all (map (field_typing context struct) fs)) ≡ true
    → (ts : List DslxType) × (types_of (map (field_typing context struct) fs) ≡ map Some ts) × FieldsMean (types_at context) context env struct fs ms × IsSized (size_of_all (map (field_typing context struct) fs))
fields_have context env h struct [] [] k f r = ([], refl, tt, (0, refl))
fields_have context env h struct [] (x ∷ xs) k f r = absurd k
fields_have context env h struct (g ∷ gs) [] k f r = absurd k
fields_have context env h struct (g ∷ gs) (x ∷ xs) k f r =
    let j = field_typing context struct g in
    let p = none_in j.faults (faults_of_all (map (field_typing context struct) gs)) f in
    let s = all_in context.known.is_sound j.reached (reached_of_all (map (field_typing context struct) gs)) r in
    let one = k.0.gives context struct env h (record { faults = p.0; reached = s.0 }) in
    let more = fields_have context env h struct gs xs k.1 p.1 s.1 in
    (one.0 ∷ more.0, (λ i. one.1 i ∷ more.1 i), (k.0.name, given (types_at context) j (x.value env) one, more.2), plus_sized j.size (size_of_all (map (field_typing context struct) gs)) one.3 more.3)

others_have : (context : TypeEnv) (env : Env) → IsWellTypedEnv context env → (struct : DslxType) (o : Option ExprPair) (x : Option ExprDen) → ExprGivesIf o x → IsWellTypedPart context.known (others_typing context (Some struct) o)
    → (t : DslxType) × ((others_typing context (Some struct) o).ty ≡ Some t) × OthersGive (types_at context) context o (rest_of x env) × IsSized (others_typing context (Some struct) o).size
others_have context env h struct None None k well_typed = (struct, refl, tt, (0, refl))
others_have context env h struct None (Some x) k well_typed = absurd k
others_have context env h struct (Some e) None k well_typed = absurd k
others_have context env h struct (Some e) (Some x) k well_typed =
    let a = alone context e in
    let g = alone_has context env e x k h (none_in a.faults (wanted_faults (span_of e) (Some struct) a.ty) well_typed.faults).0 well_typed.reached in
    (g.0, g.1, given (types_at context) a (x.value env) g, g.3)

pub struct_has : (span : Span) (context : TypeEnv) (env : Env) (name : Ident) (fields : List FieldSeen) (ms : List FieldDen) (others : Option ExprPair) (rest : Option ExprDen) → EachFieldGives fields ms → ExprGivesIf others rest
    → IsWellTypedEnv context env → IsWellTypedPart context.known (struct_typing span context name fields others)
    → HasTypedValue (types_at context) (struct_typing span context name fields others) (and_then (env.items.struct_named name.name) (λ t. struct_at env ms (rest_of rest env) (out-DslxType t)))
struct_has span context env name fields ms others rest kf ko h well_typed = by_struct (as_struct (item_named name.name context.known.whole.items)) refl well_typed
  where
    Has : Judgement → Type 0
    Has j = HasTypedValue (types_at context) j (and_then (env.items.struct_named name.name) (λ t. struct_at env ms (rest_of rest env) (out-DslxType t)))

    of_struct : (declared : Struct) → IsStructKnown (types_at context) declared (context.known.items.struct_named name.name) → (own : Option DslxType) → context.known.items.struct_named name.name ≡ own
        → IsWellTypedPart context.known (struct_with span context name fields others own declared) → Has (struct_with span context name fields others own declared)
    of_struct declared k own q f = subst (λ o. IsWellTypedPart context.known (struct_with span context name fields others o declared) → Has (struct_with span context name fields others o declared)) (sym k.is ∙ q) known f
      where
        S : DslxType
        S = ty.Struct k.own k.names k.fields

        js : List Judgement
        js = map (field_typing context (Some S)) fields

        other : Judgement
        other = others_typing context (Some S) others

        cyclic : List Fault
        cyclic = breaks_if (context.known.is_cyclic context.owner name.name) 3 name.span

        names : List (List ℕ)
        names = map name_of_field declared.fields

        wrong : List Fault
        wrong = breaks_if (has_twice (written_fields fields) || lacks_one names (written_fields fields) (is_there others)) 22 span

        known : IsWellTypedPart context.known (struct_with span context name fields others (Some S) declared) → Has (struct_with span context name fields others (Some S) declared)
        known g =
            let whole_type = when_all (other.ty ∷ types_of js) (Some S) in
            let faults = (((cyclic ++ faults_of_all js) ++ other.faults) ++ unknown_fields names fields) ++ wrong in
            let s = settled_well_typed context.known span whole_type faults (reached_of_all js ++ other.reached) (one_and (plus_size (size_of_all js) other.size)) g in
            let p = none_in_three ((cyclic ++ faults_of_all js) ++ other.faults) (unknown_fields names fields) wrong s.faults in
            let q = none_in_three cyclic (faults_of_all js) other.faults p.0 in
            let r = all_in context.known.is_sound (reached_of_all js) other.reached s.reached in
            let fs = fields_have context env h (Some S) fields ms kf q.1 r.0 in
            let o = others_have context env h S others rest ko (record { faults = q.2; reached = r.1 }) in
            let v = whole (types_at context) context.known span whole_type faults (reached_of_all js ++ other.reached) (one_and (plus_size (size_of_all js) other.size)) S (struct_at env ms (rest_of rest env) (out-DslxType S)) s
            ((λ i. when_all (o.1 i ∷ fs.1 i) (Some S)) ∙ ap (λ o. and_then o (λ ts. Some S)) (all_are (o.0 ∷ fs.0))) (one_sized (plus_size (size_of_all js) other.size) (plus_sized (size_of_all js) other.size fs.3 o.3))
            (struct_gives (types_at context) h.known.parts span context env name fields ms others (rest_of rest env) declared k.own k.names k.fields k.written k.each k.declared fs.2 o.2) in
            subst (λ x. HasTypedValue (types_at context) (struct_with span context name fields others (Some S) declared) (and_then x (λ t. struct_at env ms (rest_of rest env) (out-DslxType t))))
            (sym ((λ i. (h.items i).struct_named name.name) ∙ k.is)) v

    by_struct : (o : Option Struct) → as_struct (item_named name.name context.known.whole.items) ≡ o → IsWellTypedPart context.known (struct_if span context name fields others o) → Has (struct_if span context name fields others o)
    by_struct None q f = some_fault (breaks 1 name.span) _ f.faults
    by_struct (Some declared) q f = of_struct declared (h.known.structs name.name declared q) (context.known.items.struct_named name.name) refl f
