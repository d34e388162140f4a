-- Tuples and arrays become something.
use Rattle.std.proofs.Common.{◌≡◌, ◌&&◌, ◌||◌, ◌++◌, ◌==◌, ℕ, zero, suc, length, Bool, true, false, not, if◌then◌else◌, List, [], ◌∷◌, map, Option, Some, None, refl, sym, ap, subst, ◌∙◌}
use mathlib.Core.Bool.{true≢false}
use Rattle.std.specs.List.{list_all}
use Rattle.std.proofs.lemmas.Bool.{le-leb, ltb-false}
use Rattle.std.proofs.lemmas.Bool.Decides.{Decides-eqb}
use Rattle.xb_span.specs.declared.span.Span.{Span}
use Rattle.dslx_meaning.specs.Lists.{all_some, and_then, where_true}
use Rattle.dslx_meaning.specs.Types.{same_type}
use Rattle.dslx_meaning.specs.Values.{plain_value, type_of_value}
use Rattle.dslx_meaning.specs.Environment.{Env}
use Rattle.dslx_meaning.specs.Meaning.{denotation}
use Rattle.dslx_meaning.specs.Operators.{number_value}
use Rattle.dslx_meaning.specs.declared.ty.DslxType.{DslxType, out-DslxType}
use Rattle.dslx_meaning.specs.declared.ty.DslxType as ty
use Rattle.dslx_meaning.specs.declared.ty.DslxType.TheOpen.{DslxType-F}
use Rattle.dslx_meaning.specs.declared.ty.DslxType.TheVariants as rolls
use Rattle.dslx_meaning.specs.declared.ty.DslxType.TheViews as views
use Rattle.dslx_meaning.specs.declared.value.UntypedLiteral.{UntypedLiteral}
use Rattle.dslx_meaning.specs.Rules.AggregateRules.{array_faults, array_in, array_parts, count_wrong, element_alone, element_in, element_type, first_type_of, is_some_tuple, like_first, pair_alone, pair_or_alone, part_type, range_faults, tuple_element_typing, tuple_typing, typed_array, untyped_array, wanted_faults, when_all}
use Rattle.dslx_meaning.specs.Rules.ConstantRules.{untyped_typing, is_empty, is_zero}
use Rattle.dslx_meaning.specs.Rules.TypeEnvs.{ExprPair, Instance, Judgement, TypeEnv, alone, untyped_of, breaks, breaks_if, faults_of_all, no_token, one_and, reached_of_all, settled, size_of_all, span_of, types_of, within}
use Rattle.dslx_meaning.specs.Rules.Typings.{TypeExprTyping}
use Rattle.dslx_meaning.specs.Rules.OperatorRules.{unless_type}
use Rattle.dslx_meaning.specs.Rules.PatternRules.{is_there}
use Rattle.dslx_core.specs.Typing.Typed.Complete.{IsWellTypedPart}
use Rattle.dslx_core.specs.Typing.Typed.Declared.{AllDeclared, Declarations, IsDeclared}
use Rattle.dslx_core.specs.Typing.Typed.WellTyped.{IsWellTypedEnv, types_at}
use Rattle.dslx_core.proofs.Lemmas.Typing.Typed.{all_are, element_declared, list_parts, none_some, not_false, number_given, one_type, or_false, same_some}
use Rattle.dslx_core.proofs.Lemmas.Typing.Sound.{all_in, none_in, none_in_three, not_broken, passed, settled_well_typed, some_fault}
use Rattle.dslx_core.specs.declared.expr.CoreExpr as core
use Rattle.dslx_core.specs.Lowering.CoreScopes.{CoreScope}
use Rattle.dslx_core.specs.Lowering.EqualTypes.{equal_type}
use Rattle.dslx_core.specs.Lowering.Lowering.{LoweredExpr, cores_of, lower_element, literal, lowered, lower_number, lower_tuple, types_of_lowered}
use Rattle.dslx_core.specs.Lowering.Patterns.{ExprLowering}
use Rattle.dslx_core.specs.Lowering.Trees.{LoweredPair, element_or_number, filled_array, lower_filled, of_type, TypeLowering, lower_all, lower_array, lower_array_elements}
use Rattle.dslx_total.specs.Expressions.Beside.{ScopeMatchesEnv}
use Rattle.dslx_total.specs.Expressions.ExprLowering.{ExprLowers, PartLowers, WrittenLowers, reaching, type_of_lowered}
use Rattle.dslx_total.proofs.OnExpressions.Equal.{equal_itself, equal_of_text}
use Rattle.dslx_total.proofs.OnExpressions.Lists.{EachExprLowers, all_there, all_typed, elements_become}
use Rattle.dslx_total.proofs.OnExpressions.Parts.{LowersTo, alone_lowers_to, type_lowers_to, within_lowers_to}

-- ---- tuples

pub lower_total_tuple : (span : Span) (es : List ExprPair) (xs : List LoweredPair) → EachExprLowers es xs → PartLowers (λ context. tuple_typing span context es) (λ scope. lower_tuple (lower_all scope xs))
lower_total_tuple span es xs k here context env scope h at well_typed =
    let js = map (element_alone context) es in
    let own = and_then (all_some (types_of js)) (λ ts. Some (ty.Tuple ts)) in
    let s = settled_well_typed (reaching context.known here) span own (faults_of_all js) (reached_of_all js) (one_and (size_of_all js)) well_typed in
    let all = elements_become here context env scope h at es xs k s.faults s.reached in
    ap (λ o. type_of_lowered (and_then o (λ es. lowered (core.Tuple (cores_of es)) (ty.Tuple (types_of_lowered es))))) (all_there (types_at context) (types_of js) (lower_all scope xs) all)
    ∙ sym (ap (λ o. and_then o (λ ts. Some (ty.Tuple ts))) (all_typed (types_at context) (types_of js) (lower_all scope xs) all)) ∙ sym s.ty

-- a receive's pair stands as it is
abbrev pair_by : TypeEnv → ExprPair → Option DslxType → Judgement
pair_by context e None = within context e
pair_by context e (Some t) = if is_some_tuple (out-DslxType t) then within context e else no_token (span_of e) (within context e)

pair_lowers_to : (here : Instance → Bool) (context : TypeEnv) (env : Env) (scope : CoreScope) (e : ExprPair) (l : ExprLowering) → ExprLowers e l → IsWellTypedEnv context env → ScopeMatchesEnv here context scope
    → IsWellTypedPart (reaching context.known here) (pair_alone context e) → LowersTo (types_at context) (pair_alone context e) (l scope)
pair_lowers_to here context env scope e l s h at well_typed = by_type (within context e).ty well_typed
  where
    by_test : (b : Bool) → IsWellTypedPart (reaching context.known here) (if b then within context e else no_token (span_of e) (within context e)) → LowersTo (types_at context) (if b then within context e else no_token (span_of e) (within context e)) (l scope)
    by_test true f = within_lowers_to here context env scope e l s h at f
    by_test false f = alone_lowers_to here context env scope e l s h at f.faults f.reached

    by_type : (o : Option DslxType) → IsWellTypedPart (reaching context.known here) (pair_by context e o) → LowersTo (types_at context) (pair_by context e o) (l scope)
    by_type None f = within_lowers_to here context env scope e l s h at f
    by_type (Some t) f = by_test (is_some_tuple (out-DslxType t)) f

taken_lowers_to : (k : ℕ) (here : Instance → Bool) (context : TypeEnv) (env : Env) (scope : CoreScope) (e : ExprPair) (l : ExprLowering) → ExprLowers e l → IsWellTypedEnv context env → ScopeMatchesEnv here context scope
    → IsWellTypedPart (reaching context.known here) (pair_or_alone k context e) → LowersTo (types_at context) (pair_or_alone k context e) (l scope)
taken_lowers_to zero here context env scope e l s h at well_typed = pair_lowers_to here context env scope e l s h at well_typed
taken_lowers_to (suc zero) here context env scope e l s h at well_typed = pair_lowers_to here context env scope e l s h at well_typed
taken_lowers_to (suc (suc k)) here context env scope e l s h at well_typed = alone_lowers_to here context env scope e l s h at well_typed.faults well_typed.reached

pub lower_total_element : (span : Span) (e : ExprPair) (k : ℕ) (x : ExprLowering) → ExprLowers e x → PartLowers (λ context. tuple_element_typing span context e k) (λ scope. lower_element (x scope) k)
lower_total_element span e k x se here context env scope h at well_typed =
    let a = pair_or_alone k context e in
    let wrong = unless_type (λ t. is_there (part_type t k)) 19 span a.ty in
    let s = settled_well_typed (reaching context.known here) span (and_then a.ty (λ t. part_type t k)) (a.faults ++ wrong) a.reached (one_and a.size) well_typed in
    let g = taken_lowers_to k here context env scope e x se h at (record { faults = (none_in a.faults wrong s.faults).0; reached = s.reached }) in
    ap (λ o. type_of_lowered (lower_element o k)) g.is ∙ typed g.expr (part_type g.expr.ty k) ∙ sym (ap (λ o. and_then o (λ t. part_type t k)) g.typed) ∙ sym s.ty
  where
    typed : (e : LoweredExpr) (o : Option DslxType) → type_of_lowered (and_then o (λ t. lowered (core.Element e.core k) t)) ≡ o
    typed e None = refl
    typed e (Some t) = refl

-- ---- arrays whose first element decides

-- as many are lowered
as_many : (f : ExprPair → Judgement) (es : List ExprPair) (us : List LoweredExpr) → types_of (map f es) ≡ map Some (types_of_lowered us) → length es ≡ length us
as_many f [] [] is = refl
as_many f [] (u ∷ us) is = some_fault (Some u.ty) (map Some (types_of_lowered us)) (sym is)
as_many f (e ∷ es) [] is = some_fault (f e).ty (types_of (map f es)) is
as_many f (e ∷ es) (u ∷ us) is = ap suc (as_many f es us (list_parts (f e).ty (Some u.ty) (types_of (map f es)) (map Some (types_of_lowered us)) is).1)

like_equal : (types : Declarations) (t : DslxType) (f : ExprPair → Judgement) (es : List ExprPair) (us : List LoweredExpr) → types_of (map f es) ≡ map Some (types_of_lowered us) → IsDeclared types t
    → AllDeclared types (types_of_lowered us) → like_first (Some t) es (types_of (map f es)) ≡ [] → list_all (λ (c : LoweredExpr). equal_type t c.ty) us ≡ true
like_equal types t f es [] is d ds e = refl
like_equal types t f [] (u ∷ us) is d ds e = some_fault (Some u.ty) (map Some (types_of_lowered us)) (sym is)
like_equal types t f (x ∷ xs) (u ∷ us) is d ds e =
    let p = list_parts (f x).ty (Some u.ty) (types_of (map f xs)) (map Some (types_of_lowered us)) is in
    let q = none_in (wanted_faults (span_of x) (Some t) (f x).ty) (like_first (Some t) xs (types_of (map f xs))) e in
    λ i. equal_of_text types t u.ty (passed (same_type t u.ty) 9 (span_of x) (ap (wanted_faults (span_of x) (Some t)) (sym p.0) ∙ q.0)) d ds.0 i && like_equal types t f xs us p.1 d ds.1 q.1 i

abbrev elements_of : CoreScope → List LoweredPair → List (Option UntypedLiteral × Option LoweredExpr)
elements_of scope xs = map (λ (e : LoweredPair). ((denotation e.0).bare, e.1 scope)) xs

values_alone : (scope : CoreScope) (xs : List LoweredPair) → map (λ (e : Option UntypedLiteral × Option LoweredExpr). e.1) (elements_of scope xs) ≡ lower_all scope xs
values_alone scope [] = refl
values_alone scope (x ∷ xs) = ap (λ os. x.1 scope ∷ os) (values_alone scope xs)

pub lower_total_untyped : (span : Span) (es : List ExprPair) (dots : Bool) (xs : List LoweredPair) → EachExprLowers es xs
    → PartLowers (λ context. untyped_array span context es dots) (λ scope. lower_array scope.count None (elements_of scope xs) dots)
lower_total_untyped span es dots xs k here context env scope h at well_typed =
    let js = map (element_alone context) es in
    let own = when_all (types_of js) (and_then (first_type_of (types_of js)) (λ t. Some (ty.Array t (length es)))) in
    let like = like_first (first_type_of (types_of js)) es (types_of js) in
    let wrong = breaks_if (dots || is_empty es) 21 span in
    let s = settled_well_typed (reaching context.known here) span own ((faults_of_all js ++ like) ++ wrong) (reached_of_all js) (one_and (size_of_all js)) well_typed in
    let f = none_in_three (faults_of_all js) like wrong s.faults in
    let all = elements_become here context env scope h at es xs k f.0 s.reached in
    let none = or_false dots (is_empty es) (not_broken (dots || is_empty es) 21 span f.2) in
    (λ i. type_of_lowered (if none.0 i then None else and_then (all_some (values_alone scope xs i)) lower_array_elements))
    ∙ ap (λ o. type_of_lowered (and_then o lower_array_elements)) (all_there (types_at context) (types_of js) (lower_all scope xs) all)
    ∙ by_first context es all.exprs none.1 all.typed all.declared f.1
    ∙ sym (ap (λ o. and_then o (λ ts. and_then (first_type_of (types_of js)) (λ t. Some (ty.Array t (length es))))) (all_typed (types_at context) (types_of js) (lower_all scope xs) all)) ∙ sym s.ty
  where
    by_first : (context : TypeEnv) (es : List ExprPair) (us : List LoweredExpr) → is_empty es ≡ false → types_of (map (element_alone context) es) ≡ map Some (types_of_lowered us) → AllDeclared (types_at context) (types_of_lowered us)
        → like_first (first_type_of (types_of (map (element_alone context) es))) es (types_of (map (element_alone context) es)) ≡ []
        → type_of_lowered (lower_array_elements us) ≡ and_then (first_type_of (types_of (map (element_alone context) es))) (λ t. Some (ty.Array t (length es)))
    by_first context [] us some is ds e = absurd (true≢false some)
    by_first context (x ∷ xs) [] some is ds e = some_fault (alone context x).ty (types_of (map (element_alone context) xs)) is
    by_first context (x ∷ xs) (u ∷ us) some is ds e =
        let f = element_alone context in
        let p = list_parts (f x).ty (Some u.ty) (types_of (map f xs)) (map Some (types_of_lowered us)) is in
        let first : like_first (Some u.ty) (x ∷ xs) (types_of (map f (x ∷ xs))) ≡ [] = ap (λ o. like_first o (x ∷ xs) (types_of (map f (x ∷ xs)))) (sym p.0) ∙ e in
        let rest = (none_in (wanted_faults (span_of x) (Some u.ty) (f x).ty) (like_first (Some u.ty) xs (types_of (map f xs))) first).1 in
        ap (λ b. type_of_lowered (where_true b (lowered (core.Array (cores_of (u ∷ us))) (ty.Array u.ty (suc (length us)))))) (like_equal (types_at context) u.ty f xs us p.1 ds.0 ds.1 rest)
        ∙ ap (λ n. Some (ty.Array u.ty (suc n))) (sym (as_many f xs us p.1))
        ∙ ap (λ o. and_then o (λ t. Some (ty.Array t (length (x ∷ xs))))) (sym p.0)

-- ---- arrays with a type

-- an element that may be a number without a type
abbrev element_by : TypeEnv → DslxType → ExprPair → Option UntypedLiteral → Judgement
element_by context w e None = record (alone context e) { faults = (alone context e).faults ++ wanted_faults (span_of e) (Some w) (alone context e).ty }
element_by context w e (Some number) = record untyped_typing { ty = Some w; faults = range_faults (span_of e) (Some w) number }

-- such an element: its type, and what it becomes
record ElementLowersTo (context : TypeEnv) (w : DslxType) (e : ExprPair) (bare : Option UntypedLiteral) (o : Option LoweredExpr) : Type 0 where
  own : DslxType
  typed : (element_by context w e bare).ty ≡ Some own
  expr : LoweredExpr
  is : element_or_number w bare o ≡ Some expr

number_typed : (types : Declarations) (w : DslxType) (number : UntypedLiteral) → IsDeclared types w → is_there (number_value w number) ≡ true → (u : LoweredExpr) × (of_type w (lower_number (Some w) number) ≡ Some u)
number_typed types w number d e =
    let g = number_given types w number e d in
    let u : LoweredExpr = record { core = core.Literal (plain_value g.value); ty = type_of_value g.value } in (
      u,
      ap (λ o. of_type w (and_then o literal)) g.is ∙ ap (λ b. where_true b (Some u)) (ap (equal_type w) (one_type w g.value g.of) ∙ equal_itself w),
    )

one_element : (here : Instance → Bool) (context : TypeEnv) (env : Env) (scope : CoreScope) → IsWellTypedEnv context env → ScopeMatchesEnv here context scope → (w : DslxType) → IsDeclared (types_at context) w → (e : ExprPair) (l : ExprLowering)
    → ExprLowers e l → (o : Option UntypedLiteral) → IsWellTypedPart (reaching context.known here) (element_by context w e o) → ElementLowersTo context w e o (l scope)
one_element here context env scope h at w d e l s None well_typed =
    let a = alone context e in
    let p = none_in a.faults (wanted_faults (span_of e) (Some w) a.ty) well_typed.faults in
    let g = alone_lowers_to here context env scope e l s h at p.0 well_typed.reached in
    let same = passed (same_type w g.expr.ty) 9 (span_of e) (ap (wanted_faults (span_of e) (Some w)) (sym g.typed) ∙ p.1) in
    record {
      own = g.expr.ty;
      typed = g.typed;
      expr = g.expr;
      is = ap (of_type w) g.is ∙ ap (λ b. where_true b (Some g.expr)) (equal_of_text (types_at context) w g.expr.ty same d g.declared);
    }
one_element here context env scope h at w d e l s (Some number) well_typed =
    let n = number_typed (types_at context) w number d (passed (is_there (number_value w number)) 6 (span_of e) well_typed.faults) in
    record { own = w; typed = refl; expr = n.0; is = n.1 }

-- all of them
record AreElements (context : TypeEnv) (w : DslxType) (es : List ExprPair) (os : List (Option LoweredExpr)) : Type 0 where
  types : List DslxType
  typed : types_of (map (element_in context (Some w)) es) ≡ map Some types
  exprs : List LoweredExpr
  are : os ≡ map Some exprs
  many : length exprs ≡ length es

abbrev typed_elements : DslxType → List (Option UntypedLiteral × Option LoweredExpr) → List (Option LoweredExpr)
typed_elements w es = map (λ (e : Option UntypedLiteral × Option LoweredExpr). element_or_number w e.0 e.1) es

all_elements : (here : Instance → Bool) (context : TypeEnv) (env : Env) (scope : CoreScope) → IsWellTypedEnv context env → ScopeMatchesEnv here context scope → (w : DslxType) → IsDeclared (types_at context) w
    → (es : List ExprPair) (xs : List LoweredPair) → EachExprLowers es xs → faults_of_all (map (element_in context (Some w)) es) ≡ [] → list_all here (reached_of_all (map (element_in context (Some w)) es)) ≡ true
    → AreElements context w es (typed_elements w (elements_of scope xs))
all_elements here context env scope h at w d [] [] k f r = record { types = []; typed = refl; exprs = []; are = refl; many = refl }
all_elements here context env scope h at w d [] (x ∷ xs) k f r = absurd k
all_elements here context env scope h at w d (e ∷ es) [] k f r = absurd k
all_elements here context env scope h at w d (e ∷ es) (x ∷ xs) k f r =
    let j = element_in context (Some w) e in
    let p = none_in j.faults (faults_of_all (map (element_in context (Some w)) es)) f in
    let q = all_in here j.reached (reached_of_all (map (element_in context (Some w)) es)) r in
    let one = one_element here context env scope h at w d e x.1 k.1 (untyped_of e) (record { faults = p.0; reached = q.0 }) in
    let more = all_elements here context env scope h at w d es xs k.2 p.1 q.1 in
    let first : element_or_number w (denotation x.0).bare (x.1 scope) ≡ Some one.expr = ap (λ t. element_or_number w (denotation t).bare (x.1 scope)) (sym k.0) ∙ one.is in
    record {
      types = one.own ∷ more.types;
      typed = λ i. one.typed i ∷ more.typed i;
      exprs = one.expr ∷ more.exprs;
      are = λ i. first i ∷ more.are i;
      many = ap suc more.many;
    }

-- the type of an array, by its element and its size
pub array_is : (t : DslxType) (parts : DslxType × ℕ) → array_in t ≡ Some parts → ty.Array parts.0 parts.1 ≡ t
array_is t parts e = by_level (out-DslxType t) refl e
  where
    by_level : (l : DslxType-F DslxType) → out-DslxType t ≡ l → array_parts l ≡ Some parts → ty.Array parts.0 parts.1 ≡ t
    by_level (DslxType-F.Array v n) q r =
        (λ i. ty.Array (sym (same_some (v, n) parts r) i).0 (sym (same_some (v, n) parts r) i).1) ∙ sym (rolls.rolls-Array v n) ∙ ap views.roll-DslxType (sym q) ∙ views.roll-out-DslxType t
    by_level (DslxType-F.Bits s w) q r = none_some parts r
    by_level (DslxType-F.Tuple ts) q r = none_some parts r
    by_level (DslxType-F.Struct name fields ts) q r = none_some parts r
    by_level (DslxType-F.Enum name s w) q r = none_some parts r
    by_level DslxType-F.Token q r = none_some parts r

-- as many elements as are wanted
filled_typed : (count : ℕ) (types : Declarations) (t : DslxType) (n : ℕ) (dots : Bool) (us : List LoweredExpr) → IsDeclared types (ty.Array t n) → count_wrong dots n (length us) ≡ false
    → type_of_lowered (lower_filled count t dots n us) ≡ Some (ty.Array t n)
filled_typed count types t n true [] d e = absurd (true≢false e)
filled_typed count types t n false [] d e = absurd (true≢false (sym (element_declared types t n d).1 ∙ ap (λ n. not (is_zero n)) ((Decides-eqb n 0).0 (not_false (n == 0) e))))
filled_typed count types t n false (u ∷ us) d e =
    let same : n ≡ suc (length us) = (Decides-eqb n (suc (length us))).0 (not_false (n == suc (length us)) e) in
    ap (λ b. type_of_lowered (where_true b (lowered (core.Array (cores_of (u ∷ us))) (ty.Array t n)))) ((Decides-eqb (suc (length us)) n).1 (sym same))
filled_typed count types t n true (u ∷ us) d e =
    ap (λ b. type_of_lowered (where_true b (lowered (filled_array count n u us) (ty.Array t n)))) (le-leb (suc (length us)) n (ltb-false n (suc (length us)) e))

pub lower_total_typed : (span : Span) (j : TypeExprTyping) (l : TypeLowering) (es : List ExprPair) (dots : Bool) (xs : List LoweredPair) → WrittenLowers j l → EachExprLowers es xs
    → PartLowers (λ context. typed_array span context (j context) es dots) (λ scope. lower_array scope.count (Some (l scope)) (elements_of scope xs) dots)
lower_total_typed span j l es dots xs st k here context env scope h at well_typed = by_parts (and_then (j context).ty array_in) refl well_typed
  where
    typing_by : Option (DslxType × ℕ) → Judgement
    typing_by parts =
        let js = map (element_in context (element_type parts)) es in
        settled span (when_all (types_of js) (j context).ty) (((j context).faults ++ faults_of_all js) ++ array_faults span (j context).ty parts (length es) dots) ((j context).reached ++ reached_of_all js) (one_and (size_of_all js))

    no_array : {X : Type 0} (o : Option DslxType) (t : DslxType) → o ≡ Some t → array_faults span o None (length es) dots ≡ [] → X
    no_array None t e q = none_some t e
    no_array (Some u) t e q = some_fault (breaks 9 span) [] q

    by_parts : (o : Option (DslxType × ℕ)) → and_then (j context).ty array_in ≡ o → IsWellTypedPart (reaching context.known here) (typing_by o)
        → type_of_lowered (lower_array scope.count (Some (l scope)) (elements_of scope xs) dots) ≡ (typed_array span context (j context) es dots).ty
    by_parts None q g =
        let js = map (element_in context None) es in
        let wrong = array_faults span (j context).ty None (length es) dots in
        let s = settled_well_typed (reaching context.known here) span (when_all (types_of js) (j context).ty) (((j context).faults ++ faults_of_all js) ++ wrong) ((j context).reached ++ reached_of_all js) (one_and (size_of_all js)) g in
        let p = none_in_three (j context).faults (faults_of_all js) wrong s.faults in
        let r = all_in here (j context).reached (reached_of_all js) s.reached in
        let t = type_lowers_to here context env scope j l st h at (record { faults = p.0; reached = r.0 }) in
        no_array (j context).ty t.ty t.typed p.2
    by_parts (Some parts) q g =
        let js = map (element_in context (Some parts.0)) es in
        let wrong = array_faults span (j context).ty (Some parts) (length es) dots in
        let s = settled_well_typed (reaching context.known here) span (when_all (types_of js) (j context).ty) (((j context).faults ++ faults_of_all js) ++ wrong) ((j context).reached ++ reached_of_all js) (one_and (size_of_all js)) g in
        let p = none_in_three (j context).faults (faults_of_all js) wrong s.faults in
        let r = all_in here (j context).reached (reached_of_all js) s.reached in
        let t = type_lowers_to here context env scope j l st h at (record { faults = p.0; reached = r.0 }) in
        let array = sym (ap (λ o. and_then o array_in) t.typed) ∙ q in
        let is = array_is t.ty parts array in
        let d = subst (IsDeclared (types_at context)) (sym is) t.declared in
        let all = all_elements here context env scope h at parts.0 (element_declared (types_at context) parts.0 parts.1 d).0 es xs k p.1 r.1 in
        let count = not_broken (count_wrong dots parts.1 (length es)) 21 span (ap (λ o. array_faults span o (Some parts) (length es) dots) (sym t.typed) ∙ p.2) in
        ap (λ o. type_of_lowered (lower_array scope.count (Some o) (elements_of scope xs) dots)) t.is
        ∙ ap (λ o. type_of_lowered (and_then o (λ parts. and_then (all_some (typed_elements parts.0 (elements_of scope xs))) (lower_filled scope.count parts.0 dots parts.1)))) array
        ∙ ap (λ o. type_of_lowered (and_then o (lower_filled scope.count parts.0 dots parts.1))) (ap all_some all.are ∙ all_are all.exprs)
        ∙ filled_typed scope.count (types_at context) parts.0 parts.1 dots all.exprs d (ap (count_wrong dots parts.1) all.many ∙ count)
        ∙ ap Some is
        ∙ sym (ap (λ o. (typing_by o).ty) q ∙ s.ty ∙ (λ i. when_all (all.typed i) (t.typed i)) ∙ ap (λ o. and_then o (λ ts. Some t.ty)) (all_are all.types))
