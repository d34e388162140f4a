-- Arrays and tuples by what their elements are.
use Rattle.std.proofs.Common.{◌≡◌, ◌++◌, ◌∙◌, ◌||◌, ℕ, zero, suc, List, [], ◌∷◌, Bool, true, false, Option, Some, None, map, length, refl, sym, ap, subst}
use Rattle.std.specs.Prelude.{if◌then◌else◌}
use Rattle.xb_span.specs.declared.span.Span.{Span}
use Rattle.dslx_tree.specs.declared.expr.Expr.{Expr, out-Expr}
use Rattle.dslx_tree.specs.declared.type_expr.TypeExpr.{TypeExpr}
use Rattle.dslx_meaning.specs.Lists.{all_some, and_then}
use Rattle.dslx_meaning.specs.Meaning.{denotation}
use Rattle.dslx_meaning.specs.declared.ty.DslxType.{DslxType, out-DslxType}
use Rattle.dslx_meaning.specs.declared.ty.DslxType as ty
use Rattle.dslx_meaning.specs.declared.value.UntypedLiteral.{UntypedLiteral}
use Rattle.dslx_meaning.specs.Rules.TypeEnvs.{TypeEnv, Judgement, alone, breaks_if, faults_of_all, no_token, one_and, reached_of_all, settled, size_of_all, span_of, types_of}
use Rattle.dslx_meaning.specs.Rules.ConstantRules.{is_empty, untyped_typing}
use Rattle.dslx_meaning.specs.Rules.AggregateRules.{array_faults, array_in, element_alone, element_in, element_type, first_type_of, is_some_tuple, like_first, part_type, pair_or_alone, range_faults, tuple_element_typing, tuple_typing, typed_array, untyped_array, wanted_faults, when_all}
use Rattle.dslx_meaning.specs.Rules.OperatorRules.{unless_type}
use Rattle.dslx_meaning.specs.Rules.PatternRules.{is_there}
use Rattle.dslx_meaning.specs.Rules.TypeRules.{inner_types}
use Rattle.dslx_meaning.specs.Rules.RuleNumbers as rule
use Rattle.dslx_check_rules.specs.Nodes.Nodes.Aggregates.{pair_or_no_token, taken_apart, tuple_element_of}
use Rattle.dslx_check_rules.specs.Nodes.Nodes.Arrays.{IsElement, Untyped, Value, element_seen, tuple_of, typed_array_of, unlike, untyped_array_of}
use Rattle.dslx_check_rules.specs.Nodes.Nodes.Lists.{element_of}
use Rattle.dslx_check_rules.specs.Nodes.Nodes.Written.{tuple_type_of}
use Rattle.dslx_check_rules.specs.declared.typing.Typing.{Typing}
use Rattle.dslx_check_facts.specs.declared.facts.Facts.{Facts}
use Rattle.dslx_check_facts.specs.declared.type_env.TypeEnv.{TypeEnv as CodeEnv}
use Rattle.dslx_check_facts.specs.Walks.{WalkShown}
use Rattle.dslx_check_rules.specs.declared.nodes.arrays.Element.TheVariants as element
use Rattle.dslx_check_leaves.specs.Named.Constants.{expr_typed}
use Rattle.dslx_check_leaves.specs.Fits.Typed.{type_typed}
use Rattle.dslx_check_leaves.specs.Walked.{WalksTo, TypesPart, TypesOne, element_reached}
use Rattle.dslx_check_leaves.proofs.Lemmas.Walking.{halved, no_token_reached, nothing_reached, same_types}
use Rattle.dslx_check_leaves.specs.Typed.{element_at, element_by, placed, placed_type, tuple_at}

-- ---- elements that stand alone

inner_are : (env : TypeEnv) (es : List Expr) → map element_of (map (placed env) es) ≡ map (element_alone env) (map expr_typed es)
inner_are env [] = refl
inner_are env (e ∷ es) = ap (λ js. element_alone env (expr_typed e) ∷ js) (inner_are env es)

pub tuple_is : (span : Span) (es : List Expr) → ◌≡◌ {A = TypeEnv → Judgement} (λ env. tuple_of span (map (placed env) es)) (λ env. tuple_typing span env (map expr_typed es))
tuple_is span es = λ i env. settled span (and_then (all_some (types_of (inner_are env es i))) (λ ts. Some (ty.Tuple ts))) (faults_of_all (inner_are env es i))
    (reached_of_all (inner_are env es i)) (one_and (size_of_all (inner_are env es i)))

like_first_is : (env : TypeEnv) (first : Option DslxType) (es : List Expr) → unlike first (map (placed env) es) ≡ like_first first (map expr_typed es) (types_of (map (element_alone env) (map expr_typed es)))
like_first_is env first [] = refl
like_first_is env first (e ∷ es) = ap (λ fs. wanted_faults (out-Expr e).span first (alone env (expr_typed e)).ty ++ fs) (like_first_is env first es)

placed_length : (env : TypeEnv) (es : List Expr) → length (map (placed env) es) ≡ length (map expr_typed es)
placed_length env [] = refl
placed_length env (e ∷ es) = ap (λ n. suc n) (placed_length env es)

none_placed : (env : TypeEnv) (es : List Expr) → is_empty (map (placed env) es) ≡ is_empty (map expr_typed es)
none_placed env [] = refl
none_placed env (e ∷ es) = refl

pub untyped_array_is : (span : Span) (dots : Bool) (es : List Expr)
    → ◌≡◌ {A = TypeEnv → Judgement} (λ env. untyped_array_of span dots (map (placed env) es)) (λ env. untyped_array span env (map expr_typed es) dots)
untyped_array_is span dots es = λ i env.
    let js = inner_are env es in
    (ap (λ (ks : List Judgement). settled span (when_all (types_of ks) (and_then (first_type_of (types_of ks)) (λ t. Some (ty.Array t (length (map (placed env) es))))))
    (faults_of_all ks ++ unlike (first_type_of (types_of ks)) (map (placed env) es) ++ breaks_if (dots || is_empty (map (placed env) es)) rule.ARRAY_ELEMENT_COUNT span)
    (reached_of_all ks) (one_and (size_of_all ks))) js
    ∙ by env (map (element_alone env) (map expr_typed es))) i
  where
    by : (env : TypeEnv) (ks : List Judgement)
        → settled span (when_all (types_of ks) (and_then (first_type_of (types_of ks)) (λ t. Some (ty.Array t (length (map (placed env) es))))))
        (faults_of_all ks ++ unlike (first_type_of (types_of ks)) (map (placed env) es) ++ breaks_if (dots || is_empty (map (placed env) es)) rule.ARRAY_ELEMENT_COUNT span)
        (reached_of_all ks) (one_and (size_of_all ks))
        ≡ settled span (when_all (types_of ks) (and_then (first_type_of (types_of ks)) (λ t. Some (ty.Array t (length (map expr_typed es))))))
        (faults_of_all ks ++ like_first (first_type_of (types_of ks)) (map expr_typed es) (types_of (map (element_alone env) (map expr_typed es))) ++ breaks_if (dots || is_empty (map expr_typed es)) rule.ARRAY_ELEMENT_COUNT span)
        (reached_of_all ks) (one_and (size_of_all ks))
    by env ks = λ i. settled span (when_all (types_of ks) (and_then (first_type_of (types_of ks)) (λ t. Some (ty.Array t (placed_length env es i)))))
        (faults_of_all ks ++ like_first_is env (first_type_of (types_of ks)) es i ++ breaks_if (dots || none_placed env es i) rule.ARRAY_ELEMENT_COUNT span)
        (reached_of_all ks) (one_and (size_of_all ks))

-- ---- elements of an array that has a type

abbrev element_in_by : TypeEnv → Option DslxType → Expr → Option UntypedLiteral → Judgement
element_in_by env wanted e None = let j = alone env (expr_typed e) in record j { faults = j.faults ++ wanted_faults (span_of (expr_typed e)) wanted j.ty }
element_in_by env wanted e (Some number) = record untyped_typing { ty = wanted; faults = range_faults (span_of (expr_typed e)) wanted number }

element_in_is : (env : TypeEnv) (wanted : Option DslxType) (e : Expr) → element_in env wanted (expr_typed e) ≡ element_in_by env wanted e (denotation e).bare
element_in_is env wanted e = refl

element_by_is : (env : TypeEnv) (wanted : Option DslxType) (e : Expr) (number : Option UntypedLiteral) → element_seen wanted (element_by env e number) ≡ element_in_by env wanted e number
element_by_is env wanted e None = refl
element_by_is env wanted e (Some number) = refl

elements_are : (env : TypeEnv) (wanted : Option DslxType) (es : List Expr) → map (element_seen wanted) (map (element_at env) es) ≡ map (element_in env wanted) (map expr_typed es)
elements_are env wanted [] = refl
elements_are env wanted (e ∷ es) = λ i. (element_by_is env wanted e (denotation e).bare ∙ sym (element_in_is env wanted e)) i ∷ elements_are env wanted es i

elements_length : (env : TypeEnv) (es : List Expr) → length (map (element_at env) es) ≡ length (map expr_typed es)
elements_length env [] = refl
elements_length env (e ∷ es) = ap (λ n. suc n) (elements_length env es)

pub typed_array_is : (span : Span) (dots : Bool) (T : TypeEnv → Judgement) (es : List Expr)
    → ◌≡◌ {A = TypeEnv → Judgement} (λ env. typed_array_of span dots (T env) (map (element_at env) es)) (λ env. typed_array span env (T env) (map expr_typed es) dots)
typed_array_is span dots T es = λ i env.
    let t = T env in
    let parts = and_then t.ty array_in in
    let js = elements_are env (element_type parts) es i in
    settled span (when_all (types_of js) t.ty) (t.faults ++ faults_of_all js ++ array_faults span t.ty parts (elements_length env es i) dots) (t.reached ++ reached_of_all js) (one_and (size_of_all js))

-- an element that is a number without a type
pub element_number : {f : Facts} {s : CodeEnv} {w : WalkShown} (e : Expr) (number : UntypedLiteral) → (denotation e).bare ≡ Some number
    → WalksTo f s s w w (TypesOne IsElement element_reached (element.Untyped (out-Expr e).span number) (λ env. element_at env e))
element_number {f} {s} {w} e number is =
    subst (λ (o : Option UntypedLiteral). WalksTo f s s w w (TypesOne IsElement element_reached (element.Untyped (out-Expr e).span number) (λ env. element_by env e o))) (sym is)
    (nothing_reached (TypesOne IsElement element_reached (element.Untyped (out-Expr e).span number) (λ env. element_by env e (Some number))) (same_types w.rows)
    (λ names later env distinct p. record { part = (refl, refl); reaches = refl }))

-- and one that is a value
pub element_value : {f : Facts} {s0 s1 : CodeEnv} {w0 w1 : WalkShown} {j : Typing} (e : Expr) → (denotation e).bare ≡ None → WalksTo f s0 s1 w0 w1 (TypesPart j (λ env. alone env (expr_typed e)))
    → WalksTo f s0 s1 w0 w1 (TypesOne IsElement element_reached (element.Value (record { span = (out-Expr e).span; typing = j })) (λ env. element_at env e))
element_value {f} {s0} {s1} {w0} {w1} {j} e is g =
    subst (λ (o : Option UntypedLiteral). WalksTo f s0 s1 w0 w1 (TypesOne IsElement element_reached (element.Value (record { span = (out-Expr e).span; typing = j })) (λ env. element_by env e o))) (sym is)
    (halved (TypesPart j (λ env. alone env (expr_typed e))) (TypesOne IsElement element_reached (element.Value (record { span = (out-Expr e).span; typing = j })) (λ env. element_by env e None)) g (same_types w1.rows)
    (λ names later more env distinct p t. record { part = record { span = refl; part = t.part }; reaches = t.reaches }))

-- ---- what is taken apart by a number

apart_is : (k : ℕ) (env : TypeEnv) (e : Expr) → taken_apart k (out-Expr e).span ((expr_typed e).1 false env) ≡ pair_or_alone k env (expr_typed e)
apart_is zero env e = refl
apart_is (suc zero) env e = refl
apart_is (suc (suc k)) env e = refl

pub tuple_element_is : (span : Span) (e : Expr) (k : ℕ)
    → ◌≡◌ {A = TypeEnv → Judgement} (λ env. tuple_element_of span (out-Expr e).span k ((expr_typed e).1 false env)) (λ env. tuple_element_typing span env (expr_typed e) k)
tuple_element_is span e k = λ i env. whole_of (apart_is k env e i)
  where
    whole_of : Judgement → Judgement
    whole_of whole = settled span (and_then whole.ty (λ t. part_type t k)) (whole.faults ++ unless_type (λ t. is_there (part_type t k)) rule.PART_IS_THERE span whole.ty) whole.reached (one_and whole.size)

-- it reaches what the whole does
apart_reached : (k : ℕ) (at : Span) (x : Judgement) → (taken_apart k at x).reached ≡ x.reached
apart_reached zero at x = pair_reached at x x.ty
  where
    pair_reached : (at : Span) (x : Judgement) (t : Option DslxType) → (pair_or_no_token at x t).reached ≡ x.reached
    pair_reached at x None = refl
    pair_reached at x (Some t) = by (is_some_tuple (out-DslxType t))
      where
        by : (b : Bool) → (if b then x else no_token at x).reached ≡ x.reached
        by true = refl
        by false = no_token_reached at x
apart_reached (suc zero) at x = apart_reached zero at x
apart_reached (suc (suc k)) at x = no_token_reached at x

pub tuple_element_reached : (span at : Span) (k : ℕ) (x : Judgement) → (tuple_element_of span at k x).reached ≡ x.reached
tuple_element_reached span at k x = apart_reached k at x

-- ---- tuples of types

types_are : (env : TypeEnv) (ts : List TypeExpr) → map element_of (map (placed_type env) ts) ≡ inner_types env (map type_typed ts)
types_are env [] = refl
types_are env (t ∷ ts) = ap (λ js. element_of (placed_type env t) ∷ js) (types_are env ts)

pub tuple_type_is : (span : Span) (ts : List TypeExpr) → ◌≡◌ {A = TypeEnv → Judgement} (λ env. tuple_type_of span (map (placed_type env) ts)) (λ env. tuple_at span ts env)
tuple_type_is span ts = λ i env. settled span (and_then (all_some (types_of (types_are env ts i))) (λ us. Some (ty.Tuple us))) (faults_of_all (types_are env ts i))
    (reached_of_all (types_are env ts i)) (Some 0)
