-- Calls become something.
use Rattle.std.proofs.Common.{◌≡◌, ◌||◌, ◌++◌, ◌==◌, ℕ, suc, length, Bool, true, false, not, if◌then◌else◌, List, [], ◌∷◌, map, Option, Some, None, refl, sym, ap, subst, ◌∙◌, arith}
use Rattle.std.specs.Prelude.{nat_lt}
use Rattle.std.specs.List.{list_all}
use Rattle.std.proofs.lemmas.Bool.Decides.{Decides-eqb}
use Rattle.xb_span.specs.declared.span.Span.{Span}
use Rattle.xb_span.specs.declared.fault.Fault.{Fault}
use Rattle.dslx_tree.specs.declared.expr.Arg.{Arg}
use Rattle.dslx_tree.specs.declared.expr.Expr.{Expr}
use Rattle.dslx_tree.specs.declared.ident.Ident.{Ident}
use Rattle.dslx_tree.specs.declared.item.Field.{Field}
use Rattle.dslx_tree.specs.declared.item.Function.{Function}
use Rattle.dslx_meaning.specs.Callees.{AllOnes, CallKind, Calls, CountsLeading, CountsTrailing, Joins, Parity, Receives, ReceivesIf, Reverses, Sends, SendsIf, SomeOne, Updates}
use Rattle.dslx_meaning.specs.Lists.{all_some, and_then, where_true, with_both}
use Rattle.dslx_meaning.specs.Types.{bool_type, same_type}
use Rattle.dslx_meaning.specs.Environment.{Env}
use Rattle.dslx_meaning.specs.Items.{as_function, item_named}
use Rattle.dslx_meaning.specs.Meaning.{ExprDen}
use Rattle.dslx_meaning.specs.declared.ty.DslxType.{DslxType}
use Rattle.dslx_meaning.specs.declared.ty.DslxType as ty
use Rattle.dslx_meaning.specs.declared.value.DslxValue.{DslxValue}
use Rattle.dslx_meaning.specs.Rules.AggregateRules.{array_in, element_type, is_array, wanted_faults, when_all}
use Rattle.dslx_meaning.specs.Rules.CallRules.{Before, ParametricArgument, ParametricArgsSeen, builtin_typing, call_typing, call_parametric_args, call_parts_faults, call_parts_reached, counting, first_operand_type, function_call, given_judgements, given_parametric_args, has_right_count, joining, operand_faults, reached_by, receiving, receiving_if, right_call, sending, sending_if, signature_seen, token_faults, token_typing, unnumbered_effect, update_faults, updating, without_parametric_args, wrong_call}
use Rattle.dslx_meaning.specs.Rules.ConstantRules.{constant_of, is_unsigned}
use Rattle.dslx_meaning.specs.Rules.TypeEnvs.{ExprPair, Instance, Judgement, TypeEnv, all_alone, alone, breaks, breaks_if, faults_of_all, has_broken, one_and, plus_size, reached_of_all, size_of_all, span_of, types_of, within}
use Rattle.dslx_meaning.specs.Rules.Typings.{ArgPair}
use Rattle.dslx_meaning.specs.Rules.OperatorRules.{is_bits, unless_type}
use Rattle.dslx_core.proofs.Lemmas.Typing.Laws.{and_true}
use Rattle.dslx_core.specs.Typing.Typed.Complete.{EachArgumentDeclared, IsWellTypedPart, signature_at}
use Rattle.dslx_core.specs.Typing.Typed.Declared.{AllDeclared, IsDeclared}
use Rattle.dslx_core.specs.Typing.Typed.WellTyped.{IsWellTypedEnv, types_at}
use Rattle.dslx_core.proofs.Lemmas.Typing.Typed.{all_are, element_declared, list_parts, one_of_text}
use Rattle.dslx_core.proofs.Lemmas.Typing.Complete.{own_parametric_args}
use Rattle.dslx_core.specs.Typing.Sound.Sound.{EachExprGives, ExprGives}
use Rattle.dslx_core.proofs.Lemmas.Typing.Sound.{CallFound, all_in, all_in_three, call_found, none_in, none_in_three, passed, right_well_typed, settled_well_typed, some_fault, wrongly_called}
use Rattle.dslx_core.specs.declared.expr.CoreExpr as core
use Rattle.dslx_core.specs.declared.expr.CoreUnary.{CoreUnary}
use Rattle.dslx_core.specs.declared.expr.CoreUnary.TheVariants as u
use Rattle.dslx_core.specs.Lowering.CoreScopes.{CoreScope, constant_at}
use Rattle.dslx_core.specs.Lowering.EqualTypes.{equal_type}
use Rattle.dslx_core.specs.Lowering.Lowering.{LoweredExpr, lower_call, cores_of, lower_counted, lower_function, lowered, lower_reduced, types_of_lowered, lower_updated}
use Rattle.dslx_core.specs.Lowering.Patterns.{ExprLowering}
use Rattle.dslx_core.specs.Lowering.Trees.{LoweredPair, lower_all}
use Rattle.dslx_total.specs.Expressions.Beside.{AreDeclaredFor, ScopeMatchesEnv}
use Rattle.dslx_total.specs.Expressions.ExprLowering.{PartLowers, reaching, type_of_lowered}
use Rattle.dslx_total.proofs.OnExpressions.Constants.{constant_there}
use Rattle.dslx_total.proofs.OnExpressions.Equal.{equal_of_text}
use Rattle.dslx_total.proofs.OnExpressions.Lists.{AllBecome, EachExprLowers, all_alone_become, all_there, all_typed, none_become, one_more_lowers_to}
use Rattle.dslx_total.proofs.OnExpressions.OfAggregates.{array_is}
use Rattle.dslx_total.proofs.OnExpressions.OfOperations.{there, unless_passed}
use Rattle.dslx_total.proofs.OnExpressions.Parts.{alone_lowers_to, well_typed_there, within_lowers_to}

-- ---- builtins of one operand

lower_total_counts : (span : Span) (op : CoreUnary) (es : List ExprPair) (xs : List LoweredPair) → EachExprLowers es xs
    → PartLowers (λ context. counting span es (all_alone context es) (first_operand_type (all_alone context es))) (λ scope. lower_counted op (lower_all scope xs))
lower_total_counts span op [] xs k here context env scope h at well_typed = wrongly_called (reaching context.known here) span [] [] [] well_typed
lower_total_counts span op (e ∷ d ∷ es) xs k here context env scope h at well_typed = wrongly_called (reaching context.known here) span [] (alone context e ∷ alone context d ∷ all_alone context es) [] well_typed
lower_total_counts span op (e ∷ []) [] k here context env scope h at well_typed = absurd k
lower_total_counts span op (e ∷ []) (x ∷ y ∷ xs) k here context env scope h at well_typed = absurd k.2
lower_total_counts span op (e ∷ []) (x ∷ []) k here context env scope h at well_typed =
    let a = alone context e in
    let bits = unless_type is_bits 27 (span_of e) a.ty in
    let s = settled_well_typed (reaching context.known here) span (and_then a.ty (λ t. a.ty)) (a.faults ++ bits) a.reached (one_and a.size) well_typed in
    let g = alone_lowers_to here context env scope e x.1 k.1 h at (none_in a.faults bits s.faults).0 s.reached in
    ap (λ o. type_of_lowered (lower_counted op (o ∷ []))) g.is ∙ sym (λ i. and_then (g.typed i) (λ t. g.typed i)) ∙ sym s.ty

lower_total_reduces : (span : Span) (op : CoreUnary) (es : List ExprPair) (xs : List LoweredPair) → EachExprLowers es xs
    → PartLowers (λ context. counting span es (all_alone context es) (Some bool_type)) (λ scope. lower_reduced op (lower_all scope xs))
lower_total_reduces span op [] xs k here context env scope h at well_typed = wrongly_called (reaching context.known here) span [] [] [] well_typed
lower_total_reduces span op (e ∷ d ∷ es) xs k here context env scope h at well_typed = wrongly_called (reaching context.known here) span [] (alone context e ∷ alone context d ∷ all_alone context es) [] well_typed
lower_total_reduces span op (e ∷ []) [] k here context env scope h at well_typed = absurd k
lower_total_reduces span op (e ∷ []) (x ∷ y ∷ xs) k here context env scope h at well_typed = absurd k.2
lower_total_reduces span op (e ∷ []) (x ∷ []) k here context env scope h at well_typed =
    let a = alone context e in
    let bits = unless_type is_bits 27 (span_of e) a.ty in
    let s = settled_well_typed (reaching context.known here) span (and_then a.ty (λ t. Some bool_type)) (a.faults ++ bits) a.reached (one_and a.size) well_typed in
    let g = alone_lowers_to here context env scope e x.1 k.1 h at (none_in a.faults bits s.faults).0 s.reached in
    ap (λ o. type_of_lowered (lower_reduced op (o ∷ []))) g.is ∙ sym (ap (λ o. and_then o (λ t. Some bool_type)) g.typed) ∙ sym s.ty

-- ---- `update`

lower_total_updates : (span : Span) (es : List ExprPair) (xs : List LoweredPair) → EachExprLowers es xs → PartLowers (λ context. updating span es (all_alone context es)) (λ scope. lower_updated (lower_all scope xs))
lower_total_updates span [] xs k here context env scope h at well_typed = wrongly_called (reaching context.known here) span [] [] [] well_typed
lower_total_updates span (e ∷ []) xs k here context env scope h at well_typed = wrongly_called (reaching context.known here) span [] (alone context e ∷ []) [] well_typed
lower_total_updates span (e ∷ i ∷ []) xs k here context env scope h at well_typed = wrongly_called (reaching context.known here) span [] (alone context e ∷ alone context i ∷ []) [] well_typed
lower_total_updates span (e ∷ i ∷ v ∷ w ∷ es) xs k here context env scope h at well_typed =
    wrongly_called (reaching context.known here) span [] (alone context e ∷ alone context i ∷ alone context v ∷ alone context w ∷ all_alone context es) [] well_typed
lower_total_updates span (e ∷ i ∷ v ∷ []) [] k here context env scope h at well_typed = absurd k
lower_total_updates span (e ∷ i ∷ v ∷ []) (x ∷ []) k here context env scope h at well_typed = absurd k.2
lower_total_updates span (e ∷ i ∷ v ∷ []) (x ∷ y ∷ []) k here context env scope h at well_typed = absurd k.2.2
lower_total_updates span (e ∷ i ∷ v ∷ []) (x ∷ y ∷ z ∷ w ∷ xs) k here context env scope h at well_typed = absurd k.2.2.2
lower_total_updates span (e ∷ i ∷ v ∷ []) (x ∷ y ∷ z ∷ []) k here context env scope h at well_typed =
    let a = alone context e in
    let c = alone context i in
    let d = alone context v in
    let array = unless_type is_array 27 (span_of e) a.ty in
    let start = unless_type is_unsigned 27 (span_of i) c.ty in
    let same = update_faults (span_of v) (element_type (and_then a.ty array_in)) d.ty in
    let own = and_then c.ty (λ t. and_then d.ty (λ u. a.ty)) in
    let three = (a.faults ++ c.faults) ++ d.faults in
    let s = settled_well_typed (reaching context.known here) span own (((three ++ array) ++ start) ++ same) ((a.reached ++ c.reached) ++ d.reached) (one_and (plus_size a.size (plus_size c.size d.size))) well_typed in
    let p = none_in_three (three ++ array) start same s.faults in
    let q = none_in three array p.0 in
    let r = none_in_three a.faults c.faults d.faults q.0 in
    let m = all_in_three here a.reached c.reached d.reached s.reached in
    let ga = alone_lowers_to here context env scope e x.1 k.1 h at r.0 m.0 in
    let gc = alone_lowers_to here context env scope i y.1 k.2.1 h at r.1 m.1 in
    let gd = alone_lowers_to here context env scope v z.1 k.2.2.1 h at r.2 m.2 in
    let parts = there (array_in ga.expr.ty) (unless_passed is_array 27 (span_of e) a.ty ga.expr.ty ga.typed q.1) in
    let element : element_type (and_then a.ty array_in) ≡ Some parts.0.0 = ap (λ o. element_type (and_then o array_in)) ga.typed ∙ ap element_type parts.1 in
    let like = passed (same_type parts.0.0 gd.expr.ty) 27 (span_of v) ((λ j. update_faults (span_of v) (sym element j) (sym gd.typed j)) ∙ p.2) in
    let whole = array_is ga.expr.ty parts.0 parts.1 in
    let declared = (element_declared (types_at context) parts.0.0 parts.0.1 (subst (IsDeclared (types_at context)) (sym whole) ga.declared)).0 in
    (λ j. type_of_lowered (lower_updated (ga.is j ∷ gc.is j ∷ gd.is j ∷ [])))
    ∙ ap (λ o. type_of_lowered (and_then o (λ parts. where_true (equal_type parts.0 gd.expr.ty) (lowered (core.Update ga.expr.core gc.expr.core gd.expr.core) ga.expr.ty)))) parts.1
    ∙ ap (λ b. type_of_lowered (where_true b (lowered (core.Update ga.expr.core gc.expr.core gd.expr.core) ga.expr.ty))) (equal_of_text (types_at context) parts.0.0 gd.expr.ty like declared gd.declared)
    ∙ sym (λ j. and_then (gc.typed j) (λ t. and_then (gd.typed j) (λ u. ga.typed j))) ∙ sym s.ty

-- ---- `join`

tokens_become : (here : Instance → Bool) (context : TypeEnv) (env : Env) (scope : CoreScope) → IsWellTypedEnv context env → ScopeMatchesEnv here context scope → (es : List ExprPair) (xs : List LoweredPair) → EachExprLowers es xs
    → faults_of_all (map (token_typing context) es) ≡ [] → list_all here (reached_of_all (map (token_typing context) es)) ≡ true → AllBecome (types_at context) (types_of (map (token_typing context) es)) (lower_all scope xs)
tokens_become here context env scope h at [] [] k f r = none_become (types_at context)
tokens_become here context env scope h at [] (x ∷ xs) k f r = absurd k
tokens_become here context env scope h at (e ∷ es) [] k f r = absurd k
tokens_become here context env scope h at (e ∷ es) (x ∷ xs) k f r =
    let a = within context e in
    let p = none_in (a.faults ++ token_faults (span_of e) a.ty) (faults_of_all (map (token_typing context) es)) f in
    let q = all_in here a.reached (reached_of_all (map (token_typing context) es)) r in
    one_more_lowers_to (types_at context) a (types_of (map (token_typing context) es)) (x.1 scope) (lower_all scope xs)
    (within_lowers_to here context env scope e x.1 k.1 h at (record { faults = (none_in a.faults (token_faults (span_of e) a.ty) p.0).0; reached = q.0 })) (tokens_become here context env scope h at es xs k.2 p.1 q.1)

lower_total_joins : (span : Span) (name : List ℕ) (parametric_args : CoreScope → List (Option DslxValue)) (es : List ExprPair) (xs : List LoweredPair) → EachExprLowers es xs
    → PartLowers (λ context. joining span context es) (λ scope. lower_call Joins name scope (parametric_args scope) (lower_all scope xs))
lower_total_joins span name parametric_args es xs k here context env scope h at well_typed =
    let js = map (token_typing context) es in
    let own = when_all (types_of js) (Some ty.Token) in
    let s = settled_well_typed (reaching context.known here) span own (faults_of_all js) (reached_of_all js) (one_and (size_of_all js)) well_typed in
    let all = tokens_become here context env scope h at es xs k s.faults s.reached in
    ap (λ o. type_of_lowered (and_then o (λ es. lowered (core.Tuple []) ty.Token))) (all_there (types_at context) (types_of js) (lower_all scope xs) all)
    ∙ sym (ap (λ o. and_then o (λ ts. Some ty.Token)) (all_typed (types_at context) (types_of js) (lower_all scope xs) all)) ∙ sym s.ty

-- ---- functions

abbrev pub LoweredArg : Type 0
LoweredArg = Arg × Expr

abbrev pub ExprGivesSome : ExprPair → Type 0
ExprGivesSome e = (x : ExprDen) × ExprGives e x

-- parametric arguments beside the expressions that they are
abbrev pub EachNumber : List ArgPair → List LoweredArg → Type 0
EachNumber [] [] = Unit {0}
EachNumber (a ∷ as') (l ∷ ls) = (a.1.0 ≡ l.1) × (ExprGivesSome a.1) × EachNumber as' ls
EachNumber [] (l ∷ ls) = ⊥
EachNumber (a ∷ as') [] = ⊥

meanings_of : (as' : List ArgPair) (ls : List LoweredArg) → EachNumber as' ls → (ns : List ExprDen) × EachExprGives (map (λ (a : ArgPair). a.1) as') ns
meanings_of [] [] k = ([], tt)
meanings_of [] (l ∷ ls) k = absurd k
meanings_of (a ∷ as') [] k = absurd k
meanings_of (a ∷ as') (l ∷ ls) k = let more = meanings_of as' ls k.2 in (k.1.0 ∷ more.0, (k.1.1, more.1))

abbrev parametric_args_at : CoreScope → List LoweredArg → List (Option DslxValue)
parametric_args_at scope ls = map (λ (l : LoweredArg). constant_at scope l.1) ls

parametric_args_there : (here : Instance → Bool) (context : TypeEnv) (env : Env) (scope : CoreScope) → IsWellTypedEnv context env → ScopeMatchesEnv here context scope → (as' : List ArgPair) (ls : List LoweredArg) → EachNumber as' ls
    → faults_of_all (given_judgements (given_parametric_args context as')) ≡ [] → list_all here (reached_of_all (given_judgements (given_parametric_args context as'))) ≡ true → (vs : List DslxValue)
    → map (λ (g : ParametricArgument). g.seen.value) (given_parametric_args context as') ≡ map Some vs → parametric_args_at scope ls ≡ map Some vs
parametric_args_there here context env scope h at [] [] k f r vs e = e
parametric_args_there here context env scope h at [] (l ∷ ls) k f r vs e = absurd k
parametric_args_there here context env scope h at (a ∷ as') [] k f r vs e = absurd k
parametric_args_there here context env scope h at (a ∷ as') (l ∷ ls) k f r [] e = some_fault (constant_of context a.1).value (map (λ (g : ParametricArgument). g.seen.value) (given_parametric_args context as')) e
parametric_args_there here context env scope h at (a ∷ as') (l ∷ ls) k f r (v ∷ vs) e =
    let j = (constant_of context a.1).judgement in
    let p = none_in j.faults (faults_of_all (given_judgements (given_parametric_args context as'))) f in
    let q = all_in here j.reached (reached_of_all (given_judgements (given_parametric_args context as'))) r in
    let w = list_parts (constant_of context a.1).value (Some v) (map (λ (g : ParametricArgument). g.seen.value) (given_parametric_args context as')) (map Some vs) e in
    let one : constant_at scope l.1 ≡ Some v = ap (constant_at scope) (sym k.0) ∙ constant_there here context env scope a.1 k.1.0 k.1.1 h at (record { faults = p.0; reached = q.0 }) v w.0 in
    λ i. one i ∷ parametric_args_there here context env scope h at as' ls k.2 p.1 q.1 vs w.1 i

-- operands of the types that are declared for the arguments
declared_for : (context : TypeEnv) (ts : List (Option DslxType)) (fs : List Field) (es : List ExprPair) (exprs : List LoweredExpr) → EachArgumentDeclared (types_at context) ts fs → length es ≡ length fs
    → types_of (all_alone context es) ≡ map Some (types_of_lowered exprs) → AllDeclared (types_at context) (types_of_lowered exprs) → operand_faults ts es (all_alone context es) ≡ []
    → AreDeclaredFor ts (types_of_lowered exprs)
declared_for context [] [] [] [] known n typed d f = tt
declared_for context [] [] [] (x ∷ xs) known n typed d f = some_fault (Some x.ty) (map Some (types_of_lowered xs)) (sym typed)
declared_for context [] [] (e ∷ es) exprs known n typed d f = absurd (none_long n)
  where
    none_long : suc (length es) ≡ 0 → ⊥
    none_long q = omega (arith, q)
declared_for context [] (g ∷ fs) es exprs known n typed d f = absurd known
declared_for context (t ∷ ts) [] es exprs known n typed d f = absurd known
declared_for context (t ∷ ts) (g ∷ fs) [] exprs known n typed d f = absurd (none_long n)
  where
    none_long : 0 ≡ suc (length fs) → ⊥
    none_long q = omega (arith, q)
declared_for context (t ∷ ts) (g ∷ fs) (e ∷ es) [] known n typed d f = some_fault (alone context e).ty (types_of (all_alone context es)) typed
declared_for context (t ∷ ts) (g ∷ fs) (e ∷ es) (x ∷ xs) known n typed d f =
    let p = none_in (wanted_faults (span_of e) t (alone context e).ty) (operand_faults ts es (all_alone context es)) f in
    let q = list_parts (alone context e).ty (Some x.ty) (types_of (all_alone context es)) (map Some (types_of_lowered xs)) typed in
    let fewer : length es ≡ length fs = omega (arith, n) in (
      (λ u k.
          let same = passed (same_type u x.ty) 9 (span_of e) ((λ i. wanted_faults (span_of e) (sym k i) (sym q.0 i)) ∙ p.0) in
          one_of_text (types_at context) u x.ty same (known.0 u k) d.0),
      declared_for context ts fs es xs known.1 fewer q.1 d.1 p.1,
    )

lower_total_called : (here : Instance → Bool) (span : Span) (context : TypeEnv) (env : Env) (scope : CoreScope) (name : List ℕ) (f : Function) (as' : List ArgPair) (ls : List LoweredArg) (es : List ExprPair) (xs : List LoweredPair) (cyclic : List Fault)
    → EachNumber as' ls → IsWellTypedEnv context env → ScopeMatchesEnv here context scope → as_function (item_named name context.known.whole.items) ≡ Some f → length es ≡ length f.arguments
    → (exprs : List LoweredExpr) → lower_all scope xs ≡ map Some exprs → AllDeclared (types_at context) (types_of_lowered exprs) → types_of (all_alone context es) ≡ map Some (types_of_lowered exprs)
    → (n : ParametricArgsSeen)
    → n ≡ call_parametric_args context.known f (given_parametric_args context as') (map Some (types_of_lowered exprs))
    → IsWellTypedPart (reaching context.known here) (right_call span context f (given_parametric_args context as') es (all_alone context es) cyclic n)
    → type_of_lowered (lower_function scope name (parametric_args_at scope ls) (lower_all scope xs)) ≡ (right_call span context f (given_parametric_args context as') es (all_alone context es) cyclic n).ty
lower_total_called here span context env scope name f as' ls es xs cyclic k h at is count exprs are declared typed n same well_typed =
    let gs = given_parametric_args context as' in
    let js = all_alone context es in
    let ts = types_of_lowered exprs in
    let owner = f.name.name in
    let w = right_well_typed (reaching context.known here) context span f gs es js cyclic n well_typed in
    let ns = meanings_of as' ls k in
    let c = subst (λ n. CallFound context f gs ts n) (sym same)
    (call_found span context env name f as' ns.0 es cyclic ns.1 h is ts (subst (λ n. IsWellTypedPart context.known (right_call span context f gs es js cyclic n)) same (well_typed_there here context scope (right_call span context f gs es js cyclic n) at well_typed))) in
    let parametric_args = parametric_args_there here context env scope h at as' ls k w.parametric_args_given w.parametric_args_reach c.given c.written in
    let instance = and_true (here (record { name = owner; parametric_args = c.parametric_args })) true ((λ i. list_all here (reached_by (has_broken (sym w.no_cycle i) || sym w.right i) owner (sym c.all i))) ∙ w.found) in
    let operands = ap (λ (b : Before). operand_faults (context.known.signature_in owner b.values).arguments es js) (sym c.shown)
    ∙ ap (λ b. if◌then◌else◌ {A = List Fault} b [] (operand_faults (signature_seen context.known owner n).arguments es js)) (sym w.right) ∙ w.operands in
    let fits = declared_for context (signature_at context.known owner c.parametric_args).arguments f.arguments es exprs c.arguments count typed declared operands in
    let callee = at.calls name f c.given c.parametric_args ts is c.found (own_parametric_args context.known owner [] f.parametrics c.parametric_args c.fit) instance.0 fits in
    (λ i. type_of_lowered (with_both (all_some (parametric_args i)) (all_some (are i)) (λ parametric_args es. and_then (scope.known.callee name parametric_args (types_of_lowered es)) (λ callee. lowered (core.Call callee.number (cores_of es)) callee.result))))
    ∙ (λ i. type_of_lowered (with_both (all_are c.given i) (all_are exprs i) (λ parametric_args es. and_then (scope.known.callee name parametric_args (types_of_lowered es)) (λ callee. lowered (core.Call callee.number (cores_of es)) callee.result))))
    ∙ ap (λ o. type_of_lowered (and_then o (λ callee. lowered (core.Call callee.number (cores_of exprs)) callee.result))) callee.is
    ∙ sym (w.own ∙ (λ i. and_then (c.all i) (λ vs. when_all (typed i) (context.known.signature_in owner (c.shown i).values).result))
    ∙ ap (λ a. and_then a (λ us. (signature_at context.known owner c.parametric_args).result)) (all_are ts) ∙ callee.result)

pub lower_total_function : (span : Span) (name : Ident) (as' : List ArgPair) (ls : List LoweredArg) (es : List ExprPair) (xs : List LoweredPair) → EachNumber as' ls → EachExprLowers es xs
    → PartLowers (λ context. function_call span context name (given_parametric_args context as') es (all_alone context es) (as_function (item_named name.name context.known.whole.items)))
    (λ scope. lower_function scope name.name (parametric_args_at scope ls) (lower_all scope xs))
lower_total_function span name as' ls es xs kn kx here context env scope h at well_typed = by_function (as_function (item_named name.name context.known.whole.items)) refl well_typed
  where
    gs : List ParametricArgument
    gs = given_parametric_args context as'

    js : List Judgement
    js = all_alone context es

    cycle : List Fault
    cycle = breaks_if (context.known.is_cyclic context.owner name.name) 3 span

    seen : Function → List (Option DslxType) → ParametricArgsSeen
    seen f ts = call_parametric_args context.known f gs ts

    right : Function → Judgement
    right f = right_call span context f gs es js cycle (seen f (types_of js))

    By : Judgement → Type 0
    By j = type_of_lowered (lower_function scope name.name (parametric_args_at scope ls) (lower_all scope xs)) ≡ j.ty

    typed : (f : Function) → as_function (item_named name.name context.known.whole.items) ≡ Some f → length es ≡ length f.arguments → IsWellTypedPart (reaching context.known here) (right f) → By (right f)
    typed f is n g =
        let w = right_well_typed (reaching context.known here) context span f gs es js cycle (seen f (types_of js)) g in
        let all = all_alone_become here context env scope h at es xs kx w.operands_given w.operands_reach in
        lower_total_called here span context env scope name.name f as' ls es xs cycle kn h at is n all.exprs all.are all.declared all.typed (seen f (types_of js)) (ap (seen f) all.typed) g

    by_count : (f : Function) → as_function (item_named name.name context.known.whole.items) ≡ Some f → (b : Bool) → has_right_count f gs es ≡ b → IsWellTypedPart (reaching context.known here) (if b then right f else wrong_call span gs js cycle)
        → By (if b then right f else wrong_call span gs js cycle)
    by_count f is false q g = wrongly_called (reaching context.known here) span gs js cycle g
    by_count f is true q g = typed f is ((Decides-eqb (length es) (length f.arguments)).0 (and_true (length es == length f.arguments) (not (nat_lt (length f.parametrics) (length gs))) q).0) g

    by_function : (o : Option Function) → as_function (item_named name.name context.known.whole.items) ≡ o → IsWellTypedPart (reaching context.known here) (function_call span context name gs es js o) → By (function_call span context name gs es js o)
    by_function None q g =
        let s = settled_well_typed (reaching context.known here) span None (call_parts_faults gs js ++ breaks 1 name.span ∷ []) (call_parts_reached gs js) None g in
        some_fault (breaks 1 name.span) [] (none_in (call_parts_faults gs js) (breaks 1 name.span ∷ []) s.faults).1
    by_function (Some f) q g = by_count f q (has_right_count f gs es) refl g

-- ---- any call

lower_total_without : (span : Span) (as' : List ArgPair) (es : List ExprPair) (j : TypeEnv → Judgement) (l : ExprLowering) → PartLowers j l → PartLowers (λ context. without_parametric_args span context as' es (j context)) l
lower_total_without span [] es j l k here context env scope h at well_typed = k here context env scope h at well_typed
lower_total_without span (a ∷ as') es j l k here context env scope h at well_typed = wrongly_called (reaching context.known here) span (given_parametric_args context (a ∷ as')) (all_alone context es) [] well_typed

pub lower_total_call : (kind : CallKind) (span : Span) (f : Ident) (as' : List ArgPair) (ls : List LoweredArg) (es : List ExprPair) (xs : List LoweredPair) → EachNumber as' ls → EachExprLowers es xs
    → PartLowers (λ context. call_typing kind span f as' es false context) (λ scope. lower_call kind f.name scope (parametric_args_at scope ls) (lower_all scope xs))
lower_total_call Joins span f as' ls es xs kn kx = lower_total_without span as' es (λ context. joining span context es) (λ scope. lower_call Joins f.name scope (parametric_args_at scope ls) (lower_all scope xs)) (lower_total_joins span f.name (λ scope. parametric_args_at scope ls) es xs kx)
lower_total_call CountsLeading span f as' ls es xs kn kx = lower_total_without span as' es (builtin_typing CountsLeading span es) (λ scope. lower_counted u.Clz (lower_all scope xs)) (lower_total_counts span u.Clz es xs kx)
lower_total_call CountsTrailing span f as' ls es xs kn kx = lower_total_without span as' es (builtin_typing CountsTrailing span es) (λ scope. lower_counted u.Ctz (lower_all scope xs)) (lower_total_counts span u.Ctz es xs kx)
lower_total_call Reverses span f as' ls es xs kn kx = lower_total_without span as' es (builtin_typing Reverses span es) (λ scope. lower_counted u.Rev (lower_all scope xs)) (lower_total_counts span u.Rev es xs kx)
lower_total_call AllOnes span f as' ls es xs kn kx = lower_total_without span as' es (builtin_typing AllOnes span es) (λ scope. lower_reduced u.AndReduce (lower_all scope xs)) (lower_total_reduces span u.AndReduce es xs kx)
lower_total_call SomeOne span f as' ls es xs kn kx = lower_total_without span as' es (builtin_typing SomeOne span es) (λ scope. lower_reduced u.OrReduce (lower_all scope xs)) (lower_total_reduces span u.OrReduce es xs kx)
lower_total_call Parity span f as' ls es xs kn kx = lower_total_without span as' es (builtin_typing Parity span es) (λ scope. lower_reduced u.XorReduce (lower_all scope xs)) (lower_total_reduces span u.XorReduce es xs kx)
lower_total_call Updates span f as' ls es xs kn kx = lower_total_without span as' es (builtin_typing Updates span es) (λ scope. lower_updated (lower_all scope xs)) (lower_total_updates span es xs kx)
lower_total_call Receives span f as' ls es xs kn kx = λ here context env scope h at well_typed. some_fault (breaks 28 span) [] (none_in (unnumbered_effect span context as' es (receiving span context es)).faults (breaks 28 span ∷ []) well_typed.faults).1
lower_total_call ReceivesIf span f as' ls es xs kn kx = λ here context env scope h at well_typed. some_fault (breaks 28 span) [] (none_in (unnumbered_effect span context as' es (receiving_if span context es)).faults (breaks 28 span ∷ []) well_typed.faults).1
lower_total_call Sends span f as' ls es xs kn kx = λ here context env scope h at well_typed. some_fault (breaks 28 span) [] (none_in (unnumbered_effect span context as' es (sending span context es)).faults (breaks 28 span ∷ []) well_typed.faults).1
lower_total_call SendsIf span f as' ls es xs kn kx = λ here context env scope h at well_typed. some_fault (breaks 28 span) [] (none_in (unnumbered_effect span context as' es (sending_if span context es)).faults (breaks 28 span ∷ []) well_typed.faults).1
lower_total_call Calls span f as' ls es xs kn kx = lower_total_function span f as' ls es xs kn kx
