-- Constants, sizes and bounds of slices have the values that are known of them.
use Rattle.std.proofs.Common.{◌≡◌, ◌++◌, ℕ, Bool, false, List, [], ◌∷◌, map, Option, Some, None, refl, sym, ap, ◌∙◌}
use Rattle.std.specs.List.{list_any}
use Rattle.dslx_tree.specs.declared.expr.Expr.{Expr}
use Rattle.dslx_meaning.specs.Lists.{and_then, is_in}
use Rattle.dslx_meaning.specs.Environment.{Env}
use Rattle.dslx_meaning.specs.Meaning.{ExprDen, bound_in, bound_of, count_in, denotation, size_of, some_count, value_of}
use Rattle.dslx_meaning.specs.declared.value.UntypedLiteral.{UntypedLiteral}
use Rattle.dslx_meaning.specs.declared.value.DslxValue.{DslxValue}
use Rattle.dslx_meaning.specs.Rules.ConstantRules.{ConstantSeen, untyped_typing, count_faults, count_number, count_type_faults, constant_of, constant_or_untyped, count_of, names_a_bound, names_a_local, names_a_member, size_faults}
use Rattle.dslx_meaning.specs.Rules.TypeEnvs.{ExprPair, Instance, TypeEnv, Typed, alone, untyped_of, breaks_if, span_of}
use Rattle.dslx_meaning.specs.Rules.Mentions.{free_names, mentioned}
use Rattle.dslx_meaning.specs.Rules.OperatorRules.{bound_number, is_negative_bound}
use Rattle.dslx_core.specs.Typing.Laws.Agreement.{AreBoundAlike}
use Rattle.dslx_core.proofs.Lemmas.Typing.Laws.{bound_alike, value_depends}
use Rattle.dslx_core.specs.Typing.Typed.Complete.{IsWellTypedPart}
use Rattle.dslx_core.specs.Typing.Typed.InTypeEnv.{local_names, env_there}
use Rattle.dslx_core.specs.Typing.Typed.WellTyped.{IsWellTypedEnv}
use Rattle.dslx_core.proofs.Lemmas.Typing.Typed.{bound_is_denoted, constant_is_denoted, or_false, size_is_denoted}
use Rattle.dslx_core.specs.Typing.Sound.Sound.{ExprGives}
use Rattle.dslx_core.proofs.Lemmas.Typing.Sound.{bound_has, count_has, none_in_three, not_broken}
use Rattle.dslx_core.specs.Lowering.CoreScopes.{BoundSlot, CoreScope, bound_at, constant_at, globals_env, sees_a_local, size_at, slot_names, unless_local}
use Rattle.dslx_total.specs.Expressions.Beside.{ScopeMatchesEnv, typed_slots}
use Rattle.dslx_total.specs.Expressions.ExprLowering.{reaching}
use Rattle.dslx_total.proofs.OnExpressions.Bare.{bare_names_nothing}
use Rattle.dslx_total.proofs.OnExpressions.Parts.{well_typed_there}

-- ---- names

slots_named : (ls : List BoundSlot) → map (λ (l : Typed). l.name) (typed_slots ls) ≡ slot_names ls
slots_named [] = refl
slots_named (l ∷ ls) = ap (λ names. l.name ∷ names) (slots_named ls)

-- the same names are bound in both
pub names_alike : (here : Instance → Bool) (context : TypeEnv) (scope : CoreScope) → ScopeMatchesEnv here context scope → slot_names scope.locals ≡ local_names context
names_alike here context scope at = sym (slots_named scope.locals) ∙ ap (map (λ (l : Typed). l.name)) at.locals

-- ---- an expression that names no local

free_alike : (context : TypeEnv) (env : Env) → IsWellTypedEnv context env → (names : List (List ℕ)) → list_any (λ name. is_in name (local_names context)) names ≡ false → AreBoundAlike names context.parametric_args env.bound
free_alike context env h [] e = tt
free_alike context env h (n ∷ ns) e =
    let q = or_false (is_in n (local_names context)) (list_any (λ name. is_in name (local_names context)) ns) e in
    (sym (h.place.others n q.0), free_alike context env h ns q.1)

-- it means the same where parametrics alone are bound
same_outside : (context : TypeEnv) (env : Env) → IsWellTypedEnv context env → (e : Expr) → list_any (λ name. is_in name (local_names context)) (free_names e) ≡ false
    → value_of e (record { items = context.known.items; bound = context.parametric_args }) ≡ value_of e (env_there context env.bound)
same_outside context env h e free =
    value_depends e [] (record { items = context.known.items; bound = context.parametric_args }) (env_there context env.bound) tt
    (bound_alike context.known.items context.parametric_args env.bound (λ name c. sym (h.place.others name (h.place.hides name c))) (mentioned e [])
    (free_alike context env h (free_names e) free))

-- what is seen of an expression that names no local
pub record SeesOutside (context : TypeEnv) (env : Env) (scope : CoreScope) (e : Expr) : Type 0 where
  pub none : sees_a_local scope e ≡ false
  pub same : value_of e (globals_env scope.known) ≡ value_of e (env_there context env.bound)

pub sees_outside : (here : Instance → Bool) (context : TypeEnv) (env : Env) (scope : CoreScope) → IsWellTypedEnv context env → ScopeMatchesEnv here context scope → (e : ExprPair) → names_a_bound context e ≡ false
    → SeesOutside context env scope e.0
sees_outside here context env scope h at e free = record {
  none = ap (λ names. list_any (λ name. is_in name names) (free_names e.0)) (names_alike here context scope at) ∙ free;
  same = (λ i. value_of e.0 (record { items = at.items i; bound = at.parametric_args i })) ∙ same_outside context env h e.0 free;
}

-- ---- constants

names_no_local : (here : Instance → Bool) (context : TypeEnv) (e : ExprPair) → (constant_of context e).judgement.faults ≡ [] → names_a_bound context e ≡ false
names_no_local here context e f =
    let a = alone context e in
    let local = breaks_if (names_a_local context e) 5 (span_of e) in
    let none = not_broken (names_a_local context e) 5 (span_of e) (none_in_three a.faults local (size_faults context.known (span_of e).to (record a { faults = a.faults ++ local })) f).1 in
    (or_false (names_a_bound context e) (names_a_member context e) none).0

-- a constant has its value in the scope
pub constant_there : (here : Instance → Bool) (context : TypeEnv) (env : Env) (scope : CoreScope) (e : ExprPair) (x : ExprDen) → ExprGives e x → IsWellTypedEnv context env → ScopeMatchesEnv here context scope
    → IsWellTypedPart (reaching context.known here) (constant_of context e).judgement → (v : DslxValue) → (constant_of context e).value ≡ Some v → constant_at scope e.0 ≡ Some v
constant_there here context env scope e x s h at well_typed v k =
    let out = sees_outside here context env scope h at e (names_no_local here context e well_typed.faults) in
    ap (λ b. unless_local b (value_of e.0 (globals_env scope.known))) out.none ∙ out.same ∙ constant_is_denoted context env.bound e v h.place k

-- ---- sizes and bounds

-- a constant, or the number without a type that an expression is
abbrev seen_by : TypeEnv → ExprPair → Option UntypedLiteral → ConstantSeen
seen_by context e None = constant_of context e
seen_by context e (Some number) = record { judgement = untyped_typing; bare = Some number; value = None }

-- an expression that is a number, or that is judged as a constant, names no local
untyped_or_constant : (here : Instance → Bool) (context : TypeEnv) (e : ExprPair) → (constant_or_untyped context e).judgement.faults ≡ [] → names_a_bound context e ≡ false
untyped_or_constant here context e f = by_untyped (untyped_of e) refl f
  where
    by_untyped : (o : Option UntypedLiteral) → untyped_of e ≡ o → (seen_by context e o).judgement.faults ≡ [] → names_a_bound context e ≡ false
    by_untyped None q k = names_no_local here context e k
    by_untyped (Some number) q k = ap (list_any (λ name. is_in name (local_names context))) (bare_names_nothing e.0 number q)

-- a size is the number that is known of it
pub size_there : (here : Instance → Bool) (context : TypeEnv) (env : Env) (scope : CoreScope) (e : ExprPair) (x : ExprDen) → ExprGives e x → IsWellTypedEnv context env → ScopeMatchesEnv here context scope
    → IsWellTypedPart (reaching context.known here) (count_of context e).judgement → size_at scope e.0 ≡ (count_of context e).count
size_there here context env scope e x s h at well_typed =
    let n = count_has context env e x s h (well_typed_there here context scope (count_of context e).judgement at well_typed) in
    let c = constant_or_untyped context e in
    let first = (none_in_three c.judgement.faults (count_type_faults (span_of e) c.judgement.ty) (count_faults (span_of e) (count_number c)) well_typed.faults).0 in
    let out = sees_outside here context env scope h at e (untyped_or_constant here context e first) in
    (ap (λ b. unless_local b (size_of (denotation e.0) (globals_env scope.known))) out.none
    ∙ ap (λ o. and_then (count_in (denotation e.0).bare o) some_count) out.same
    ∙ size_is_denoted context env.bound e n.0 h.place n.1)
    ∙ sym n.1

pub bound_there : (here : Instance → Bool) (context : TypeEnv) (env : Env) (scope : CoreScope) (e : ExprPair) (x : ExprDen) → ExprGives e x → IsWellTypedEnv context env → ScopeMatchesEnv here context scope
    → IsWellTypedPart (reaching context.known here) (constant_or_untyped context e).judgement → is_negative_bound (constant_or_untyped context e) ≡ false → bound_at scope e.0 ≡ bound_number (constant_or_untyped context e)
bound_there here context env scope e x s h at well_typed positive =
    let n = bound_has context env e x s h (well_typed_there here context scope (constant_or_untyped context e).judgement at well_typed) positive in
    let out = sees_outside here context env scope h at e (untyped_or_constant here context e well_typed.faults) in
    (ap (λ b. unless_local b (bound_of (denotation e.0) (globals_env scope.known))) out.none
    ∙ ap (bound_in (denotation e.0).bare) out.same
    ∙ bound_is_denoted context env.bound e n.0 h.place n.1)
    ∙ sym n.1
