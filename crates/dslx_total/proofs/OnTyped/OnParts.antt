-- What parts become with which nothing is wrong, with their types.
use Rattle.std.proofs.Common.{◌≡◌, Bool, true, false, List, [], ◌∷◌, map, Option, Some}
use Rattle.std.specs.List.{list_all}
use Rattle.xb_value.specs.declared.ty.Ty.{Ty}
use Rattle.dslx_meaning.specs.Environment.{Env}
use Rattle.dslx_meaning.specs.declared.value.DslxValue.{DslxValue}
use Rattle.dslx_meaning.specs.Rules.AggregateRules.{element_alone}
use Rattle.dslx_meaning.specs.Rules.TypeEnvs.{ExprPair, Instance, Judgement, TypeEnv, alone, faults_of_all, reached_of_all, span_of, within}
use Rattle.dslx_meaning.specs.Rules.TypeRules.{unit_faults}
use Rattle.dslx_meaning.specs.Rules.Typings.{BlockPair}
use Rattle.dslx_core.proofs.Lemmas.Typing.Sound.{all_in, alone_well_typed, none_in}
use Rattle.dslx_core.specs.Typing.Typed.Complete.{IsWellTypedPart}
use Rattle.dslx_core.specs.Typing.Typed.Declared.{Declarations, IsDeclared}
use Rattle.dslx_core.specs.Typing.Typed.Given.{GivesOf}
use Rattle.dslx_core.specs.Typing.Typed.WellTyped.{IsWellTypedEnv, types_at}
use Rattle.dslx_core.specs.Lowering.CoreScopes.{CoreScope}
use Rattle.dslx_core.specs.Lowering.Lowering.{LoweredExpr}
use Rattle.dslx_core.specs.Lowering.Patterns.{ExprLowering}
use Rattle.dslx_core.specs.Lowering.Trees.{LoweredPair, lower_all}
use Rattle.dslx_core.specs.Types.Typing.{FunctionTypes}
use Rattle.dslx_total.proofs.Lemmas.Expressions.{LowersTo, alone_lowers_to, within_lowers_to}
use Rattle.dslx_total.specs.Expressions.Beside.{ScopeMatchesEnv}
use Rattle.dslx_total.specs.Expressions.ExprLowering.{ExprLowers, reaching}
use Rattle.dslx_total.specs.Typed.Scopes.{IsTypedExpr, TypedScope}
use Rattle.dslx_total.specs.Typed.Claims.{PartIsTyped}
use Rattle.dslx_total.proofs.OnTyped.OnOptions.{EachTypedIfThere, typed_there}

-- an expression that becomes something of its type, with this type
pub record ExprTyped (e : ExprPair) (l : ExprLowering) : Type 0 where
  pub lowers : ExprLowers e l
  pub typed : PartIsTyped (e.1 false) l

-- so a block
pub record BlockTyped (b : BlockPair) (l : ExprLowering) : Type 0 where
  pub lowers : (here : Instance → Bool) (context : TypeEnv) (env : Env) (scope : CoreScope) → IsWellTypedEnv context env → ScopeMatchesEnv here context scope → IsWellTypedPart (reaching context.known here) (b.1 false context)
      → LowersTo (types_at context) (b.1 false context) (l scope)
  pub typed : PartIsTyped (b.1 false) l

-- what is there
pub record TypedTo (fs : FunctionTypes) (ts : List Ty) (types : Declarations) (j : Judgement) (o : Option LoweredExpr) : Type 0 where
  pub expr : LoweredExpr
  pub is : o ≡ Some expr
  pub typed : j.ty ≡ Some expr.ty
  pub declared : IsDeclared types expr.ty
  pub value : DslxValue
  pub given : GivesOf types expr.ty (Some value)
  pub core : IsTypedExpr fs ts expr

-- an expression beside what it becomes, each of one tree
abbrev pub EachExprTyped : List ExprPair → List LoweredPair → Type 0
EachExprTyped [] [] = Unit {0}
EachExprTyped (e ∷ es) (x ∷ xs) = (e.0 ≡ x.0) × ExprTyped e x.1 × EachExprTyped es xs
EachExprTyped [] (x ∷ xs) = ⊥
EachExprTyped (e ∷ es) [] = ⊥

module _ (here : Instance → Bool) (context : TypeEnv) (env : Env) (scope : CoreScope) (fs : FunctionTypes) (ts : List Ty) (h : IsWellTypedEnv context env) (at : ScopeMatchesEnv here context scope) (scoped : TypedScope fs ts scope) where
  -- inside another expression
  pub within_typed_to : (e : ExprPair) (l : ExprLowering) → ExprTyped e l → IsWellTypedPart (reaching context.known here) (within context e) → TypedTo fs ts (types_at context) (within context e) (l scope)
  within_typed_to e l s well_typed =
      let b = within_lowers_to here context env scope e l s.lowers h at well_typed in
      record { expr = b.expr; is = b.is; typed = b.typed; declared = b.declared; value = b.value; given = b.given; core = typed_there fs ts (l scope) b.expr (s.typed here context env scope fs ts h at scoped well_typed) b.is }

  well_typed_alone : (e : ExprPair) → (alone context e).faults ≡ [] → list_all here (alone context e).reached ≡ true → IsWellTypedPart (reaching context.known here) (within context e)
  well_typed_alone e faults reached = (alone_well_typed (reaching context.known here) (span_of e) (within context e) (record { faults = faults; reached = reached })).well_typed

  -- where it stands alone
  pub alone_typed_to : (e : ExprPair) (l : ExprLowering) → ExprTyped e l → (alone context e).faults ≡ [] → list_all here (alone context e).reached ≡ true → TypedTo fs ts (types_at context) (alone context e) (l scope)
  alone_typed_to e l s faults reached =
      let b = alone_lowers_to here context env scope e l s.lowers h at faults reached in
      record { expr = b.expr; is = b.is; typed = b.typed; declared = b.declared; value = b.value; given = b.given; core = typed_there fs ts (l scope) b.expr (s.typed here context env scope fs ts h at scoped (well_typed_alone e faults reached)) b.is }

  -- a block
  pub block_typed_to : (b : BlockPair) (l : ExprLowering) → BlockTyped b l → IsWellTypedPart (reaching context.known here) (b.1 false context) → TypedTo fs ts (types_at context) (b.1 false context) (l scope)
  block_typed_to b l s well_typed =
      let c = s.lowers here context env scope h at well_typed in
      record { expr = c.expr; is = c.is; typed = c.typed; declared = c.declared; value = c.value; given = c.given; core = typed_there fs ts (l scope) c.expr (s.typed here context env scope fs ts h at scoped well_typed) c.is }

  -- ---- lists

  each_typed : (f : ExprPair → Judgement) → ((e : ExprPair) → (f e).faults ≡ [] → list_all here (f e).reached ≡ true → IsWellTypedPart (reaching context.known here) (within context e))
      → (es : List ExprPair) (xs : List LoweredPair) → EachExprTyped es xs → faults_of_all (map f es) ≡ [] → list_all here (reached_of_all (map f es)) ≡ true → EachTypedIfThere fs ts (lower_all scope xs)
  each_typed f ok [] [] k e r = tt
  each_typed f ok [] (x ∷ xs) k e r = absurd k
  each_typed f ok (p ∷ es) [] k e r = absurd k
  each_typed f ok (p ∷ es) (x ∷ xs) k e r =
      let a = none_in (f p).faults (faults_of_all (map f es)) e in
      let c = all_in here (f p).reached (reached_of_all (map f es)) r in
      (k.1.typed here context env scope fs ts h at scoped (ok p a.0 c.0), each_typed f ok es xs k.2 a.1 c.1)

  pub operands_typed : (es : List ExprPair) (xs : List LoweredPair) → EachExprTyped es xs → faults_of_all (map (alone context) es) ≡ [] → list_all here (reached_of_all (map (alone context) es)) ≡ true → EachTypedIfThere fs ts (lower_all scope xs)
  operands_typed = each_typed (alone context) (λ e f r. well_typed_alone e f r)

  pub elements_typed : (es : List ExprPair) (xs : List LoweredPair) → EachExprTyped es xs → faults_of_all (map (element_alone context) es) ≡ [] → list_all here (reached_of_all (map (element_alone context) es)) ≡ true → EachTypedIfThere fs ts (lower_all scope xs)
  elements_typed = each_typed (element_alone context) (λ e f r. well_typed_alone e (none_in (alone context e).faults (unit_faults (span_of e) (alone context e).ty) f).0 r)
