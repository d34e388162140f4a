-- Lists of parts that each become something.
use Rattle.std.proofs.Common.{◌≡◌, ◌++◌, Bool, true, List, [], ◌∷◌, map, Option, Some, refl, ap, ◌∙◌}
use Rattle.std.specs.List.{list_all}
use Rattle.dslx_meaning.specs.Lists.{all_some}
use Rattle.dslx_meaning.specs.Environment.{Env}
use Rattle.dslx_meaning.specs.declared.ty.DslxType.{DslxType}
use Rattle.dslx_meaning.specs.Rules.AggregateRules.{element_alone}
use Rattle.dslx_meaning.specs.Rules.TypeEnvs.{ExprPair, Instance, Judgement, TypeEnv, alone, all_alone, faults_of_all, reached_of_all, span_of, types_of}
use Rattle.dslx_meaning.specs.Rules.TypeRules.{unit_faults}
use Rattle.dslx_core.specs.Typing.Typed.Declared.{AllDeclared, Declarations}
use Rattle.dslx_core.specs.Typing.Typed.WellTyped.{IsWellTypedEnv, types_at}
use Rattle.dslx_core.proofs.Lemmas.Typing.Typed.{all_are}
use Rattle.dslx_core.proofs.Lemmas.Typing.Sound.{all_in, none_in}
use Rattle.dslx_core.specs.Lowering.CoreScopes.{CoreScope}
use Rattle.dslx_core.specs.Lowering.Lowering.{LoweredExpr, types_of_lowered}
use Rattle.dslx_core.specs.Lowering.Trees.{LoweredPair, lower_all}
use Rattle.dslx_total.specs.Expressions.Beside.{ScopeMatchesEnv}
use Rattle.dslx_total.specs.Expressions.ExprLowering.{ExprLowers}
use Rattle.dslx_total.proofs.OnExpressions.Parts.{LowersTo, alone_lowers_to}

-- expressions beside what they become, each of one tree
abbrev pub EachExprLowers : List ExprPair → List LoweredPair → Type 0
EachExprLowers [] [] = Unit {0}
EachExprLowers (e ∷ es) (x ∷ xs) = (e.0 ≡ x.0) × ExprLowers e x.1 × EachExprLowers es xs
EachExprLowers [] (x ∷ xs) = ⊥
EachExprLowers (e ∷ es) [] = ⊥

-- all become something, each of its type
pub record AllBecome (types : Declarations) (ts : List (Option DslxType)) (os : List (Option LoweredExpr)) : Type 0 where
  pub exprs : List LoweredExpr
  pub are : os ≡ map Some exprs
  pub typed : ts ≡ map Some (types_of_lowered exprs)
  pub declared : AllDeclared types (types_of_lowered exprs)

pub none_become : (types : Declarations) → AllBecome types [] []
none_become types = record { exprs = []; are = refl; typed = refl; declared = tt }

pub one_more_lowers_to : (types : Declarations) (j : Judgement) (ts : List (Option DslxType)) (o : Option LoweredExpr) (os : List (Option LoweredExpr)) → LowersTo types j o → AllBecome types ts os
    → AllBecome types (j.ty ∷ ts) (o ∷ os)
one_more_lowers_to types j ts o os b rest = record {
  exprs = b.expr ∷ rest.exprs;
  are = λ i. b.is i ∷ rest.are i;
  typed = λ i. b.typed i ∷ rest.typed i;
  declared = (b.declared, rest.declared);
}

-- what all of them give, and their types
pub all_there : (types : Declarations) (ts : List (Option DslxType)) (os : List (Option LoweredExpr)) (all : AllBecome types ts os) → all_some os ≡ Some all.exprs
all_there types ts os all = ap all_some all.are ∙ all_are all.exprs

pub all_typed : (types : Declarations) (ts : List (Option DslxType)) (os : List (Option LoweredExpr)) (all : AllBecome types ts os) → all_some ts ≡ Some (types_of_lowered all.exprs)
all_typed types ts os all = ap all_some all.typed ∙ all_are (types_of_lowered all.exprs)

module _ (here : Instance → Bool) (context : TypeEnv) (env : Env) (scope : CoreScope) (h : IsWellTypedEnv context env) (at : ScopeMatchesEnv here context scope) where
  -- operands
  pub all_alone_become : (es : List ExprPair) (xs : List LoweredPair) → EachExprLowers es xs → faults_of_all (all_alone context es) ≡ [] → list_all here (reached_of_all (all_alone context es)) ≡ true
      → AllBecome (types_at context) (types_of (all_alone context es)) (lower_all scope xs)
  all_alone_become [] [] k f r = none_become (types_at context)
  all_alone_become [] (x ∷ xs) k f r = absurd k
  all_alone_become (e ∷ es) [] k f r = absurd k
  all_alone_become (e ∷ es) (x ∷ xs) k f r =
      let p = none_in (alone context e).faults (faults_of_all (all_alone context es)) f in
      let q = all_in here (alone context e).reached (reached_of_all (all_alone context es)) r in
      one_more_lowers_to (types_at context) (alone context e) (types_of (all_alone context es)) (x.1 scope) (lower_all scope xs) (alone_lowers_to here context env scope e x.1 k.1 h at p.0 q.0)
      (all_alone_become es xs k.2 p.1 q.1)

  -- elements
  pub elements_become : (es : List ExprPair) (xs : List LoweredPair) → EachExprLowers es xs → faults_of_all (map (element_alone context) es) ≡ [] → list_all here (reached_of_all (map (element_alone context) es)) ≡ true
      → AllBecome (types_at context) (types_of (map (element_alone context) es)) (lower_all scope xs)
  elements_become [] [] k f r = none_become (types_at context)
  elements_become [] (x ∷ xs) k f r = absurd k
  elements_become (e ∷ es) [] k f r = absurd k
  elements_become (e ∷ es) (x ∷ xs) k f r =
      let a = alone context e in
      let p = none_in (a.faults ++ unit_faults (span_of e) a.ty) (faults_of_all (map (element_alone context) es)) f in
      let q = all_in here a.reached (reached_of_all (map (element_alone context) es)) r in
      one_more_lowers_to (types_at context) a (types_of (map (element_alone context) es)) (x.1 scope) (lower_all scope xs)
      (alone_lowers_to here context env scope e x.1 k.1 h at (none_in a.faults (unit_faults (span_of e) a.ty) p.0).0 q.0) (elements_become es xs k.2 p.1 q.1)
