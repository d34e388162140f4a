-- What parts become with which nothing is wrong.
use Rattle.std.proofs.Common.{◌≡◌, Bool, true, false, List, [], ◌∷◌, Option, Some, None, refl, sym, ap, subst, ◌∙◌}
use Rattle.std.specs.Prelude.{nat_le, nat_lt}
use Rattle.std.specs.List.{list_all}
use Rattle.dslx_meaning.specs.Environment.{Env}
use Rattle.dslx_meaning.specs.Types.{bits_in}
use Rattle.dslx_meaning.specs.declared.ty.BitKind.{BitKind}
use Rattle.dslx_meaning.specs.declared.ty.DslxType.{DslxType}
use Rattle.dslx_meaning.specs.declared.value.DslxValue.{DslxValue}
use Rattle.dslx_meaning.specs.Rules.TypeEnvs.{ExprPair, Instance, Judgement, TypeEnv, alone, span_of, within}
use Rattle.dslx_meaning.specs.Rules.Typings.{TypeExprTyping}
use Rattle.dslx_meaning.specs.Rules.OperatorRules.{width_of_type}
use Rattle.dslx_core.proofs.Lemmas.Typing.Laws.{and_true}
use Rattle.dslx_core.specs.Typing.Typed.Complete.{IsWellTypedPart}
use Rattle.dslx_core.specs.Typing.Typed.Declared.{Declarations, IsDeclared}
use Rattle.dslx_core.specs.Typing.Typed.Given.{GivesOf}
use Rattle.dslx_core.specs.Typing.Typed.WellTyped.{IsWellTypedEnv, types_at}
use Rattle.dslx_core.proofs.Lemmas.Typing.Typed.{none_some, same_some}
use Rattle.dslx_core.proofs.Lemmas.Typing.Sound.{alone_well_typed}
use Rattle.dslx_core.specs.Lowering.CoreScopes.{CoreScope}
use Rattle.dslx_core.specs.Lowering.Lowering.{LoweredExpr}
use Rattle.dslx_core.specs.Lowering.Patterns.{ExprLowering}
use Rattle.dslx_core.specs.Lowering.Trees.{TypeLowering}
use Rattle.dslx_total.proofs.OnExpressions.InTypes.{own_width}
use Rattle.dslx_total.specs.Expressions.Beside.{ScopeMatchesEnv}
use Rattle.dslx_total.specs.Expressions.ExprLowering.{ExprLowers, WrittenLowers, reaching, type_of_lowered}

-- ---- what is reached is sound

pub all_sound : (here sound : Instance → Bool) → ((i : Instance) → here i ≡ true → sound i ≡ true) → (is : List Instance) → list_all here is ≡ true → list_all sound is ≡ true
all_sound here sound h [] e = refl
all_sound here sound h (i ∷ is) e = let q = and_true (here i) (list_all here is) e in λ k. both (h i q.0 k) (all_sound here sound h is q.1 k)
  where
    both : Bool → Bool → Bool
    both true b = b
    both false b = false

pub well_typed_there : (here : Instance → Bool) (context : TypeEnv) (scope : CoreScope) (j : Judgement) → ScopeMatchesEnv here context scope → IsWellTypedPart (reaching context.known here) j → IsWellTypedPart context.known j
well_typed_there here context scope j at well_typed = record { faults = well_typed.faults; reached = all_sound here context.known.is_sound at.sound j.reached well_typed.reached }

-- ---- what a part becomes

-- it becomes this, of the type that it has, which is one of the text and has a value
pub record LowersTo (types : Declarations) (j : Judgement) (o : Option LoweredExpr) : Type 0 where
  pub expr : LoweredExpr
  pub is : o ≡ Some expr
  pub typed : j.ty ≡ Some expr.ty
  pub declared : IsDeclared types expr.ty
  pub value : DslxValue
  pub given : GivesOf types expr.ty (Some value)
  pub narrow : nat_le (width_of_type expr.ty) 128 ≡ true

pub typed_there : (o : Option LoweredExpr) (t : DslxType) → type_of_lowered o ≡ Some t → (e : LoweredExpr) × (o ≡ Some e) × (e.ty ≡ t)
typed_there None t q = none_some t q
typed_there (Some e) t q = (e, refl, same_some e.ty t q)

pub becomes : (types : Declarations) (j : Judgement) (o : Option LoweredExpr) (v : Option DslxValue) (t : DslxType) → j.ty ≡ Some t → GivesOf types t v → type_of_lowered o ≡ j.ty → nat_le (width_of_type t) 128 ≡ true → LowersTo types j o
becomes types j o v t is g l narrow =
    let e = typed_there o t (l ∙ is) in
    record {
      expr = e.0;
      is = e.1;
      typed = is ∙ ap Some (sym e.2);
      declared = subst (IsDeclared types) (sym e.2) g.declared;
      value = g.value;
      given = subst (λ u. GivesOf types u (Some g.value)) (sym e.2) (record { value = g.value; is = refl; of = g.of; declared = g.declared });
      narrow = ap (λ u. nat_le (width_of_type u) 128) e.2 ∙ narrow;
    }

-- inside another expression
pub within_lowers_to : (here : Instance → Bool) (context : TypeEnv) (env : Env) (scope : CoreScope) (e : ExprPair) (l : ExprLowering) → ExprLowers e l → IsWellTypedEnv context env → ScopeMatchesEnv here context scope
    → IsWellTypedPart (reaching context.known here) (within context e) → LowersTo (types_at context) (within context e) (l scope)
within_lowers_to here context env scope e l s h at well_typed =
    let g = s.gives.gives context env h (well_typed_there here context scope (within context e) at well_typed) in
    becomes (types_at context) (within context e) (l scope) (s.meaning.value env) g.0 g.1 g.2 (s.lowers here context env scope h at well_typed) (s.limited context well_typed.faults g.0 g.1)

-- where it stands alone
pub alone_lowers_to : (here : Instance → Bool) (context : TypeEnv) (env : Env) (scope : CoreScope) (e : ExprPair) (l : ExprLowering) → ExprLowers e l → IsWellTypedEnv context env → ScopeMatchesEnv here context scope
    → (alone context e).faults ≡ [] → list_all here (alone context e).reached ≡ true → LowersTo (types_at context) (alone context e) (l scope)
alone_lowers_to here context env scope e l s h at faults reached =
    let a = alone_well_typed (reaching context.known here) (span_of e) (within context e) (record { faults = faults; reached = reached }) in
    let b = within_lowers_to here context env scope e l s h at a.well_typed in
    record { expr = b.expr; is = b.is; typed = a.same_type ∙ b.typed; declared = b.declared; value = b.value; given = b.given; narrow = b.narrow }

-- a written type
pub record LowersToType (types : Declarations) (j : Judgement) (o : Option DslxType) : Type 0 where
  pub ty : DslxType
  pub is : o ≡ Some ty
  pub typed : j.ty ≡ Some ty
  pub declared : IsDeclared types ty
  pub wide : (kind : BitKind) → bits_in ty ≡ Some kind → nat_lt 0 kind.width ≡ true

pub type_lowers_to : (here : Instance → Bool) (context : TypeEnv) (env : Env) (scope : CoreScope) (j : TypeExprTyping) (l : TypeLowering) → WrittenLowers j l → IsWellTypedEnv context env → ScopeMatchesEnv here context scope
    → IsWellTypedPart (reaching context.known here) (j context) → LowersToType (types_at context) (j context) (l scope)
type_lowers_to here context env scope j l s h at well_typed =
    let t = s.stands.known context env h (well_typed_there here context scope (j context) at well_typed) in
    record { ty = t.0; is = s.lowers here context env scope h at well_typed ∙ t.1; typed = t.1; declared = (s.stands.means context env h t.0 t.1).1; wide = λ kind q. own_width t.0 (s.wide context at.widths t.0 t.1) kind q }
