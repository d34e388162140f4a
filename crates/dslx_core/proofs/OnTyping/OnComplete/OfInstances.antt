-- Instances of functions with whose text nothing is wrong.
use Rattle.std.proofs.Common.{◌≡◌, ◌++◌, ◌||◌, ℕ, Bool, true, false, List, [], ◌∷◌, Option, Some, None, refl, subst, ◌∙◌}
use mathlib.Core.Bool.{true≢false}
use Rattle.dslx_tree.specs.declared.item.Definition.{Definition}
use Rattle.dslx_tree.specs.declared.item.Field.{Field}
use Rattle.dslx_tree.specs.declared.item.Function.{Function}
use Rattle.dslx_tree.specs.declared.type_expr.TypeExpr.{TypeExpr}
use Rattle.dslx_meaning.specs.Callees.{is_own_name}
use Rattle.dslx_meaning.specs.Environment.{Env}
use Rattle.dslx_meaning.specs.Items.{is_constant_item, item_named, parametric_args_bound}
use Rattle.dslx_meaning.specs.Lists.{is_in}
use Rattle.dslx_meaning.specs.Types.{unit_type}
use Rattle.dslx_meaning.specs.declared.ty.DslxType.{DslxType}
use Rattle.dslx_meaning.specs.declared.value.DslxValue.{DslxValue}
use Rattle.dslx_meaning.specs.Rules.ItemRules.{arguments_found, arguments_typed, body_typing, function_seen, function_type_env, typing_of_inner, parametrics_found, result_typing}
use Rattle.dslx_meaning.specs.Rules.TypeEnvs.{GlobalEnv, TypeEnv, is_item, with_typed}
use Rattle.dslx_meaning.specs.Rules.NameRules.{local_name}
use Rattle.dslx_core.specs.Typing.Typed.Complete.{IsComplete, IsWellTypedPart}
use Rattle.dslx_core.specs.Typing.Typed.Declared.{IsDeclared}
use Rattle.dslx_core.specs.Typing.Typed.Numbers.{AllOwn}
use Rattle.dslx_core.specs.Typing.Typed.WellTyped.{IsWellTypedEnv, NameNoConstant, types_at}
use Rattle.dslx_core.proofs.Lemmas.Typing.Typed.{or_false, own_bound, tuple_declared}
use Rattle.dslx_core.proofs.Lemmas.Typing.Sound.{all_in, function_has_size, function_has_value, none_in, not_broken, type_has_den}
use Rattle.dslx_core.specs.Typing.Complete.HasValue.{AreTyped, InstanceHasValue, IsWellTypedFound}
use Rattle.dslx_core.proofs.OnTyping.OnComplete.Scopes.{item_env, item_typed, none_own}

-- ---- names of arguments

abbrev there : {A : Type 0} → Option A → Bool
there None = false
there (Some a) = true

-- what is no item is no constant
pub no_constant : (context : TypeEnv) → IsComplete context.known → (name : List ℕ) → is_item context name ≡ false → context.known.items.is_constant name ≡ false
no_constant context complete name e = complete.kinds name ∙ by_item (item_named name context.known.whole.items) e
  where
    by_item : (o : Option Definition) → there o ≡ false → is_constant_item o ≡ false
    by_item None q = refl
    by_item (Some d) q = absurd (true≢false q)

plain_arguments : (context : TypeEnv) → IsComplete context.known → (before : List (List ℕ)) (fs : List Field) → (arguments_found context before fs).faults ≡ [] → NameNoConstant context fs
plain_arguments context complete before [] f = tt
plain_arguments context complete before (g ∷ fs) f =
    let listed = local_name context before g.name in
    let j = typing_of_inner context g.ty in
    let rest = arguments_found context (g.name.name ∷ before) fs in
    let a = none_in listed (j.faults ++ rest.faults) f in
    let b = none_in j.faults rest.faults a.1 in
    let own = is_own_name g.name.name in
    let item = is_item context g.name.name in
    let twice = is_in g.name.name before in
    let q = or_false (own || item) twice (not_broken ((own || item) || twice) 2 g.name.span a.0) in
    (no_constant context complete g.name.name (or_false own item q.0).1, plain_arguments context complete (g.name.name ∷ before) fs b.1)

-- ---- the result

record ResultHasValue (context : TypeEnv) (o : Option TypeExpr) : Type 0 where
  result : DslxType
  typed : (result_typing context o).ty ≡ Some result
  declared : IsDeclared (types_at context) result

result_has_value : (context : TypeEnv) (env : Env) → IsWellTypedEnv context env → (o : Option TypeExpr) → IsWellTypedPart context.known (result_typing context o) → ResultHasValue context o
result_has_value context env h None well_typed = record { result = unit_type; typed = refl; declared = tuple_declared (types_at context) [] tt }
result_has_value context env h (Some t) well_typed =
    let k = (type_has_den t).known context env h well_typed in
    record { result = k.0; typed = k.1; declared = ((type_has_den t).means context env h k.0 k.1).1 }

-- ---- the instance

pub instance_has_value : (known : GlobalEnv) → IsComplete known → AreTyped known → (f : Function) (parametric_args : List DslxValue) → AllOwn known.items.type_named parametric_args → IsWellTypedFound known (function_seen known f parametric_args).found
    → InstanceHasValue known f parametric_args
instance_has_value known complete typed f parametric_args own well_typed =
    let context = function_type_env known f parametric_args in
    let bound = parametric_args_bound [] f.parametrics parametric_args in
    let place = item_typed known complete typed f.name.name bound (own_bound known.items.type_named [] f.parametrics parametric_args (none_own known) own) in
    let parametrics = parametrics_found known f.name.name [] [] f.parametrics parametric_args in
    let arguments = arguments_found context [] f.arguments in
    let result = result_typing context f.result in
    let inner = with_typed context (arguments_typed context [] f.arguments) in
    let body = body_typing false inner result.ty f.body in
    let a = none_in parametrics.faults (arguments.faults ++ (result.faults ++ body.faults)) well_typed.faults in
    let b = none_in arguments.faults (result.faults ++ body.faults) a.1 in
    let c = none_in result.faults body.faults b.1 in
    let p = all_in known.is_sound parametrics.reached (arguments.reached ++ (result.reached ++ body.reached)) well_typed.reached in
    let q = all_in known.is_sound arguments.reached (result.reached ++ body.reached) p.1 in
    let r = all_in known.is_sound result.reached body.reached q.1 in
    let k = result_has_value context (item_env known bound) place f.result (record { faults = c.0; reached = r.0 }) in
    record {
      result = k.result;
      typed = k.typed;
      declared = k.declared;
      gives = λ operands fit. function_has_value known f parametric_args operands k.result place fit (plain_arguments context complete [] f.arguments b.0) k.declared
          (subst (λ o. IsWellTypedPart known (body_typing false inner o f.body)) k.typed (record { faults = c.1; reached = r.1 }));
      sized = λ operands fit. function_has_size known f parametric_args operands k.result place fit (plain_arguments context complete [] f.arguments b.0)
          (subst (λ o. IsWellTypedPart known (body_typing false inner o f.body)) k.typed (record { faults = c.1; reached = r.1 }));
    }
