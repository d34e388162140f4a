-- Instances of functions become something.
use Rattle.dslx_meaning.specs.declared.ty.DslxType.{DslxType}
use mathlib.Core.Bool.{true≢false}
use Rattle.std.specs.List.{list_all}
use Rattle.std.proofs.Common.{Bool, List, None, Option, Some, [], ap, false, if◌then◌else◌, map, not, refl, subst, sym, true, ℕ, ◌&&◌, ◌++◌, ◌||◌, ◌∙◌, ◌∷◌, ◌≡◌}
use Rattle.dslx_core.specs.Typing.Typed.WellTyped.{IsWellTypedEnv, types_at}
use Rattle.dslx_core.specs.Typing.Typed.Numbers.{AllOwn}
use Rattle.dslx_core.specs.Typing.Typed.Declared.{Declarations, IsDeclared}
use Rattle.dslx_core.specs.Typing.Typed.Complete.{IsComplete, IsWellTypedPart}
use Rattle.dslx_core.proofs.Lemmas.Typing.Typed.{all_are, bound_keeps, one_of_text, or_false, tuple_declared, same_some}
use Rattle.dslx_tree.specs.declared.type_expr.TypeExpr.{TypeExpr}
use Rattle.dslx_tree.specs.declared.item.Parametric.{Parametric}
use Rattle.dslx_tree.specs.declared.item.Function.{Function}
use Rattle.dslx_tree.specs.declared.item.Field.{Field}
use Rattle.dslx_tree.specs.declared.item.Definition.{Definition}
use Rattle.dslx_tree.specs.declared.ident.Ident.{Ident}
use Rattle.dslx_tree.specs.declared.block.Block.{out-Block}
use Rattle.dslx_core.proofs.Lemmas.Typing.Sound.{all_in, none_in, not_broken, passed, type_has_den}
use Rattle.dslx_meaning.specs.Rules.TypeRules.{span_of_type, unit_faults}
use Rattle.dslx_meaning.specs.Rules.NodeRules.{block_pair, type_pair}
use Rattle.dslx_meaning.specs.Rules.NameRules.{local_name}
use Rattle.dslx_meaning.specs.Rules.TypeEnvs.{Instance, Judgement, GlobalEnv, TypeEnv, Typed, is_item, with_typed}
use Rattle.dslx_meaning.specs.Rules.ItemRules.{arguments_found, arguments_typed, body_typing, default_found, function_seen, function_type_env, item_type_env, typing_of_inner, parametrics_found, result_typing}
use Rattle.dslx_meaning.specs.Rules.ConstantRules.{size_faults}
use Rattle.dslx_meaning.specs.Rules.AggregateRules.{wanted_faults}
use Rattle.dslx_meaning.specs.declared.value.DslxValue.{DslxValue}
use Rattle.dslx_meaning.specs.Types.{same_type, unit_type, is_unit}
use Rattle.dslx_meaning.specs.Lists.{all_some, and_then, is_in, where_true}
use Rattle.dslx_meaning.specs.Items.{is_constant_item, item_named, parametric_args_bound, with_number}
use Rattle.dslx_meaning.specs.Environment.{Env, Given, Meanings, bind}
use Rattle.dslx_meaning.specs.Callees.{is_own_name}
use Rattle.dslx_total.specs.Expressions.ExprLowering.{IsClean, reaching}
use Rattle.dslx_total.specs.Expressions.Instances.{InstanceLowers}
use Rattle.dslx_total.specs.Expressions.Beside.{ScopeMatchesEnv}
use Rattle.dslx_total.proofs.OnExpressions.Parts.{well_typed_there}
use Rattle.dslx_total.proofs.OnExpressions.OfPatterns.{local_beside}
use Rattle.dslx_total.proofs.OnExpressions.Joined.{block_part_lowers_to, type_part_lowers_to}
use Rattle.dslx_total.proofs.OnExpressions.Inhabited.{some_value}
use Rattle.dslx_core.specs.Lowering.Trees.{lower_block_of_text, lower_type_of_text}
use Rattle.dslx_core.specs.Lowering.Functions.{LoweredFunction, argument_types, arguments_in_scope, lower_function_body, lower_instance, parametric_args_are_well_typed, outer_scope}
use Rattle.dslx_core.specs.Lowering.CoreScopes.{BodyEnv, CoreScope, with_local}
use Rattle.dslx_core.specs.Typing.Typed.Kinds.{is_of}
use Rattle.dslx_meaning.specs.Values.{type_of_value}

-- ---- names

-- what is no item is no constant
pub plain_name : (context : TypeEnv) → IsComplete context.known → (before : List (List ℕ)) (name : Ident) → local_name context before name ≡ [] → context.known.items.is_constant name.name ≡ false
plain_name context complete before name f =
    let own = is_own_name name.name in
    let item = is_item context name.name in
    let twice = is_in name.name before in
    let q = or_false (own || item) twice (not_broken ((own || item) || twice) 2 name.span f) in
    complete.kinds name.name ∙ by_item (item_named name.name context.known.whole.items) (or_false own item q.0).1
  where
    there_is : {A : Type 0} → Option A → Bool
    there_is None = false
    there_is (Some a) = true

    by_item : (o : Option Definition) → there_is o ≡ false → is_constant_item o ≡ false
    by_item None q = refl
    by_item (Some d) q = absurd (true≢false q)

-- parametrics have names and values of their own
pub parametric_args_are_well_typed_there : (known : GlobalEnv) → IsComplete known → (owner : List ℕ) (before : List (List ℕ)) (so_far : List Given) (ps : List Parametric) (vs : List DslxValue) → (parametrics_found known owner before so_far ps vs).faults ≡ []
    → AllOwn known.items.type_named vs → parametric_args_are_well_typed known.items so_far ≡ true → parametric_args_are_well_typed known.items (parametric_args_bound so_far ps vs) ≡ true
parametric_args_are_well_typed_there known complete owner before so_far [] vs f own h = h
parametric_args_are_well_typed_there known complete owner before so_far (p ∷ ps) [] f own h = h
parametric_args_are_well_typed_there known complete owner before so_far (p ∷ ps) (v ∷ vs) f own h =
    let context = item_type_env known owner so_far in
    let t = typing_of_inner context p.ty in
    let default = default_found context t.ty p.default in
    let rest = parametrics_found known owner (p.name.name ∷ before) (with_number so_far p v) ps vs in
    let q = none_in (local_name context before p.name) (t.faults ++ (default.faults ++ rest.faults)) f in
    let r = none_in default.faults rest.faults (none_in t.faults (default.faults ++ rest.faults) q.1).1 in
    parametric_args_are_well_typed_there known complete owner (p.name.name ∷ before) (with_number so_far p v) ps vs r.1 own.1
    (λ i. (not (plain_name context complete before p.name q.0 i) && (ap (is_of (type_of_value v)) (same_some v own.0.value own.0.is) ∙ own.0.of) i) && h i)

-- ---- arguments

-- the arguments, each behind those before it
pub record ArgumentsExist (here : Instance → Bool) (context : TypeEnv) (fs : List Field) (locals : List Typed) (core : BodyEnv) (scope : CoreScope) : Type 0 where
  pub types : List DslxType
  pub are : map (λ (f : Field). lower_type_of_text f.ty (outer_scope core)) fs ≡ map Some types
  pub typing : map (λ (f : Field). (typing_of_inner context f.ty).ty) fs ≡ map Some types
  pub inner : list_all (λ t. not (is_unit t)) types ≡ true
  pub behind : CoreScope
  pub elaborated : arguments_in_scope fs types scope ≡ Some behind
  pub stands : ScopeMatchesEnv here (with_typed context (arguments_typed context locals fs)) behind
  pub env : Env
  pub typed : IsWellTypedEnv (with_typed context (arguments_typed context locals fs)) env

pub arguments_stand : (here : Instance → Bool) (context : TypeEnv) (outer : Env) (core : BodyEnv) → IsWellTypedEnv context outer → ScopeMatchesEnv here context (outer_scope core) → (before : List (List ℕ)) (fs : List Field)
    → (arguments_found context before fs).faults ≡ [] → list_all here (arguments_found context before fs).reached ≡ true
    → (locals : List Typed) (env : Env) (scope : CoreScope) → IsWellTypedEnv (with_typed context locals) env → ScopeMatchesEnv here (with_typed context locals) scope → ArgumentsExist here context fs locals core scope
arguments_stand here context outer core ho ao before [] f r locals env scope h at = record { types = []; are = refl; typing = refl; inner = refl; behind = scope; elaborated = refl; stands = at; env = env; typed = h }
arguments_stand here context outer core ho ao before (g ∷ fs) f r locals env scope h at =
    let listed = local_name context before g.name in
    let j = typing_of_inner context g.ty in
    let rest = arguments_found context (g.name.name ∷ before) fs in
    let a = none_in listed (j.faults ++ rest.faults) f in
    let b = none_in j.faults rest.faults a.1 in
    let k = all_in here j.reached rest.reached r in
    let own = (type_pair g.ty).1 context in
    let t = type_part_lowers_to here context outer (outer_scope core) g.ty ho ao (record { faults = (none_in own.faults (unit_faults (span_of_type (type_pair g.ty)) own.ty) b.0).0; reached = k.0 }) in
    let units = none_in own.faults (unit_faults (span_of_type (type_pair g.ty)) own.ty) b.0 in
    let not_unit = not_broken (is_unit t.ty) 31 (span_of_type (type_pair g.ty)) (ap (unit_faults (span_of_type (type_pair g.ty))) (sym t.typed) ∙ units.1) in
    let plain = plain_name context ho.known before g.name a.0 in
    let v = some_value (types_at context) ho.known.parts t.ty t.declared in
    let local : Typed = record { name = g.name.name; ty = j.ty } in
    let h' = subst (λ o. IsWellTypedEnv (with_typed context (record { name = g.name.name; ty = o } ∷ locals)) (bind g.name.name v.0 env)) (sym t.typed) (bound_keeps context locals env g.name.name t.ty v.0 h v.1 plain) in
    let at' = subst (λ o. ScopeMatchesEnv here (with_typed context (record { name = g.name.name; ty = o } ∷ locals)) (with_local g.name.name t.ty scope)) (sym t.typed) (local_beside here context locals scope g.name.name t.ty at) in
    let more = arguments_stand here context outer core ho ao (g.name.name ∷ before) fs b.1 k.1 (local ∷ locals) (bind g.name.name v.0 env) (with_local g.name.name t.ty scope) h' at' in
    record {
      types = t.ty ∷ more.types;
      are = λ i. t.is i ∷ more.are i;
      typing = λ i. t.typed i ∷ more.typing i;
      inner = λ i. not (not_unit i) && more.inner i;
      behind = more.behind;
      elaborated = ap (λ b. if b then None else arguments_in_scope fs more.types (with_local g.name.name t.ty scope)) (ap (λ (items : Meanings). items.is_constant g.name.name) at.items ∙ plain) ∙ more.elaborated;
      stands = more.stands;
      env = more.env;
      typed = more.typed;
    }

-- ---- the result

record ResultThere (types : Declarations) (j : Judgement) : Type 0 where
  ty : DslxType
  typed : j.ty ≡ Some ty
  declared : IsDeclared types ty

result_there : (here : Instance → Bool) (context : TypeEnv) (env : Env) (scope : CoreScope) → IsWellTypedEnv context env → ScopeMatchesEnv here context scope → (o : Option TypeExpr)
    → IsWellTypedPart (reaching context.known here) (result_typing context o) → ResultThere (types_at context) (result_typing context o)
result_there here context env scope h at None well_typed = record { ty = unit_type; typed = refl; declared = tuple_declared (types_at context) [] tt }
result_there here context env scope h at (Some t) well_typed =
    let k = (type_has_den t).known context env h (well_typed_there here context scope (result_typing context (Some t)) at well_typed) in
    record { ty = k.0; typed = k.1; declared = ((type_has_den t).means context env h k.0 k.1).1 }

-- ---- the instance

pub instance_is_lowered : (here : Instance → Bool) (known : GlobalEnv) (f : Function) (parametric_args : List DslxValue) (core : BodyEnv) → AllOwn known.items.type_named parametric_args
    → IsWellTypedEnv (function_type_env known f parametric_args) (record { items = known.items; bound = parametric_args_bound [] f.parametrics parametric_args }) → ScopeMatchesEnv here (function_type_env known f parametric_args) (outer_scope core)
    → IsClean here (function_seen known f parametric_args).found.faults (function_seen known f parametric_args).found.reached → InstanceLowers known f parametric_args (lower_instance core f)
instance_is_lowered here known f parametric_args core own h at clean =
    let context = function_type_env known f parametric_args in
    let outer : Env = record { items = known.items; bound = parametric_args_bound [] f.parametrics parametric_args } in
    let parametrics = parametrics_found known f.name.name [] [] f.parametrics parametric_args in
    let arguments = arguments_found context [] f.arguments in
    let result = result_typing context f.result in
    let inner = with_typed context (arguments_typed context [] f.arguments) in
    let body = body_typing false inner result.ty f.body in
    let a = none_in parametrics.faults (arguments.faults ++ (result.faults ++ body.faults)) clean.faults in
    let b = none_in arguments.faults (result.faults ++ body.faults) a.1 in
    let c = none_in result.faults body.faults b.1 in
    let p = all_in here parametrics.reached (arguments.reached ++ (result.reached ++ body.reached)) clean.reached in
    let q = all_in here arguments.reached (result.reached ++ body.reached) p.1 in
    let r = all_in here result.reached body.reached q.1 in
    let args = arguments_stand here context outer core h at [] f.arguments b.0 q.0 [] outer (outer_scope core) h at in
    let j = (block_pair f.body).1 false inner in
    let wrong = wanted_faults (out-Block f.body).span result.ty j.ty in
    let size = size_faults known (out-Block f.body).span.to (record j { faults = j.faults ++ wrong }) in
    let own_faults = none_in j.faults wrong (none_in (j.faults ++ wrong) size c.1).0 in
    let e = block_part_lowers_to here inner args.env args.behind f.body args.typed args.stands (record { faults = own_faults.0; reached = r.1 }) in
    let k = result_there here context outer (outer_scope core) h at f.result (record { faults = c.0; reached = r.0 }) in
    let same = passed (same_type k.ty e.expr.ty) 9 (out-Block f.body).span ((λ i. wanted_faults (out-Block f.body).span (sym k.typed i) (sym e.typed i)) ∙ own_faults.1) in
    let one = one_of_text (types_at context) k.ty e.expr.ty same k.declared e.declared in
    let function : LoweredFunction = record { arguments = args.types; result = e.expr.ty; body = e.expr.core } in
    let stand = (λ i. parametric_args_are_well_typed (at.items i) (at.parametric_args i)) ∙ parametric_args_are_well_typed_there known h.known f.name.name [] [] f.parametrics parametric_args a.0 own refl in
    record {
      function = function;
      is = ap (λ b. where_true b (and_then (argument_types core f.arguments) (lower_function_body core f))) stand
          ∙ ap (λ o. and_then o (lower_function_body core f)) (ap all_some args.are ∙ all_are args.types)
          ∙ ap (λ o. and_then o (λ scope. and_then (lower_block_of_text f.body scope) (λ e. Some (record { arguments = args.types; result = e.ty; body = e.core })))) args.elaborated
          ∙ ap (λ o. and_then o (λ e. Some (record { arguments = args.types; result = e.ty; body = e.core }))) e.is;
      arguments = args.typing;
      inner = args.inner;
      result = k.typed ∙ ap Some one;
    }
