-- What instances of functions are lowered to has types.
use Rattle.std.proofs.Common.{◌≡◌, ◌&&◌, ◌++◌, ℕ, Bool, true, false, if◌then◌else◌, List, [], ◌∷◌, map, Some, None, refl, sym, ap, subst, ◌∙◌}
use Rattle.std.specs.List.{list_all}
use Rattle.std.proofs.lemmas.List.{append_assoc, append-nil}
use Rattle.xb_value.specs.declared.ty.Ty.{Ty}
use Rattle.dslx_tree.specs.declared.block.Block.{out-Block}
use Rattle.dslx_tree.specs.declared.item.Field.{Field}
use Rattle.dslx_tree.specs.declared.item.Function.{Function}
use Rattle.dslx_meaning.specs.Environment.{Env}
use Rattle.dslx_meaning.specs.Items.{parametric_args_bound}
use Rattle.dslx_meaning.specs.Lists.{all_some, and_then}
use Rattle.dslx_meaning.specs.Types.{plain_type}
use Rattle.dslx_meaning.specs.declared.ty.DslxType.{DslxType}
use Rattle.dslx_meaning.specs.declared.value.DslxValue.{DslxValue}
use Rattle.dslx_meaning.specs.Rules.AggregateRules.{wanted_faults}
use Rattle.dslx_meaning.specs.Rules.ConstantRules.{size_faults}
use Rattle.dslx_meaning.specs.Rules.ItemRules.{arguments_found, arguments_typed, body_typing, function_seen, function_type_env, parametrics_found, result_typing, typing_of_inner}
use Rattle.dslx_meaning.specs.Rules.NameRules.{local_name}
use Rattle.dslx_meaning.specs.Rules.NodeRules.{block_pair, type_pair}
use Rattle.dslx_meaning.specs.Rules.TypeEnvs.{GlobalEnv, Instance, TypeEnv, with_typed}
use Rattle.dslx_meaning.specs.Rules.TypeRules.{span_of_type, unit_faults}
use Rattle.dslx_core.proofs.Lemmas.Lowering.{from_then, from_where}
use Rattle.dslx_core.proofs.Lemmas.Typing.Laws.{and_true}
use Rattle.dslx_core.proofs.Lemmas.Typing.Sound.{all_in, none_in, some_fault}
use Rattle.dslx_core.proofs.Lemmas.Typing.Typed.{all_are, all_there, list_parts, none_some, same_some}
use Rattle.dslx_core.specs.Lowering.CoreScopes.{BodyEnv, CoreScope, with_local}
use Rattle.dslx_core.specs.Lowering.Functions.{LoweredFunction, argument_types, arguments_in_scope, lower_function_body, lower_instance, outer_scope, parametric_args_are_well_typed}
use Rattle.dslx_core.specs.Lowering.Trees.{lower_block_of_text, lower_type_of_text}
use Rattle.dslx_core.specs.Typing.Typed.Numbers.{AllOwn}
use Rattle.dslx_core.specs.Typing.Typed.WellTyped.{IsWellTypedEnv}
use Rattle.dslx_core.specs.Types.Typing.{FunctionTypes}
use Rattle.dslx_total.proofs.Lemmas.Expressions.{arguments_stand}
use Rattle.dslx_total.specs.Expressions.Beside.{ScopeMatchesEnv}
use Rattle.dslx_total.specs.Expressions.ExprLowering.{IsClean}
use Rattle.dslx_total.specs.Typed.Functions.{FunctionIsTyped}
use Rattle.dslx_total.specs.Typed.Scopes.{TypedBody, TypedScope, is_sound_type}
use Rattle.dslx_total.proofs.OnTyped.Joined.{block_is_typed, written_type_is_sound}
use Rattle.dslx_total.proofs.OnTyped.OnOptions.{typed_there}
use Rattle.dslx_total.proofs.OnTyped.OnScopes.{local_typed}

-- nothing is bound yet
pub outer_typed : (functions : FunctionTypes) (core : BodyEnv) → TypedBody functions core → TypedScope functions [] (outer_scope core)
outer_typed functions core body = record { known = body; count = refl; locals = tt }

-- arguments of sound types, bound one by one
in_scope : (functions : FunctionTypes) (bound : List Ty) (fs : List Field) (us : List DslxType) (scope behind : CoreScope) → TypedScope functions bound scope → list_all is_sound_type us ≡ true → arguments_in_scope fs us scope ≡ Some behind
    → TypedScope functions (bound ++ map plain_type us) behind
in_scope functions bound [] [] scope behind at sound e = subst (λ ts. TypedScope functions ts behind) (sym (append-nil bound)) (subst (TypedScope functions bound) (same_some scope behind e) at)
in_scope functions bound [] (u ∷ us) scope behind at sound e = none_some behind e
in_scope functions bound (f ∷ fs) [] scope behind at sound e = none_some behind e
in_scope functions bound (f ∷ fs) (u ∷ us) scope behind at sound e =
    by_kind (scope.known.items.is_constant f.name.name) e
    (λ later. in_scope functions (bound ++ plain_type u ∷ []) fs us (with_local f.name.name u scope) behind (local_typed functions bound scope f.name.name u at parts.0) parts.1 later)
  where
    parts : (is_sound_type u ≡ true) × (list_all is_sound_type us ≡ true)
    parts = and_true (is_sound_type u) (list_all is_sound_type us) sound

    by_kind : (b : Bool) → (if b then None else arguments_in_scope fs us (with_local f.name.name u scope)) ≡ Some behind
        → (arguments_in_scope fs us (with_local f.name.name u scope) ≡ Some behind → TypedScope functions ((bound ++ plain_type u ∷ []) ++ map plain_type us) behind) → TypedScope functions (bound ++ map plain_type (u ∷ us)) behind
    by_kind true q rest = none_some behind q
    by_kind false q rest = subst (λ ts. TypedScope functions ts behind) (append_assoc bound (plain_type u ∷ []) (map plain_type us)) (rest q)

-- the types of arguments are sound
arguments_sound : (here : Instance → Bool) (context : TypeEnv) (env : Env) (core : BodyEnv) → IsWellTypedEnv context env → ScopeMatchesEnv here context (outer_scope core) → (before : List (List ℕ)) (fs : List Field)
    → (arguments_found context before fs).faults ≡ [] → list_all here (arguments_found context before fs).reached ≡ true → (us : List DslxType) → map (λ (f : Field). lower_type_of_text f.ty (outer_scope core)) fs ≡ map Some us → list_all is_sound_type us ≡ true
arguments_sound here context env core h at before [] f r [] e = refl
arguments_sound here context env core h at before [] f r (u ∷ us) e = some_fault (Some u) (map Some us) (sym e)
arguments_sound here context env core h at before (g ∷ fs) f r [] e = some_fault (lower_type_of_text g.ty (outer_scope core)) (map (λ (f : Field). lower_type_of_text f.ty (outer_scope core)) fs) e
arguments_sound here context env core h at before (g ∷ fs) f r (u ∷ us) e =
    let j = typing_of_inner context g.ty in
    let rest = arguments_found context (g.name.name ∷ before) fs in
    let a = none_in (local_name context before g.name) (j.faults ++ rest.faults) f in
    let b = none_in j.faults rest.faults a.1 in
    let k = all_in here j.reached rest.reached r in
    let own = (type_pair g.ty).1 context in
    let p = list_parts (lower_type_of_text g.ty (outer_scope core)) (Some u) (map (λ (f : Field). lower_type_of_text f.ty (outer_scope core)) fs) (map Some us) e in
    let one = written_type_is_sound here context env (outer_scope core) g.ty h at (record { faults = (none_in own.faults (unit_faults (span_of_type (type_pair g.ty)) own.ty) b.0).0; reached = k.0 }) u p.0 in
    λ i. one i && arguments_sound here context env core h at (g.name.name ∷ before) fs b.1 k.1 us p.1 i

pub instance_is_typed : (here : Instance → Bool) (known : GlobalEnv) (f : Function) (parametric_args : List DslxValue) (core : BodyEnv) (functions : FunctionTypes) → AllOwn known.items.type_named parametric_args
    → IsWellTypedEnv (function_type_env known f parametric_args) (record { items = known.items; bound = parametric_args_bound [] f.parametrics parametric_args })
    → ScopeMatchesEnv here (function_type_env known f parametric_args) (outer_scope core) → TypedBody functions core
    → IsClean here (function_seen known f parametric_args).found.faults (function_seen known f parametric_args).found.reached
    → (l : LoweredFunction) → lower_instance core f ≡ Some l → FunctionIsTyped functions l
instance_is_typed here known f parametric_args core functions own h at typed clean l is =
    let context = function_type_env known f parametric_args in
    let outer : Env = record { items = known.items; bound = parametric_args_bound [] f.parametrics parametric_args } in
    let parametrics = parametrics_found known f.name.name [] [] f.parametrics parametric_args in
    let arguments = arguments_found context [] f.arguments in
    let result = result_typing context f.result in
    let inner = with_typed context (arguments_typed context [] f.arguments) in
    let body = body_typing false inner result.ty f.body in
    let a = none_in parametrics.faults (arguments.faults ++ (result.faults ++ body.faults)) clean.faults in
    let b = none_in arguments.faults (result.faults ++ body.faults) a.1 in
    let c = none_in result.faults body.faults b.1 in
    let p = all_in here parametrics.reached (arguments.reached ++ (result.reached ++ body.reached)) clean.reached in
    let q = all_in here arguments.reached (result.reached ++ body.reached) p.1 in
    let r = all_in here result.reached body.reached q.1 in
    let j = (block_pair f.body).1 false inner in
    let wrong = wanted_faults (out-Block f.body).span result.ty j.ty in
    let size = size_faults known (out-Block f.body).span.to (record j { faults = j.faults ++ wrong }) in
    let own_faults = none_in j.faults wrong (none_in (j.faults ++ wrong) size c.1).0 in
    let args = arguments_stand here context outer core h at [] f.arguments b.0 q.0 [] outer (outer_scope core) h at in
    let whole = from_where (parametric_args_are_well_typed core.items core.parametric_args) (and_then (argument_types core f.arguments) (lower_function_body core f)) l is in
    let us = from_then (argument_types core f.arguments) (lower_function_body core f) l whole.1 in
    let scope = from_then (arguments_in_scope f.arguments us.0 (outer_scope core)) (λ scope. and_then (lower_block_of_text f.body scope) (λ e. Some (record { arguments = us.0; result = e.ty; body = e.core }))) l us.2 in
    let e = from_then (lower_block_of_text f.body scope.0) (λ e. Some (record { arguments = us.0; result = e.ty; body = e.core })) l scope.2 in
    let same_types : args.types ≡ us.0 = same_some args.types us.0 (sym (all_are args.types) ∙ ap all_some (sym args.are) ∙ us.1) in
    let same_scope : args.behind ≡ scope.0 = same_some args.behind scope.0 (sym args.elaborated ∙ ap (λ ts. arguments_in_scope f.arguments ts (outer_scope core)) same_types ∙ scope.1) in
    let sound = arguments_sound here context outer core h at [] f.arguments b.0 q.0 us.0 (all_there (map (λ (f : Field). lower_type_of_text f.ty (outer_scope core)) f.arguments) us.0 us.1) in
    let bound = in_scope functions [] f.arguments us.0 (outer_scope core) scope.0 (outer_typed functions core typed) sound scope.1 in
    let stands = subst (ScopeMatchesEnv here inner) same_scope args.stands in
    let value = typed_there functions (map plain_type us.0) (lower_block_of_text f.body scope.0) e.0
    (block_is_typed f.body here inner args.env scope.0 functions (map plain_type us.0) args.typed stands bound (record { faults = own_faults.0; reached = r.1 })) e.1 in
    subst (FunctionIsTyped functions) (same_some (record { arguments = us.0; result = e.0.ty; body = e.0.core }) l e.2) (record { arguments = sound; body = value.core; result = value.sound })
