-- Instances that are lowered where calls come to different instances.
use Rattle.std.proofs.Common.{◌≡◌, ℕ, Bool, List, [], Option, Some, None, refl, sym, ap, subst}
use Rattle.dslx_tree.specs.declared.item.Function.{Function}
use Rattle.dslx_tree.specs.declared.item.Module.{Module}
use Rattle.dslx_meaning.specs.Environment.{Meanings}
use Rattle.dslx_meaning.specs.Items.{all_parametric_args, as_function, inferred_from, item_named}
use Rattle.dslx_meaning.specs.Lists.{and_then, pairwise}
use Rattle.dslx_meaning.specs.declared.ty.DslxType.{DslxType}
use Rattle.dslx_meaning.specs.declared.value.DslxValue.{DslxValue}
use Rattle.dslx_core.specs.Lowering.CoreScopes.{BodyEnv, CoreScope}
use Rattle.dslx_core.specs.Lowering.EqualTypes.{equal_type}
use Rattle.dslx_core.specs.Lowering.Functions.{CoreInstance, Instantiated, LoweredFunction, argument_types, arguments_in_scope, lower_function_body, callee_in, instance_in, instance_globals, lower_instance, next_instance, parametric_args_are_well_typed, outer_scope}
use Rattle.dslx_core.specs.Lowering.Trees.{lower_block_of_text}
use Rattle.dslx_core.specs.Machines.Machine.Callees.{CalleesByName}
use Rattle.dslx_core.proofs.Lemmas.Machines.Machine.Instances.{arguments_anywhere, calling, types_anywhere}
use Rattle.dslx_core.specs.Machines.Alike.Alike.{OfOneType}
use Rattle.dslx_core.proofs.OnMachines.OnAlike.Joined.{block_alike}
use Rattle.dslx_core.proofs.OnMachines.OnAlike.OfCalls.{CallsAlike, OneResult}
use Rattle.dslx_core.proofs.OnMachines.OnAlike.OfOperators.{OneType}
use Rattle.dslx_core.proofs.OnMachines.OnAlike.Relation.{Alike, both_there, none_alike, then_alike, then_same, there_under, where_alike}

-- ---- one instance

-- the two have the same types of arguments and of the result
abbrev OneSignature : LoweredFunction → LoweredFunction → Type 0
OneSignature l x = (l.arguments ≡ x.arguments) × (l.result ≡ x.result)

module _ (more : Bool) (c d : CalleesByName) (calls : CallsAlike more c d) where
  -- the scope where arguments are bound is the same but for what calls come to
  body_alike : (known : BodyEnv) (f : Function) (ts : List DslxType) → Alike more OneSignature (lower_function_body (calling known c) f ts) (lower_function_body (calling known d) f ts)
  body_alike known f ts =
      subst (λ o. Alike more OneSignature (and_then o made) (lower_function_body (calling known d) f ts)) (sym (arguments_anywhere known c f.arguments ts [] 0))
      (subst (λ o. Alike more OneSignature (and_then (with_calls c (arguments_in_scope f.arguments ts (outer_scope known))) made) (and_then o made)) (sym (arguments_anywhere known d f.arguments ts [] 0))
      (by (arguments_in_scope f.arguments ts (outer_scope known))))
    where
      with_calls : CalleesByName → Option CoreScope → Option CoreScope
      with_calls c o = and_then o (λ p. Some (record { known = calling known c; locals = p.locals; count = p.count }))

      made : CoreScope → Option LoweredFunction
      made scope = and_then (lower_block_of_text f.body scope) (λ e. Some (record { arguments = ts; result = e.ty; body = e.core }))

      by : (o : Option CoreScope) → Alike more OneSignature (and_then (with_calls c o) made) (and_then (with_calls d o) made)
      by None = none_alike more OneSignature _
      by (Some p) =
          then_alike more OneType OneSignature _ _ _ _ (block_alike more c d calls f.body (record { known = known; locals = p.locals; count = p.count }))
          (λ e x q. both_there more OneSignature _ _ (refl, q))

  pub instance_alike : (known : BodyEnv) (f : Function) → Alike more OneSignature (lower_instance (calling known c) f) (lower_instance (calling known d) f)
  instance_alike known f =
      where_alike more OneSignature (parametric_args_are_well_typed known.items known.parametric_args) (parametric_args_are_well_typed known.items known.parametric_args) _ _ refl
      (subst (λ o. Alike more OneSignature (and_then o (lower_function_body (calling known c) f)) (and_then (argument_types (calling known d) f.arguments) (lower_function_body (calling known d) f))) (sym (types_anywhere known c f.arguments))
      (subst (λ o. Alike more OneSignature (and_then (argument_types known f.arguments) (lower_function_body (calling known c) f)) (and_then o (lower_function_body (calling known d) f))) (sym (types_anywhere known d f.arguments))
      (then_same more OneSignature (argument_types known f.arguments) _ _ (body_alike known f))))

-- one more instance behind two tables
pub next_alike : (more : Bool) (m : Module) (items : Meanings) (before other : List CoreInstance) → CallsAlike more (callee_in m items before) (callee_in m items other) → (i : Instantiated)
    → Alike more OfOneType (next_instance m items before i) (next_instance m items other i)
next_alike more m items before other calls i =
    then_same more OfOneType (as_function (item_named i.name m.items)) _ _ (λ f.
    then_alike more OneSignature OfOneType _ _ _ _ (instance_alike more (callee_in m items before) (callee_in m items other) calls (instance_globals m items before f i.parametric_args) f)
    (λ l x h. both_there more OfOneType _ _ (record { arguments = h.0; result = h.1 })))

-- ---- calls by tables

-- an instance that is found in both has one type; or one that is found in the first is also found in the second
abbrev pub TablesAlike : Bool → List CoreInstance → List CoreInstance → Type 0
TablesAlike more a b = (name : List ℕ) (parametric_args : List DslxValue) → Alike more (λ (p q : ℕ × CoreInstance). OfOneType p.1 q.1) (instance_in name parametric_args 0 a) (instance_in name parametric_args 0 b)

pub calls_by_tables : (more : Bool) (m : Module) (items : Meanings) (a b : List CoreInstance) → TablesAlike more a b → CallsAlike more (callee_in m items a) (callee_in m items b)
calls_by_tables more m items a b tables name given types =
    then_same more OneResult (as_function (item_named name m.items)) _ _ (λ f.
    then_same more OneResult (all_parametric_args items (inferred_from f.arguments types) [] f.parametrics given) _ _ (λ parametric_args.
    then_alike more (λ (p q : ℕ × CoreInstance). OfOneType p.1 q.1) OneResult _ _ _ _ (tables name parametric_args)
    (λ p q h. there_under more OneResult _ _ _ _ (ap (λ ts. pairwise equal_type ts types) h.arguments) h.result)))
