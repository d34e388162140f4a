-- A call in two parts is the call.
use Rattle.std.proofs.Common.{◌≡◌, ℕ, List, [], ◌∷◌, Option, Some, None, refl, ap}
use Rattle.dslx_tree.specs.declared.expr.Arg.{Arg}
use Rattle.dslx_tree.specs.declared.item.Function.{Function}
use Rattle.dslx_tree.specs.declared.item.Module.{Module}
use Rattle.dslx_meaning.specs.Callees.{Calls}
use Rattle.dslx_meaning.specs.Items.{all_parametric_args, as_function, inferred_from, item_named, meanings_of}
use Rattle.dslx_meaning.specs.Lists.{all_some, and_then}
use Rattle.dslx_meaning.specs.declared.value.DslxValue.{DslxValue}
use Rattle.dslx_core.specs.Lowering.Functions.{CoreInstance, Instantiated}
use Rattle.dslx_core.specs.Lowering.Lowering.{LoweredExpr, types_of_lowered}
use Rattle.dslx_core.specs.Machines.Machine.Bodies.{scope_in}
use Rattle.dslx_core.specs.Machines.Machine.Parts.{calls_by_kind, calls_function, parametric_args_at}
use Rattle.dslx_core.specs.Machines.Machine.Tasks.{OpenBody}
use Rattle.dslx_instance.specs.Tasks.Shown.{instance_env_of}
use Rattle.dslx_instance_parts.specs.Inner.Calls.{called, function_called, the_instance}

with_parametric_args : (name : List ℕ) (es : List LoweredExpr) (body : OpenBody) (o : Option (List DslxValue))
    → and_then (and_then o (λ parametric_args. Some (record { name = name; parametric_args = parametric_args }))) (called es body)
    ≡ and_then o (λ parametric_args. called es body (record { name = name; parametric_args = parametric_args }))
with_parametric_args name es body None = refl
with_parametric_args name es body (Some parametric_args) = refl

with_function : (m : Module) (name : List ℕ) (given : List DslxValue) (es : List LoweredExpr) (body : OpenBody) (o : Option Function)
    → and_then (and_then o (λ f. and_then (all_parametric_args (meanings_of m) (inferred_from f.arguments (types_of_lowered es)) [] f.parametrics given) (λ parametric_args. Some (record { name = name; parametric_args = parametric_args })))) (called es body)
    ≡ and_then o (λ f. and_then (all_parametric_args (meanings_of m) (inferred_from f.arguments (types_of_lowered es)) [] f.parametrics given) (λ parametric_args. called es body (record { name = name; parametric_args = parametric_args })))
with_function m name given es body None = refl
with_function m name given es body (Some f) = with_parametric_args name es body (all_parametric_args (meanings_of m) (inferred_from f.arguments (types_of_lowered es)) [] f.parametrics given)

with_given : (m : Module) (table : List CoreInstance) (name : List ℕ) (es : List LoweredExpr) (body : OpenBody) (o : Option (List DslxValue))
    → and_then o (λ given. and_then (the_instance m name given es) (called es body)) ≡ and_then o (λ given. calls_function (instance_env_of m table) name es given body)
with_given m table name es body None = refl
with_given m table name es body (Some given) = with_function m name given es body (as_function (item_named name m.items))

-- what is called by its two parts
pub calls_are : (m : Module) (table : List CoreInstance) (name : List ℕ) (parametric_args : List Arg) (es : List LoweredExpr) (body : OpenBody)
    → function_called (instance_env_of m table) name parametric_args es body ≡ calls_by_kind Calls (instance_env_of m table) name parametric_args es body
calls_are m table name parametric_args es body = with_given m table name es body (all_some (parametric_args_at (scope_in (instance_env_of m table) body) parametric_args))
