-- Calls of the text's functions, in two parts: which instance is called, and that it is called.
use Rattle.std.specs.Prelude.{[], ◌∷◌, List, ℕ, Option, Some}
use Rattle.dslx_tree.specs.declared.expr.Arg.{Arg}
use Rattle.dslx_tree.specs.declared.item.Module.{Module}
use Rattle.dslx_meaning.specs.Items.{all_parametric_args, as_function, inferred_from, item_named, meanings_of}
use Rattle.dslx_meaning.specs.Lists.{all_some, and_then}
use Rattle.dslx_meaning.specs.declared.value.DslxValue.{DslxValue}
use Rattle.dslx_core.specs.Lowering.Functions.{Instantiated}
use Rattle.dslx_core.specs.Lowering.Lowering.{LoweredExpr, types_of_lowered}
use Rattle.dslx_core.specs.Machines.Machine.Bodies.{doing, scope_in}
use Rattle.dslx_core.specs.Machines.Machine.Parts.{parametric_args_at}
use Rattle.dslx_core.specs.Machines.Machine.Tasks.{CallsInstance, InstanceEnv, OpenBody}

-- the instance that a call with these parametric arguments and operands comes to
abbrev pub the_instance : Module → List ℕ → List DslxValue → List LoweredExpr → Option Instantiated
the_instance m name given es =
    and_then (as_function (item_named name m.items)) (λ f.
    and_then (all_parametric_args (meanings_of m) (inferred_from f.arguments (types_of_lowered es)) [] f.parametrics given) (λ parametric_args.
    Some (record { name = name; parametric_args = parametric_args })))

-- it is called
abbrev pub called : List LoweredExpr → OpenBody → Instantiated → Option OpenBody
called es body i = Some (doing (CallsInstance i es ∷ []) body)

-- where the parametric arguments are constants
abbrev pub function_called : InstanceEnv → List ℕ → List Arg → List LoweredExpr → OpenBody → Option OpenBody
function_called context name parametric_args es body =
    and_then (all_some (parametric_args_at (scope_in context body) parametric_args)) (λ given. and_then (the_instance context.text name given es) (called es body))
