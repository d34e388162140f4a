-- Instances of functions that are lowered.
use Rattle.std.specs.Prelude.{◌≡◌, List, map, true, not, Option, Some}
use Rattle.dslx_meaning.specs.Types.{is_unit}
use Rattle.std.specs.List.{list_all}
use Rattle.dslx_tree.specs.declared.item.Field.{Field}
use Rattle.dslx_tree.specs.declared.item.Function.{Function}
use Rattle.dslx_meaning.specs.declared.value.DslxValue.{DslxValue}
use Rattle.dslx_meaning.specs.Rules.ItemRules.{function_type_env, typing_of_inner, result_typing}
use Rattle.dslx_meaning.specs.Rules.TypeEnvs.{GlobalEnv}
use Rattle.dslx_core.specs.Lowering.Functions.{LoweredFunction}

-- an instance is lowered to a function of the types that are declared for its arguments, none of which is (), and for its result
pub record InstanceLowers (known : GlobalEnv) (f : Function) (parametric_args : List DslxValue) (o : Option LoweredFunction) : Type 0 where
  pub function : LoweredFunction
  pub is : o ≡ Some function
  pub arguments : map (λ (a : Field). (typing_of_inner (function_type_env known f parametric_args) a.ty).ty) f.arguments ≡ map Some function.arguments
  pub inner : list_all (λ t. not (is_unit t)) function.arguments ≡ true
  pub result : (result_typing (function_type_env known f parametric_args) f.result).ty ≡ Some function.result
