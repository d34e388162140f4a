-- Which functions the instances of a text's functions are lowered to, and which of them a call resolves to.
use Rattle.std.specs.Prelude.{ℕ, suc, List, [], ◌∷◌, ◌++◌, ◌&&◌, map, Bool, not, Option, Some, None, length, if◌then◌else◌}
use Rattle.std.specs.Str.{bytes_eq}
use Rattle.std.specs.List.{list_all}
use Rattle.dslx_tree.specs.declared.item.Module.{Module}
use Rattle.dslx_tree.specs.declared.item.Function.{Function}
use Rattle.dslx_tree.specs.declared.item.Field.{Field}
use Rattle.dslx_meaning.specs.Lists.{all_some, and_then, pairwise, where_true}
use Rattle.dslx_meaning.specs.Values.{type_of_value}
use Rattle.dslx_meaning.specs.Environment.{Meanings, Given}
use Rattle.dslx_meaning.specs.Items.{all_parametric_args, as_function, inferred_from, item_named, parametric_args_bound}
use Rattle.dslx_meaning.specs.declared.ty.DslxType.{DslxType}
use Rattle.dslx_meaning.specs.declared.value.DslxValue.{DslxValue}
use Rattle.dslx_core.specs.Typing.Typed.Kinds.{is_of}
use Rattle.dslx_core.specs.declared.design.Function as core
use Rattle.dslx_core.specs.Lowering.CoreScopes.{CoreCallee, BodyEnv, CoreScope, with_local}
use Rattle.dslx_core.specs.Lowering.EqualTypes.{equal_type}
use Rattle.dslx_meaning.specs.Rules.EqualValues.{equal_value}
use Rattle.dslx_core.specs.Lowering.Trees.{lower_block_of_text, lower_type_of_text}
use Rattle.dslx_core.specs.declared.lowering.instance.Instantiated as instantiated_data
use Rattle.dslx_core.specs.declared.lowering.instance.CoreInstance as instance_data
use Rattle.dslx_core.specs.declared.lowering.instance.LoweredFunction as function_data

-- ---- one instance

-- the types of its arguments and of its result, and its body over the arguments
abbrev pub LoweredFunction : Type 0
LoweredFunction = function_data.LoweredFunction

-- where nothing is bound but parametrics
abbrev pub outer_scope : BodyEnv → CoreScope
outer_scope known = record { known = known; locals = []; count = 0 }

-- the arguments in order, none of which has a constant's name
abbrev pub arguments_in_scope : List Field → List DslxType → CoreScope → Option CoreScope
arguments_in_scope [] [] scope = Some scope
arguments_in_scope (f ∷ fs) (t ∷ ts) scope = if scope.known.items.is_constant f.name.name then None else arguments_in_scope fs ts (with_local f.name.name t scope)
arguments_in_scope [] (t ∷ ts) scope = None
arguments_in_scope (f ∷ fs) [] scope = None

-- parametrics have no constant's name, and values of their own types
abbrev pub parametric_args_are_well_typed : Meanings → List Given → Bool
parametric_args_are_well_typed items parametric_args = list_all (λ (g : Given). not (items.is_constant g.name) && is_of (type_of_value g.value) g.value) parametric_args

abbrev pub argument_types : BodyEnv → List Field → Option (List DslxType)
argument_types known fields = all_some (map (λ (f : Field). lower_type_of_text f.ty (outer_scope known)) fields)

abbrev pub lower_function_body : BodyEnv → Function → List DslxType → Option LoweredFunction
lower_function_body known f ts =
    and_then (arguments_in_scope f.arguments ts (outer_scope known)) (λ scope.
    and_then (lower_block_of_text f.body scope) (λ e. Some (record { arguments = ts; result = e.ty; body = e.core })))

-- a function, where its parametrics are bound
abbrev pub lower_instance : BodyEnv → Function → Option LoweredFunction
lower_instance known f = where_true (parametric_args_are_well_typed known.items known.parametric_args) (and_then (argument_types known f.arguments) (lower_function_body known f))

-- ---- all instances

-- an instance by its name and its parametric arguments
abbrev pub CoreInstance : Type 0
CoreInstance = instance_data.CoreInstance

abbrev pub is_instance : List ℕ → List DslxValue → CoreInstance → Bool
is_instance name parametric_args i = bytes_eq name i.name && pairwise equal_value parametric_args i.parametric_args

-- the first instance of a name and parametric arguments, with its number
abbrev pub instance_in : List ℕ → List DslxValue → ℕ → List CoreInstance → Option (ℕ × CoreInstance)
instance_in name parametric_args n [] = None
instance_in name parametric_args n (i ∷ is) = if is_instance name parametric_args i then Some (n, i) else instance_in name parametric_args (suc n) is

-- for operands of the types of its arguments
abbrev pub callee_of : List DslxType → ℕ × CoreInstance → Option CoreCallee
callee_of types p = where_true (pairwise equal_type p.1.function.arguments types) (Some (record { number = p.0; result = p.1.function.result }))

-- what a call resolves to among these instances
abbrev pub callee_in : Module → Meanings → List CoreInstance → List ℕ → List DslxValue → List DslxType → Option CoreCallee
callee_in m items instances name given types =
    and_then (as_function (item_named name m.items)) (λ f.
    and_then (all_parametric_args items (inferred_from f.arguments types) [] f.parametrics given) (λ parametric_args.
    and_then (instance_in name parametric_args 0 instances) (callee_of types)))

abbrev pub instance_globals : Module → Meanings → List CoreInstance → Function → List DslxValue → BodyEnv
instance_globals m items instances f parametric_args = record { items = items; parametric_args = parametric_args_bound [] f.parametrics parametric_args; callee = callee_in m items instances }

-- a name and its parametric arguments
abbrev pub Instantiated : Type 0
Instantiated = instantiated_data.Instantiated

abbrev pub next_instance : Module → Meanings → List CoreInstance → Instantiated → Option CoreInstance
next_instance m items before i =
    and_then (as_function (item_named i.name m.items)) (λ f.
    and_then (lower_instance (instance_globals m items before f i.parametric_args) f) (λ l. Some (record { name = i.name; parametric_args = i.parametric_args; function = l })))

-- instances in order, each of which calls those before it
abbrev pub instances_from : Module → Meanings → List CoreInstance → List Instantiated → Option (List CoreInstance)
instances_from m items before [] = Some before
instances_from m items before (i ∷ is) = and_then (next_instance m items before i) (λ c. instances_from m items (before ++ c ∷ []) is)

-- what they are in a checked text
abbrev pub core_function : CoreInstance → core.Function
core_function i = record { arity = length i.function.arguments; body = i.function.body }
