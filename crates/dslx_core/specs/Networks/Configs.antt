-- Which channels, children and members a `config` of a text is lowered to in an instance of its proc.
use Rattle.std.specs.Prelude.{ℕ, suc, List, [], ◌∷◌, ◌&&◌, ◌==◌, ◌^◌, nat_lt, map, Bool, Option, Some, None, length, if◌then◌else◌}
use Rattle.std.specs.Str.{bytes_eq}
use Rattle.dslx_tree.specs.declared.expr.Arg.{Arg, out-Arg}
use Rattle.dslx_tree.specs.declared.item.Module.{Module}
use Rattle.dslx_tree.specs.declared.process.Proc.{Proc}
use Rattle.dslx_tree.specs.declared.process.Channel.{Channel}
use Rattle.dslx_tree.specs.declared.process.Spawn.{Spawn}
use Rattle.dslx_tree.specs.declared.process.ConfigStatement.{ConfigStatement}
use Rattle.dslx_tree.specs.declared.process.ConfigStatement.TheVariants as config_statement
use Rattle.dslx_meaning.specs.Environment.{Meanings}
use Rattle.dslx_meaning.specs.Items.{all_parametric_args, item_named, parametric_args_bound}
use Rattle.dslx_meaning.specs.Lists.{all_some, and_then, pairwise, where_true, with_both}
use Rattle.dslx_meaning.specs.Network.{Held, as_proc}
use Rattle.dslx_meaning.specs.Types.{plain_type}
use Rattle.dslx_meaning.specs.declared.value.DslxValue.{DslxValue}
use Rattle.dslx_core.specs.declared.design.Child.{Child}
use Rattle.dslx_core.specs.declared.design.MadeChannel.{MadeChannel}
use Rattle.dslx_core.specs.Lowering.CoreScopes.{BodyEnv, CoreScope, constant_at, size_at}
use Rattle.dslx_meaning.specs.Rules.EqualValues.{equal_value}
use Rattle.dslx_core.specs.Lowering.Functions.{outer_scope}
use Rattle.dslx_core.specs.Lowering.Trees.{lower_type_of_text}
use Rattle.dslx_core.specs.Networks.Ends.{end_numbers, numbered_ends}
use Rattle.dslx_core.specs.declared.networks.instance.ProcInstance as instance_data
use Rattle.dslx_core.specs.declared.networks.config.LoweredConfig as config_data

-- an instance of a proc by its name and its parametric arguments
abbrev pub ProcInstance : Type 0
ProcInstance = instance_data.ProcInstance

-- where a `config` stands: its parametrics are bound, and functions are called in constants alone
abbrev pub config_globals : Meanings → Proc → List DslxValue → BodyEnv
config_globals items p parametric_args = record { items = items; parametric_args = parametric_args_bound [] p.parametrics parametric_args; callee = λ name given types. None }

abbrev pub config_scope : Meanings → Proc → List DslxValue → CoreScope
config_scope items p parametric_args = outer_scope (config_globals items p parametric_args)

-- ---- channels

abbrev pub lower_depth : CoreScope → Option Arg → Option ℕ
lower_depth scope None = Some 1
lower_depth scope (Some a) = and_then (size_at scope (out-Arg a).value) (λ d. where_true (nat_lt d (2 ^ 32)) (Some d))

abbrev pub lower_channel : CoreScope → Channel → Option MadeChannel
lower_channel scope c =
    with_both (lower_type_of_text c.word scope) (lower_depth scope c.depth) (λ t d. Some (record { name = c.name.name; ty = plain_type t; depth = d }))

abbrev pub lower_made : CoreScope → List ConfigStatement → Option (List MadeChannel)
lower_made scope [] = Some []
lower_made scope (config_statement.Channel c ∷ ms) = with_both (lower_channel scope c) (lower_made scope ms) (λ c cs. Some (c ∷ cs))
lower_made scope (config_statement.Spawn s ∷ ms) = lower_made scope ms

-- ---- children

abbrev pub is_proc_instance : List ℕ → List DslxValue → ProcInstance → Bool
is_proc_instance name parametric_args i = bytes_eq name i.name && pairwise equal_value parametric_args i.parametric_args

-- the number of the first instance of a name and parametric arguments
abbrev pub proc_instance_in : List ℕ → List DslxValue → ℕ → List ProcInstance → Option ℕ
proc_instance_in name parametric_args n [] = None
proc_instance_in name parametric_args n (i ∷ is) = if is_proc_instance name parametric_args i then Some n else proc_instance_in name parametric_args (suc n) is

abbrev pub lower_spawn_parametrics : CoreScope → Proc → List Arg → Option (List DslxValue)
lower_spawn_parametrics scope target arguments =
    and_then (all_some (map (λ (a : Arg). constant_at scope (out-Arg a).value) arguments)) (all_parametric_args scope.known.items [] [] target.parametrics)

-- a spawned proc, which has an instance already, with as many ends as its `config` takes
abbrev pub lower_child : Module → CoreScope → List Held → List ProcInstance → Spawn → Option Child
lower_child m scope held procs s =
    and_then (as_proc (item_named s.target.name m.items)) (λ target.
    and_then (lower_spawn_parametrics scope target s.arguments) (λ parametric_args.
    with_both (proc_instance_in s.target.name parametric_args 0 procs) (end_numbers held s.ends) (λ k ends.
    where_true (length ends == length target.config.ends) (Some (record { instance = k; ends = ends })))))

abbrev pub lower_children : Module → CoreScope → List Held → List ProcInstance → List ConfigStatement → Option (List Child)
lower_children m scope held procs [] = Some []
lower_children m scope held procs (config_statement.Channel c ∷ ms) = lower_children m scope held procs ms
lower_children m scope held procs (config_statement.Spawn s ∷ ms) = with_both (lower_child m scope held procs s) (lower_children m scope held procs ms) (λ c cs. Some (c ∷ cs))

-- ---- the whole

abbrev pub LoweredConfig : Type 0
LoweredConfig = config_data.LoweredConfig

-- a `config`, where these instances are there to be spawned
abbrev pub lower_config : Module → Meanings → List ProcInstance → Proc → List DslxValue → Option LoweredConfig
lower_config m items procs p parametric_args =
    let scope = config_scope items p parametric_args in
    and_then (lower_made scope p.config.config_statements) (λ made.
    with_both (lower_children m scope (numbered_ends p) procs p.config.config_statements) (end_numbers (numbered_ends p) p.config.result) (λ children members.
    Some (record { made = made; children = children; members = members })))
