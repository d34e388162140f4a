-- Sizes of instances of procs, each by the sizes of those that come before it in an order.
use Rattle.std.specs.Prelude.{◌-◌, ◌++◌, ◌&&◌, List, [], ◌∷◌, length, slice_get, Bool, true, false, Option, Some, None, if◌then◌else◌}
use Rattle.std.specs.Str.{bytes_eq}
use Rattle.dslx_tree.specs.declared.item.Module.{Module}
use Rattle.dslx_tree.specs.declared.process.ConfigStatement.{ConfigStatement}
use Rattle.dslx_tree.specs.declared.process.ConfigStatement.TheVariants as config_statement
use Rattle.dslx_tree.specs.declared.process.Proc.{Proc}
use Rattle.dslx_meaning.specs.Items.{item_named, meanings_of}
use Rattle.dslx_meaning.specs.Lists.{pairwise}
use Rattle.dslx_meaning.specs.Network.{as_proc}
use Rattle.dslx_meaning.specs.Rules.EqualValues.{equal_value}
use Rattle.dslx_meaning.specs.declared.value.DslxValue.{DslxValue}
use Rattle.dslx_core.specs.Lowering.Functions.{Instantiated}
use Rattle.dslx_core.specs.Networks.Configs.{config_scope}
use Rattle.dslx_config.specs.Configs.Spawned.{spawned_instances}
use Rattle.dslx.specs.declared.count.size.NetworkSize.{NetworkSize}
use Rattle.dslx.specs.Count.Sizes.{both_sizes}

abbrev pub no_size : NetworkSize
no_size = record { procs = 0; channels = 0 }

-- ---- what a `config` makes and spawns

abbrev pub is_channel : ConfigStatement → Bool
is_channel (config_statement.Channel c) = true
is_channel (config_statement.Spawn s) = false

abbrev pub with_channels : NetworkSize → List ConfigStatement → NetworkSize
with_channels size [] = size
with_channels size (x ∷ xs) = with_channels (if is_channel x then both_sizes size (record { procs = 0; channels = 1 }) else size) xs

-- two instances are one
abbrev pub is_same_instance : Instantiated → Instantiated → Bool
is_same_instance i j = bytes_eq i.name j.name && pairwise equal_value i.parametric_args j.parametric_args

-- the size of an instance that is among the first of these, which have these sizes
abbrev pub size_among : List Instantiated → List NetworkSize → Instantiated → NetworkSize
size_among (j ∷ is) (size ∷ sizes) i = if is_same_instance i j then size else size_among is sizes i
size_among _ _ i = no_size

abbrev pub with_sizes : List Instantiated → List NetworkSize → NetworkSize → List Instantiated → NetworkSize
with_sizes order sizes size [] = size
with_sizes order sizes size (i ∷ is) = with_sizes order sizes (both_sizes size (size_among order sizes i)) is

-- ---- instances

abbrev pub size_of_config : List Instantiated → List NetworkSize → List ConfigStatement → Option (List Instantiated) → NetworkSize
size_of_config order sizes xs None = no_size
size_of_config order sizes xs (Some spawned) = with_sizes order sizes (with_channels (record { procs = 1; channels = 0 }) xs) spawned

abbrev pub size_of_proc : Module → List Instantiated → List NetworkSize → List DslxValue → Option Proc → NetworkSize
size_of_proc m order sizes parametric_args None = no_size
size_of_proc m order sizes parametric_args (Some p) =
    size_of_config order sizes p.config.config_statements (spawned_instances m (config_scope (meanings_of m) p parametric_args) p.config.config_statements)

-- an instance, where the first ones of the order have these sizes
abbrev pub size_of_instance : Module → List Instantiated → List NetworkSize → Instantiated → NetworkSize
size_of_instance m order sizes i = size_of_proc m order sizes i.parametric_args (as_proc (item_named i.name m.items))

-- those of the order's rest, behind those that are known
abbrev pub sizes_behind : Module → List Instantiated → List NetworkSize → List Instantiated → List NetworkSize
sizes_behind m order sizes [] = sizes
sizes_behind m order sizes (i ∷ is) = sizes_behind m order (sizes ++ size_of_instance m order sizes i ∷ []) is

abbrev pub size_or_none : Option NetworkSize → NetworkSize
size_or_none None = no_size
size_or_none (Some size) = size

-- the size of the last one
abbrev pub last_of : List NetworkSize → NetworkSize
last_of sizes = size_or_none (slice_get sizes (length sizes - 1))
