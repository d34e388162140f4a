-- The instances that the spawns of a `config` come to.
use Rattle.std.specs.Prelude.{List, [], ◌∷◌, Option, Some}
use Rattle.dslx_tree.specs.declared.item.Module.{Module}
use Rattle.dslx_tree.specs.declared.process.ConfigStatement.{ConfigStatement}
use Rattle.dslx_tree.specs.declared.process.ConfigStatement.TheVariants as config_statement
use Rattle.dslx_tree.specs.declared.process.Spawn.{Spawn}
use Rattle.dslx_meaning.specs.Items.{item_named}
use Rattle.dslx_meaning.specs.Lists.{and_then, with_both}
use Rattle.dslx_meaning.specs.Network.{as_proc}
use Rattle.dslx_core.specs.Lowering.CoreScopes.{CoreScope}
use Rattle.dslx_core.specs.Lowering.Functions.{Instantiated}
use Rattle.dslx_core.specs.Networks.Configs.{lower_spawn_parametrics}

-- the proc that is spawned, with its parametric arguments
abbrev pub spawned_instance : Module → CoreScope → Spawn → Option Instantiated
spawned_instance m scope s =
    and_then (as_proc (item_named s.target.name m.items)) (λ target.
    and_then (lower_spawn_parametrics scope target s.arguments) (λ parametric_args. Some (record { name = s.target.name; parametric_args = parametric_args })))

-- those of all spawns, in the order of the text
abbrev pub spawned_instances : Module → CoreScope → List ConfigStatement → Option (List Instantiated)
spawned_instances m scope [] = Some []
spawned_instances m scope (config_statement.Channel c ∷ ms) = spawned_instances m scope ms
spawned_instances m scope (config_statement.Spawn s ∷ ms) = with_both (spawned_instance m scope s) (spawned_instances m scope ms) (λ i is. Some (i ∷ is))
