-- What the spawns of a `config` come to: instances that are checked.
use Rattle.std.specs.Prelude.{◌≡◌, ℕ, List, [], ◌∷◌, Option, Some}
use Rattle.dslx_tree.specs.declared.item.Module.{Module}
use Rattle.dslx_tree.specs.declared.process.ConfigStatement.{ConfigStatement}
use Rattle.dslx_tree.specs.declared.process.ConfigStatement.TheVariants as config_statement
use Rattle.dslx_tree.specs.declared.process.Proc.{Proc}
use Rattle.dslx_tree.specs.declared.process.Spawn.{Spawn}
use Rattle.dslx_meaning.specs.Items.{item_named}
use Rattle.dslx_meaning.specs.Network.{as_proc}
use Rattle.dslx_meaning.specs.declared.value.DslxValue.{DslxValue}
use Rattle.dslx_core.specs.Lowering.CoreScopes.{CoreScope}
use Rattle.dslx_core.specs.Networks.Configs.{ProcInstance, proc_instance_in, lower_spawn_parametrics}
use Rattle.dslx_total.specs.Configs.ReachedProcs.{IsReachedProc}

-- so it is with each spawn
abbrev pub EachSpawn : (Spawn → Type 0) → List ConfigStatement → Type 0
EachSpawn Q [] = Unit {0}
EachSpawn Q (config_statement.Channel c ∷ ms) = EachSpawn Q ms
EachSpawn Q (config_statement.Spawn s ∷ ms) = Q s × EachSpawn Q ms

-- a spawn that comes to a proc of the text with parametric arguments, whose instance is checked
pub record SpawnsReached (m : Module) (top : Option (List ℕ)) (scope : CoreScope) (s : Spawn) : Type 0 where
  pub target : Proc
  pub is : as_proc (item_named s.target.name m.items) ≡ Some target
  pub parametric_args : List DslxValue
  pub given : lower_spawn_parametrics scope target s.arguments ≡ Some parametric_args
  pub checked : IsReachedProc m top target parametric_args

-- the instance that a spawn comes to stands among these
abbrev pub HasItsInstance : Module → CoreScope → List ProcInstance → Spawn → Type 0
HasItsInstance m scope procs s = (target : Proc) (parametric_args : List DslxValue) → as_proc (item_named s.target.name m.items) ≡ Some target → lower_spawn_parametrics scope target s.arguments ≡ Some parametric_args
    → (k : ℕ) × (proc_instance_in s.target.name parametric_args 0 procs ≡ Some k)
