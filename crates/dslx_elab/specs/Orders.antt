-- Orders in which the instances of a text's procs can be made.
use Rattle.std.specs.Prelude.{◌≡◌, ◌-◌, ◌++◌, ℕ, List, [], ◌∷◌, length, slice_get, Option, Some}
use Rattle.dslx_tree.specs.declared.item.Module.{Module}
use Rattle.dslx_tree.specs.declared.process.Proc.{Proc}
use Rattle.dslx_tree.specs.declared.process.Spawn.{Spawn}
use Rattle.dslx_meaning.specs.Items.{item_named, meanings_of}
use Rattle.dslx_meaning.specs.Network.{as_proc, top_parametric_args}
use Rattle.dslx_meaning.specs.declared.value.DslxValue.{DslxValue}
use Rattle.dslx_core.specs.Lowering.CoreScopes.{CoreScope}
use Rattle.dslx_core.specs.Lowering.Functions.{Instantiated}
use Rattle.dslx_core.specs.Networks.Configs.{config_scope, lower_spawn_parametrics}
use Rattle.dslx_total.specs.Configs.ReachedProcs.{IsReachedProc}
use Rattle.dslx_total.specs.Configs.Spawned.{EachSpawn}

-- it stands in the list
abbrev pub StandsIn : List Instantiated → Instantiated → Type 0
StandsIn is i = (k : ℕ) × (slice_get is k ≡ Some i)

-- the instance that a spawn comes to is one of these
abbrev pub SpawnsOneOf : Module → CoreScope → List Instantiated → Spawn → Type 0
SpawnsOneOf m scope before s = (target : Proc) (parametric_args : List DslxValue) → as_proc (item_named s.target.name m.items) ≡ Some target → lower_spawn_parametrics scope target s.arguments ≡ Some parametric_args
    → StandsIn before (record { name = s.target.name; parametric_args = parametric_args })

-- an instance of a proc that is checked, which isn't one of these and spawns them alone
pub record CanBeNext (m : Module) (top : Option (List ℕ)) (before : List Instantiated) (i : Instantiated) : Type 0 where
  pub proc : Proc
  pub name : proc.name.name ≡ i.name
  pub checked : IsReachedProc m top proc i.parametric_args
  pub new : StandsIn before i → ⊥
  pub spawns : EachSpawn (SpawnsOneOf m (config_scope (meanings_of m) proc i.parametric_args) before) proc.config.config_statements

-- each stands once, behind those that it spawns; the first of the rest stands behind these
abbrev pub IsSpawnOrder : Module → Option (List ℕ) → List Instantiated → List Instantiated → Type 0
IsSpawnOrder m top before [] = Unit {0}
IsSpawnOrder m top before (i ∷ is) = CanBeNext m top before i × IsSpawnOrder m top (before ++ i ∷ []) is

-- the last one is the top's
abbrev pub EndsWithTop : Module → Proc → List Instantiated → Type 0
EndsWithTop m top is = slice_get is (length is - 1) ≡ Some (record { name = top.name.name; parametric_args = top_parametric_args (meanings_of m) top })
