-- Instances of procs whose `config` is lowered, and the top proc.
use Rattle.std.specs.Prelude.{◌≡◌, ℕ, List, Option, Some}
use Rattle.dslx_tree.specs.declared.item.Module.{Module}
use Rattle.dslx_tree.specs.declared.process.Proc.{Proc}
use Rattle.dslx_meaning.specs.Environment.{Meanings}
use Rattle.dslx_meaning.specs.Network.{top_parametric_args}
use Rattle.dslx_meaning.specs.declared.value.DslxValue.{DslxValue}
use Rattle.dslx_core.specs.declared.design.Outer.{Outer}
use Rattle.dslx_core.specs.Networks.Configs.{LoweredConfig, ProcInstance, lower_config, config_scope}
use Rattle.dslx_core.specs.Networks.Assembly.{lower_outers}
use Rattle.dslx_total.specs.Configs.ReachedProcs.{IsReachedProc}
use Rattle.dslx_total.specs.Configs.Spawned.{EachSpawn, HasItsInstance, SpawnsReached}

-- each of its spawns is of an instance that is checked, and wherever all of these are at hand, its `config` is lowered to channels,
-- children and members
pub record ConfigLowers (m : Module) (items : Meanings) (top : Option (List ℕ)) (p : Proc) (parametric_args : List DslxValue) : Type 0 where
  pub spawns : EachSpawn (SpawnsReached m top (config_scope items p parametric_args)) p.config.config_statements
  pub becomes : (procs : List ProcInstance) → EachSpawn (HasItsInstance m (config_scope items p parametric_args) procs) p.config.config_statements → (config : LoweredConfig) × (lower_config m items procs p parametric_args ≡ Some config)

-- the instance of the top proc, whose parametric arguments are its defaults, is checked, and the ends of its `config` are lowered to the
-- outer channels
pub record TopLowers (m : Module) (items : Meanings) (top : Option (List ℕ)) (p : Proc) : Type 0 where
  pub checked : IsReachedProc m top p (top_parametric_args items p)
  pub outer : List Outer
  pub outers : lower_outers items p ≡ Some outer
