-- The lowered `next` of an instance of a proc.
use Rattle.std.specs.Prelude.{◌≡◌, List, map, Option, Some}
use Rattle.dslx_tree.specs.declared.process.Proc.{Proc}
use Rattle.dslx_meaning.specs.declared.value.DslxValue.{DslxValue}
use Rattle.dslx_meaning.specs.Rules.ItemRules.{typing_of_type}
use Rattle.dslx_meaning.specs.Rules.TypeEnvs.{GlobalEnv, TypeEnv}
use Rattle.dslx_meaning.specs.Rules.ProcRules.{channel_end_of, proc_type_env}
use Rattle.dslx_core.specs.Lowering.Steps.{LoweredNext}

-- the type environment in it besides the state
abbrev pub members_type_env : GlobalEnv → Proc → List DslxValue → TypeEnv
members_type_env known p parametric_args = let context = proc_type_env known p parametric_args in record context { members = map (channel_end_of context) p.members }

-- it is lowered to steps and a next state, of the type that is declared for its state
pub record NextLowersAsTyped (known : GlobalEnv) (p : Proc) (parametric_args : List DslxValue) (o : Option LoweredNext) : Type 0 where
  pub next : LoweredNext
  pub is : o ≡ Some next
  pub state : (typing_of_type (proc_type_env known p parametric_args) p.next.ty).ty ≡ Some next.state
