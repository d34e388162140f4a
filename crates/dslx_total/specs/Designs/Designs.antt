-- Tables of the procs that a text reaches, and the design that they are.
use Rattle.std.specs.Prelude.{◌≡◌, ◌≤◌, ℕ, List, [], Option, Some, length, slice_get}
use Rattle.dslx_tree.specs.declared.item.Module.{Module}
use Rattle.dslx_tree.specs.declared.process.Proc.{Proc}
use Rattle.dslx_meaning.specs.Items.{meanings_of}
use Rattle.dslx_meaning.specs.Network.{top_parametric_args}
use Rattle.dslx_meaning.specs.Rules.ModuleRules.{instances_of}
use Rattle.dslx_core.specs.CoreOf.{CoreOf}
use Rattle.dslx_core.specs.Designs.{last_index}
use Rattle.dslx_core.specs.declared.design.Design.{Design}
use Rattle.dslx_core.specs.Lowering.Functions.{CoreInstance, Instantiated}
use Rattle.dslx_core.specs.Networks.Configs.{ProcInstance}
use Rattle.dslx_core.specs.Networks.Assembly.{IsDesignFrom, instances_alone}
use Rattle.dslx_core.specs.Networks.Procs.{procs_from}
use Rattle.dslx_total.specs.Instances.Checked.{AreOfChecked}

-- instances in an order in which each spawns those before it, and what they are lowered to where these functions are at hand. The last one is
-- this proc's with its defaults
pub record ProcsHaveTable (m : Module) (top : Option (List ℕ)) (functions : List CoreInstance) (p : Proc) : Type 0 where
  pub instances : List Instantiated
  pub table : List ProcInstance
  pub lowered : procs_from m (meanings_of m) functions [] instances ≡ Some table
  pub last : ProcInstance
  pub is_last : slice_get table (last_index (instances_alone table)) ≡ Some last
  pub of_name : last.name ≡ p.name.name
  pub of_parametric_args : last.parametric_args ≡ top_parametric_args (meanings_of m) p
  pub few : length table ≤ length (instances_of m top)

-- a checked text that is made of its checked instances, and that simulates it
pub record HasDesign (m : Module) (top : Option (List ℕ)) : Type 0 where
  pub design : Design
  pub made : IsDesignFrom m top design
  pub checked : AreOfChecked m top made.named_functions
  pub stands : CoreOf m top design
