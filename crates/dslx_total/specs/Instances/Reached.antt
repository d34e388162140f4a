-- Instances that a text reaches, and tables that have them.
use Rattle.std.specs.Prelude.{◌≡◌, ◌≤◌, ℕ, List, Option, Some, length, true}
use Rattle.dslx_tree.specs.declared.item.Function.{Function}
use Rattle.dslx_tree.specs.declared.item.Module.{Module}
use Rattle.dslx_meaning.specs.Items.{as_function, item_named, meanings_of}
use Rattle.dslx_meaning.specs.Rules.ModuleRules.{instances_of, is_reached}
use Rattle.dslx_core.specs.Lowering.Functions.{CoreInstance, Instantiated, instance_in}
use Rattle.dslx_core.specs.Machines.Machine.Reached.{IsTable}

-- an instance of a function that is checked
pub record IsReachedInstance (m : Module) (top : Option (List ℕ)) (i : Instantiated) : Type 0 where
  pub function : Function
  pub is : as_function (item_named i.name m.items) ≡ Some function
  pub reached : is_reached (record { name = i.name; parametric_args = i.parametric_args }) (instances_of m top) ≡ true

-- a table of at most so many of the text's instances that has this one
pub record ExistsInTable (m : Module) (limit : ℕ) (i : Instantiated) : Type 0 where
  pub table : List CoreInstance
  pub is_table : IsTable m (meanings_of m) table
  pub few : length table ≤ limit
  pub found : ℕ × CoreInstance
  pub has : instance_in i.name i.parametric_args 0 table ≡ Some found
