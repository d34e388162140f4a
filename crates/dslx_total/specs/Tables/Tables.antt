-- Tables of the functions that a text reaches.
use Rattle.std.specs.Prelude.{◌≡◌, ◌≤◌, ℕ, List, [], Option, Some, length}
use Rattle.dslx_tree.specs.declared.item.Module.{Module}
use Rattle.dslx_meaning.specs.Items.{meanings_of}
use Rattle.dslx_meaning.specs.Rules.ModuleRules.{instances_of, is_reached}
use Rattle.dslx_core.specs.Lowering.Functions.{Instantiated, instances_from}
use Rattle.dslx_total.specs.Expressions.InstanceLists.{AreThere, HaveTable}
use Rattle.dslx_total.specs.Instances.Checked.{AreOfChecked}
use Rattle.dslx_total.specs.Instances.Denoted.{checked_globals}

-- instances in an order in which each calls those before it, and what they are lowered to by what is known of checked items, and so by
-- what the items denote. Each instance of a function that is checked stands in it, if its parametrics have values of their own types
pub record FunctionsHaveTable (m : Module) (top : Option (List ℕ)) : Type 0 where
  pub instances : List Instantiated
  pub known : HaveTable (checked_globals m top) instances
  pub lowered : instances_from m (meanings_of m) [] instances ≡ Some known.table
  pub reached : AreThere (λ i. is_reached i (instances_of m top)) (checked_globals m top) instances
  pub checked : AreOfChecked m top instances
  pub few : length known.table ≤ length (instances_of m top)
