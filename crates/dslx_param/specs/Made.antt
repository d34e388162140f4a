-- Tables to which an instance was added.
use Rattle.std.specs.Prelude.{◌≡◌, ℕ, List, Option, None, Some}
use Rattle.dslx_tree.specs.declared.item.Module.{Module}
use Rattle.dslx_meaning.specs.Items.{meanings_of}
use Rattle.dslx_core.specs.Lowering.Functions.{CoreInstance, Instantiated, instance_in}
use Rattle.dslx_core.specs.Machines.Machine.Reached.{ExtendsTable, IsTable}
use Rattle.dslx_instance.specs.Tasks.Shown.{instance_env_of}
use Rattle.dslx_core.specs.Machines.Progress.Missing.{InNoTable}
use Rattle.dslx_param.specs.Needed.{AddsNeeded}

-- a table of a text's instances that extends another, and has an instance; only what is needed for it was added
pub record HasInstance (m : Module) (before : List CoreInstance) (limit : ℕ) (i : Instantiated) (table : List CoreInstance) : Type 0 where
  pub is_table : IsTable m (meanings_of m) table
  pub begins : ExtendsTable table before
  pub place : ℕ × CoreInstance
  pub has : instance_in i.name i.parametric_args 0 table ≡ Some place
  pub adds : AddsNeeded m limit before table (λ t. instance_in i.name i.parametric_args 0 t)

-- the result for an instance that is asked for, where the table has those before it: no table of at most so many instances has it,
-- or there is one, and that is the result
pub data Adds (m : Module) (before : List CoreInstance) (limit : ℕ) (i : Instantiated) : Option (List CoreInstance) → Type 0 where
  IsNone : InNoTable (instance_env_of m before) limit i → Adds m before limit i None
  IsMade : (table : List CoreInstance) → HasInstance m before limit i table → Adds m before limit i (Some table)
