-- Tables of instances, and which instances are in them.
use Rattle.std.specs.Prelude.{◌≡◌, ◌||◌, ℕ, List, Bool}
use Rattle.std.specs.List.{list_any}
use Rattle.dslx_tree.specs.declared.item.Module.{Module}
use Rattle.dslx_meaning.specs.Environment.{Meanings}
use Rattle.dslx_meaning.specs.declared.value.DslxValue.{DslxValue}
use Rattle.dslx_core.specs.Lowering.Functions.{CoreInstance, is_instance}
use Rattle.dslx_core.specs.Machines.Machine.Reached.{ExtendsTable, IsTable}

-- an instance of this name and these parametric arguments is in the table
abbrev pub has_instance : List ℕ → List DslxValue → List CoreInstance → Bool
has_instance name parametric_args table = list_any (is_instance name parametric_args) table

-- a table that has the first as its prefix, and the instances of both and no others
pub record JoinedTable (m : Module) (items : Meanings) (first second : List CoreInstance) : Type 0 where
  pub table : List CoreInstance
  pub is_table : IsTable m items table
  pub begins : ExtendsTable table first
  pub has : (name : List ℕ) (parametric_args : List DslxValue) → has_instance name parametric_args table ≡ (has_instance name parametric_args first || has_instance name parametric_args second)
