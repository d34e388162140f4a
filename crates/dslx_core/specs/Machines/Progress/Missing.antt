-- What is in no table of at most so many instances.
use Rattle.std.specs.Prelude.{◌≡◌, ◌≤◌, ℕ, List, None, length}
use Rattle.dslx_tree.specs.declared.expr.Expr.{Expr}
use Rattle.dslx_core.specs.Lowering.Functions.{CoreInstance, Instantiated, instance_in}
use Rattle.dslx_core.specs.Lowering.Trees.{lower_expression}
use Rattle.dslx_core.specs.Machines.Machine.Bodies.{scope_in}
use Rattle.dslx_core.specs.Machines.Machine.Reached.{IsTable, at_table}
use Rattle.dslx_core.specs.Machines.Machine.Tasks.{InstanceEnv, OpenBody}

-- no table of the text's instances has this one
abbrev pub InNoTable : InstanceEnv → ℕ → Instantiated → Type 0
InNoTable context limit i = (table : List CoreInstance) → IsTable context.text context.items table → length table ≤ limit → instance_in i.name i.parametric_args 0 table ≡ None

-- the expression isn't lowered there, whatever table calls are looked up in
abbrev pub NoTableLowers : InstanceEnv → ℕ → Expr → OpenBody → Type 0
NoTableLowers context limit e body =
    (table : List CoreInstance) → IsTable context.text context.items table → length table ≤ limit → lower_expression e (scope_in (at_table context table) body) ≡ None
