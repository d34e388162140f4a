-- Expressions of one body that are lowered one after another.
use Rattle.std.specs.Prelude.{◌≡◌, ◌≤◌, ◌∷◌, [], ℕ, List, Option, None, Some, length, map}
use Rattle.dslx_tree.specs.declared.expr.Expr.{Expr}
use Rattle.dslx_tree.specs.declared.item.Module.{Module}
use Rattle.dslx_meaning.specs.Items.{meanings_of}
use Rattle.dslx_meaning.specs.Names.Bound.{given}
use Rattle.dslx_core.specs.Lowering.Functions.{CoreInstance}
use Rattle.dslx_core.specs.Lowering.Lowering.{LoweredExpr}
use Rattle.dslx_core.specs.Lowering.Trees.{lower_expression}
use Rattle.dslx_core.specs.Machines.Machine.Reached.{ExtendsTable, IsTable}
use Rattle.dslx_instance.specs.declared.tasks.body.OpenBody.{OpenBody}
use Rattle.dslx_instance.specs.Tasks.Works.{work_scope}
use Rattle.dslx_instance.specs.declared.tasks.work.BodyWork.{BodyWork}
use Rattle.dslx_param.specs.Needed.{AddsNeeded}

-- what an expression is lowered to, with the instances that are made then: nothing by any table of at most so many instances,
-- or this by each that extends theirs, where only what is needed for it was added, and what is bound stays as it is
pub data LowerResult (m : Module) (limit : ℕ) (w : BodyWork) (e : Expr) : Option (LoweredExpr × BodyWork) → Type 0 where
  IsNone : ((table : List CoreInstance) → IsTable m (meanings_of m) table → length table ≤ limit → lower_expression e (work_scope m table w) ≡ None) → LowerResult m limit w e None
  IsLowered : (r : LoweredExpr) (after : BodyWork) → IsTable m (meanings_of m) after.table → ExtendsTable after.table w.table
      → map given after.given.items ≡ map given w.given.items → after.locals ≡ w.locals → after.count ≡ w.count
      → ((table : List CoreInstance) → ExtendsTable table after.table → lower_expression e (work_scope m table w) ≡ Some r)
      → AddsNeeded m limit w.table after.table (λ table. lower_expression e (work_scope m table w)) → LowerResult m limit w e (Some (r, after))

-- ---- within the crate

-- what was made last in a body, and what else is left of it
abbrev pub taken_from : List CoreInstance → OpenBody → List LoweredExpr → Option (LoweredExpr × BodyWork)
taken_from table root [] = None
taken_from table root (e ∷ made) = Some (e, record { table = table; given = root.given; locals = root.locals; count = root.count })
