-- What is so of a machine that has nothing left to do.
use Rattle.std.specs.Prelude.{◌≡◌, List, [], ◌∷◌, ◌++◌, Some}
use Rattle.dslx_tree.specs.declared.expr.Expr.{Expr}
use Rattle.dslx_tree.specs.declared.item.Module.{Module}
use Rattle.dslx_meaning.specs.Environment.{Meanings}
use Rattle.dslx_core.specs.Lowering.Functions.{CoreInstance, Instantiated, instances_from}
use Rattle.dslx_core.specs.Lowering.Trees.{lower_expression}
use Rattle.dslx_core.specs.Machines.Machine.Tasks as task
use Rattle.dslx_core.specs.Machines.Machine.Tasks.{OpenBody, InstanceMachine, InstanceEnv}
use Rattle.dslx_core.specs.Machines.Machine.Bodies.{scope_in}
use Rattle.dslx_core.specs.Machines.Machine.Machines.{last_made}

-- instances, each of which calls those before it
abbrev pub IsTable : Module → Meanings → List CoreInstance → Type 0
IsTable m items table = (is : List Instantiated) × (instances_from m items [] is ≡ Some table)

-- a table that extends another
pub record ExtendsTable (table before : List CoreInstance) : Type 0 where
  pub more : List CoreInstance
  pub is : table ≡ before ++ more

-- with another table
abbrev pub at_table : InstanceEnv → List CoreInstance → InstanceEnv
at_table context table = record { text = context.text; items = context.items; table = table }

-- nothing is left to do
pub record HasEnded (m : InstanceMachine) : Type 0 where
  pub root : m.root.todo ≡ []
  pub opened : m.opened ≡ []

-- an expression that is to be lowered in a body, and nothing else
abbrev pub lowering_alone : Expr → OpenBody → OpenBody
lowering_alone e body = record { given = body.given; todo = task.LowersExpr e ∷ []; made = []; locals = body.locals; count = body.count }

-- what the machine has made is what the expression is lowered to, however many more instances are done later
abbrev pub MakesExpression : InstanceEnv → Expr → OpenBody → InstanceMachine → Type 0
MakesExpression context e body m = (table : List CoreInstance) → ExtendsTable table m.context.table → lower_expression e (scope_in (at_table context table) body) ≡ last_made m.root.made
