-- What is to be done and where the machine stands, without references.
use Rattle.std.specs.Prelude.{ℕ, List, map}
use Rattle.dslx_scope.specs.declared.free_names.machine.Machine.{Machine}
use Rattle.dslx_scope.specs.declared.free_names.task.Task.{Task}
use Rattle.dslx_scope.specs.declared.free_names.task.Task.TheVariants as task
use Rattle.dslx_scope.specs.FreeNames.Tasks as m

abbrev pub plain_task : Task → m.FreeTask
plain_task (task.Expr e) = m.VisitsExpr e.now
plain_task (task.Exprs es) = m.VisitsExprs es.now
plain_task (task.Args as') = m.VisitsArgs as'.now
plain_task (task.Fields fs) = m.VisitsFields fs.now
plain_task (task.Type t) = m.VisitsType t.now
plain_task (task.Types ts) = m.VisitsTypes ts.now
plain_task (task.Block b) = m.VisitsBlock b.now
plain_task (task.Statements ss last) = m.VisitsStatements ss.now last.now
plain_task (task.Arms as') = m.VisitsArms as'.now
plain_task (task.Pattern p) = m.VisitsPattern p.now
plain_task (task.Patterns ps) = m.VisitsPatterns ps.now
plain_task (task.Bind p) = m.BindsNames p.now
plain_task (task.BindAll ps) = m.BindsNamesOfAll ps.now
plain_task (task.KeepFirst n) = m.KeepsNames n

abbrev pub shown : Machine → m.FreeState
shown x = record { todo = map plain_task x.tasks; bound = x.bound; found = map {B = List ℕ} (λ name. name.now) x.found.items }
