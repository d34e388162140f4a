-- What is to be done, without references.
use Rattle.std.specs.Prelude.{ℕ, List}
use Rattle.xb_bits.specs.Word.{Word}
use Rattle.dslx_core.specs.CoreValues.{Bindings}
use Rattle.dslx_core.specs.declared.expr.CoreExpr.{CoreExpr}
use Rattle.dslx_core.specs.declared.expr.Shape.{Shape}
use Rattle.dslx_core.specs.declared.expr.Arm.{Arm}
use Rattle.dslx_interp.specs.declared.eval.operation.Operation.{Operation}
use Rattle.dslx_interp.specs.declared.eval.task.Task.{Task}
use Rattle.dslx_interp.specs.declared.eval.task.Task.TheVariants as task

-- what is still to be done
pub data PlainTask : Type 0 where
  ValueDen : CoreExpr → PlainTask
  EachValueDen : List CoreExpr → PlainTask
  Operates : Operation → PlainTask
  Binds : Shape → CoreExpr → PlainTask
  Chooses : CoreExpr → CoreExpr → PlainTask
  Selects : List Arm → PlainTask
  -- so many turns, the index of the next, what an index and what is accumulated bind, and the body
  Turns : ℕ → Word → Shape → Shape → CoreExpr → PlainTask
  -- a function, and how many operands it has
  Calls : ℕ → ℕ → PlainTask
  Forgets : ℕ → PlainTask
  Returns : Bindings → ℕ → PlainTask

abbrev pub plain_task : Task → PlainTask
plain_task (task.Eval e) = ValueDen e.now
plain_task (task.EvalEach es) = EachValueDen es.now
plain_task (task.Operate o) = Operates o
plain_task (task.Bind shape e) = Binds shape.now e.now
plain_task (task.Choose a c) = Chooses a.now c.now
plain_task (task.Select arms) = Selects arms.now
plain_task (task.Turn n i index shape e) = Turns n i index.now shape.now e.now
plain_task (task.Call f n) = Calls f n
plain_task (task.Forget n) = Forgets n
plain_task (task.Return bound n) = Returns bound.items n
