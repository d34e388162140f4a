-- What is asked of the instances that are done.
use Rattle.std.specs.Prelude.{List, Bool, Option, is_some}
use Rattle.dslx_meaning.specs.Lists.{and_then}
use Rattle.dslx_core.specs.declared.expr.CoreExpr as core
use Rattle.dslx_core.specs.Lowering.Functions.{CoreInstance, Instantiated, callee_of, instance_in}
use Rattle.dslx_core.specs.Lowering.Lowering.{LoweredExpr, cores_of, lowered, types_of_lowered}
use Rattle.dslx_core.specs.Machines.Machine.Machines.{needed_for, unless_done}
use Rattle.dslx_core.specs.Machines.Machine.Tasks.{LowerTask}

-- whether one is done
abbrev pub done_in : List CoreInstance → Instantiated → Bool
done_in table i = is_some (instance_in i.name i.parametric_args 0 table)

-- a call of one, for these operands
abbrev pub call_in : List CoreInstance → Instantiated → List LoweredExpr → Option LoweredExpr
call_in table i es =
    and_then (and_then (instance_in i.name i.parametric_args 0 table) (callee_of (types_of_lowered es))) (λ callee. lowered (core.Call callee.number (cores_of es)) callee.result)

-- one that isn't done
abbrev pub missing_in : List CoreInstance → Instantiated → Option Instantiated
missing_in table i = unless_done (instance_in i.name i.parametric_args 0 table) i

-- the one that a task needs and that isn't done
abbrev pub missing_for_task : List CoreInstance → LowerTask → Option Instantiated
missing_for_task table d = and_then (needed_for d) (missing_in table)
