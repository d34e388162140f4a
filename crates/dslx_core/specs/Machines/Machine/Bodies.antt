-- The changes that steps make where an instance is lowered.
use Rattle.std.specs.Prelude.{ℕ, suc, List, [], ◌∷◌, ◌++◌, ◌-◌, drop, length, Option, Some, None}
use Rattle.dslx_meaning.specs.Lists.{and_then}
use Rattle.dslx_core.specs.Lowering.CoreScopes.{BoundSlot, CoreScope}
use Rattle.dslx_core.specs.Lowering.Functions.{callee_in}
use Rattle.dslx_core.specs.Lowering.Lowering.{LoweredExpr}
use Rattle.dslx_core.specs.Machines.Machine.Tasks.{LowerTask, Restores, OpenBody, InstanceEnv}

-- the scope there
abbrev pub scope_in : InstanceEnv → OpenBody → CoreScope
scope_in context body = record {
  known = record { items = context.items; parametric_args = body.given; callee = callee_in context.text context.items context.table };
  locals = body.locals;
  count = body.count;
}

-- with these things to be done first
abbrev pub doing : List LowerTask → OpenBody → OpenBody
doing more body = record body { todo = more ++ body.todo }

-- with a task less
abbrev pub behind : List LowerTask → OpenBody → OpenBody
behind todo body = record body { todo = todo }

abbrev pub with_made : List LoweredExpr → OpenBody → OpenBody
with_made made body = record body { made = made }

-- this is made
abbrev pub gives : Option LoweredExpr → OpenBody → Option OpenBody
gives e body = and_then e (λ e. Some (with_made (e ∷ body.made) body))

-- what was made last, and what is done with it
abbrev pub with_last : {A : Type 0} → List LoweredExpr → (LoweredExpr → List LoweredExpr → Option A) → Option A
with_last [] f = None
with_last (e ∷ made) f = f e made

-- with what is bound in another scope
abbrev pub bound_as : CoreScope → OpenBody → OpenBody
bound_as scope body = record body { locals = scope.locals; count = scope.count }

-- one more value is bound, to no name
abbrev pub unnamed : OpenBody → OpenBody
unnamed body = record body { count = suc body.count }

-- the first so many of what is bound, the last one first
abbrev pub first_bound : ℕ → List BoundSlot → List BoundSlot
first_bound n locals = drop (length locals - n) locals

abbrev pub restored : ℕ → ℕ → OpenBody → OpenBody
restored n count body = record body { locals = first_bound n body.locals; count = count }

-- back to what is bound here
abbrev pub restores : OpenBody → LowerTask
restores body = Restores (length body.locals) body.count
