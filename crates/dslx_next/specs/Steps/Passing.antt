-- What comes of statements in the body of a `next`, with the body behind them.
use Rattle.std.specs.Prelude.{◌≡◌, ◌∷◌, ◌++◌, [], List, Option, None, Some, map}
use Rattle.dslx_tree.specs.declared.block.Block.{Block, out-Block}
use Rattle.dslx_tree.specs.declared.block.Stmt.{Stmt, out-Stmt}
use Rattle.dslx_tree.specs.declared.expr.Expr.{Expr}
use Rattle.dslx_meaning.specs.Activation.{act_of}
use Rattle.dslx_meaning.specs.Items.{meanings_of}
use Rattle.dslx_meaning.specs.Lists.{and_then}
use Rattle.dslx_core.specs.declared.expr.Shape.{Shape}
use Rattle.dslx_core.specs.declared.step.Step.{Step}
use Rattle.dslx_meaning.specs.Names.Bound.{given}
use Rattle.dslx_core.specs.Lowering.CoreScopes.{CoreScope}
use Rattle.dslx_core.specs.Lowering.Functions.{CoreInstance}
use Rattle.dslx_core.specs.Lowering.Lowering.{LoweredExpr}
use Rattle.dslx_core.specs.Lowering.Patterns.{shaped}
use Rattle.dslx_core.specs.Lowering.Steps.{BindsInScope, LoweredSteps, StepsLowering, lower_act, last_of_steps, statement_steps, statements_steps}
use Rattle.dslx_core.specs.Machines.Machine.Reached.{ExtendsTable, IsTable}
use Rattle.dslx_instance.specs.declared.tasks.work.BodyWork.{BodyWork}
use Rattle.dslx_core.specs.Machines.Extension.Results.{TableExtends, NoTableGives}
use Rattle.dslx_param.specs.Needed.{AddsNeeded, AreOfTable}
use Rattle.dslx_next.specs.Opening.Opened.{with_shape}
use Rattle.dslx_next.specs.declared.opening.opened.OpenStep.{OpenStep}
use Rattle.dslx_next.specs.declared.opening.work.NextScope.{NextScope}
use Rattle.dslx_next.specs.Opening.Works.{outer_at, scope_at}

-- ---- what steps bind

-- what is bound by the value that a step gives, which goes behind others, and the body behind it
pub record IsBound (k : NextScope) (binds : BindsInScope) (o : OpenStep) (steps : List Step) (w : BodyWork) (new_steps : List Step) (after : BodyWork) : Type 0 where
  pub table : after.table ≡ w.table
  pub parametric_args : map given after.given.items ≡ map given w.given.items
  pub shape : Shape
  pub pushed : new_steps ≡ steps ++ with_shape o.step shape ∷ []
  pub bound : (t : List CoreInstance) → binds (scope_at k w t) o.ty ≡ shaped shape (scope_at k after t)

abbrev pub StepBinds : NextScope → BindsInScope → OpenStep → List Step → BodyWork → List Step → Option BodyWork → Type 0
StepBinds k binds o steps w new_steps None = (t : List CoreInstance) → binds (scope_at k w t) o.ty ≡ None
StepBinds k binds o steps w new_steps (Some after) = IsBound k binds o steps w new_steps after

-- ---- statements

-- these steps, and then others
abbrev pub behind_steps : List Step → Option LoweredSteps → Option LoweredSteps
behind_steps steps o = and_then o (λ (r : LoweredSteps). Some (record { steps = steps ++ r.steps; next = r.next }))

-- what comes of statements, from what comes of the rest
abbrev pub Leads : Type 0
Leads = List CoreInstance → StepsLowering → Option LoweredSteps

-- an expression that stands as a statement or as the whole value of a `let`
abbrev pub act_at : NextScope → BodyWork → Expr → BindsInScope → Leads
act_at k w e binds table rest = lower_act (outer_at k w table) k.ends.now (act_of e) e binds rest (scope_at k w table)

abbrev pub statement_at : NextScope → BodyWork → Stmt → Leads
statement_at k w s table rest = statement_steps (outer_at k w table) k.ends.now (out-Stmt s) rest (scope_at k w table)

-- these in order
abbrev pub statements_then : CoreScope → NextScope → List Stmt → StepsLowering → StepsLowering
statements_then outer k [] rest scope = rest scope
statements_then outer k (s ∷ ss) rest scope = statement_steps outer k.ends.now (out-Stmt s) (statements_then outer k ss rest) scope

abbrev pub statements_at : NextScope → BodyWork → List Stmt → Leads
statements_at k w ss table rest = statements_then (outer_at k w table) k ss rest (scope_at k w table)

-- if there are steps, there are those behind them, with the same state
abbrev pub HasState : Option LoweredSteps → Option LoweredSteps → Type 0
HasState all behind = (r : LoweredSteps) → all ≡ Some r → (s : LoweredSteps) × (behind ≡ Some s) × (r.next ≡ s.next)

-- the steps of statements go behind others, and the body behind them; by a table that doesn't extend that one they may be others.
-- What was added is needed for them, whatever comes behind
pub record IsPassed (k : NextScope) (leads : Leads) (steps : List Step) (w : BodyWork) (new_steps : List Step) (after : BodyWork) : Type 0 where
  pub grows : TableExtends k.text.now w.table after.table
  pub parametric_args : map given after.given.items ≡ map given w.given.items
  pub passed : (t : List CoreInstance) → ExtendsTable t after.table → (rest : StepsLowering) → behind_steps steps (leads t rest) ≡ behind_steps new_steps (rest (scope_at k after t))
  pub state : (t : List CoreInstance) → AreOfTable k.text.now t → (rest : StepsLowering) → HasState (leads t rest) (rest (scope_at k after t))
  pub adds : (rest : List CoreInstance → StepsLowering) → AddsNeeded k.text.now k.limit w.table after.table (λ t. leads t (rest t))

abbrev pub BodyPasses : NextScope → Leads → List Step → BodyWork → List Step → Option BodyWork → Type 0
BodyPasses k leads steps w new_steps None = (rest : List CoreInstance → StepsLowering) → NoTableGives k.text.now k.limit (λ t. leads t (rest t))
BodyPasses k leads steps w new_steps (Some after) = IsPassed k leads steps w new_steps after

-- ---- bodies

-- the value of the last expression
abbrev pub last_at : NextScope → BodyWork → Option Expr → List CoreInstance → Option LoweredExpr
last_at k w last table = last_of_steps last (scope_at k w table)

-- all steps, and the state behind them
abbrev pub body_at : NextScope → BodyWork → Block → List CoreInstance → Option LoweredSteps
body_at k w b table = statements_steps (outer_at k w table) k.ends.now (out-Block b).statements (out-Block b).value (scope_at k w table)

-- the state behind it has the type of this one by each table by which there is one
abbrev pub HasOneState : NextScope → BodyWork → Block → Option (LoweredSteps × List CoreInstance) → Type 0
HasOneState k w b None = Unit {0}
HasOneState k w b (Some (s, after)) = (t : List CoreInstance) → IsTable k.text.now (meanings_of k.text.now) t → (r : LoweredSteps) → body_at k w b t ≡ Some r → r.next.ty ≡ s.next.ty
