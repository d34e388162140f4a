-- A machine that lacks a step has nothing to make.
use Rattle.std.proofs.Common.{◌≡◌, ℕ, zero, suc, Option, Some, None, refl, sym, ap, ◌∙◌}
use Rattle.dslx_tree.specs.declared.expr.Expr.{Expr}
use Rattle.dslx_meaning.specs.Lists.{and_then}
use Rattle.dslx_core.proofs.Lemmas.Typing.Typed.{none_some, same_some}
use Rattle.dslx_core.specs.Lowering.Functions.{CoreInstance, Instantiated, instance_in}
use Rattle.dslx_core.specs.Lowering.Lowering.{LoweredExpr}
use Rattle.dslx_core.specs.Lowering.Trees.{lower_expression}
use Rattle.dslx_core.specs.Machines.Machine.Bodies.{scope_in}
use Rattle.dslx_core.specs.Machines.Machine.Machines.{after_steps, machine_at, machine_stepped, needing}
use Rattle.dslx_core.specs.Machines.Machine.Reached.{IsTable, at_table, lowering_alone}
use Rattle.dslx_core.specs.Machines.Machine.Tasks.{InstanceMachine, InstanceEnv, OpenBody}
use Rattle.dslx_core.proofs.Lemmas.Machines.Machine.Options.{from_then, gives_itself}
use Rattle.dslx_core.specs.Machines.Progress.Missing.{InNoTable, NoTableLowers}
use Rattle.dslx_core.proofs.OnMachines.OnProgress.Machines.{goes_on}
use Rattle.dslx_core.proofs.OnMachines.OnProgress.Roots.{expression_runs, needed_runs}

-- one step more
step_more : (n : ℕ) (m r : InstanceMachine) → after_steps n m ≡ Some r → after_steps (suc n) m ≡ machine_stepped r
step_more zero m r e = gives_itself (machine_stepped m) ∙ ap machine_stepped (same_some m r e)
step_more (suc n) m r e =
    let x = from_then (machine_stepped m) (after_steps n) r e in
    ap (λ o. and_then o (after_steps (suc n))) x.1 ∙ step_more n x.0 r x.2

-- it doesn't go on for each number of steps
stops : {X : Type 0} (n : ℕ) (start m : InstanceMachine) → after_steps n start ≡ Some m → machine_stepped m ≡ None → ((n : ℕ) → (r : InstanceMachine) × (after_steps n start ≡ Some r)) → X
stops n start m e last goes = let r = goes (suc n) in none_some r.0 (sym last ∙ sym (step_more n start m e) ∙ r.1)

pub in_no_table : (context : InstanceEnv) → IsTable context.text context.items context.table → (limit n : ℕ) (i : Instantiated) (m : InstanceMachine)
    → after_steps n (machine_at context limit (needing i)) ≡ Some m → machine_stepped m ≡ None → InNoTable context limit i
in_no_table context is limit n i m e last table is' enough = by (instance_in i.name i.parametric_args 0 table) refl
  where
    by : (o : Option (ℕ × CoreInstance)) → instance_in i.name i.parametric_args 0 table ≡ o → o ≡ None
    by None h = refl
    by (Some p) h = stops n (machine_at context limit (needing i)) m e last (λ n. goes_on context (needing i) table limit n is (needed_runs context table is' i p h) enough)

pub lowered_by_no_table : (context : InstanceEnv) → IsTable context.text context.items context.table → (limit n : ℕ) (e : Expr) (body : OpenBody) (m : InstanceMachine)
    → after_steps n (machine_at context limit (lowering_alone e body)) ≡ Some m → machine_stepped m ≡ None → NoTableLowers context limit e body
lowered_by_no_table context is limit n e body m h last table is' enough = by (lower_expression e (scope_in (at_table context table) body)) refl
  where
    by : (o : Option LoweredExpr) → lower_expression e (scope_in (at_table context table) body) ≡ o → o ≡ None
    by None k = refl
    by (Some r) k =
        stops n (machine_at context limit (lowering_alone e body)) m h last (λ n. goes_on context (lowering_alone e body) table limit n is (expression_runs context table is' e body r k) enough)
