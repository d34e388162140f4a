-- Something comes of an instance that is needed, and of an expression that is lowered, where calls come to the instances of a table.
use Rattle.std.proofs.Common.{◌≡◌, ℕ, true, List, [], ◌∷◌, Some, ap}
use Rattle.dslx_meaning.specs.Lists.{and_then}
use Rattle.dslx_tree.specs.declared.expr.Expr.{Expr}
use Rattle.dslx_core.specs.Lowering.Functions.{CoreInstance, Instantiated, callee_in, instance_in}
use Rattle.dslx_core.specs.Lowering.Lowering.{LoweredExpr}
use Rattle.dslx_core.specs.Lowering.Trees.{lower_expression}
use Rattle.dslx_core.specs.Machines.Machine.Bodies.{scope_in}
use Rattle.dslx_core.specs.Machines.Machine.Machines.{needing}
use Rattle.dslx_core.specs.Machines.Machine.Reached.{IsTable, at_table, lowering_alone}
use Rattle.dslx_core.specs.Machines.Machine.Tasks.{InstanceEnv, OpenBody}
use Rattle.dslx_core.proofs.Lemmas.Machines.Machine.Scopes.{makes, spot_of}
use Rattle.dslx_core.proofs.Lemmas.Machines.Alike.{OneType, calls_by_tables, expression_alike, found_has, has_found, more_tables_alike, table_made, there_too}
use Rattle.dslx_core.proofs.OnMachines.OnProgress.Machines.{MayRun}

pub needed_runs : (context : InstanceEnv) (table : List CoreInstance) → IsTable context.text context.items table → (i : Instantiated) (p : ℕ × CoreInstance) → instance_in i.name i.parametric_args 0 table ≡ Some p
    → MayRun context.table (needing i) table context.text context.items
needed_runs context table is i p e = record {
  is_table = is;
  comes = λ longer is' begins has.
      let q = has_found i.name i.parametric_args 0 longer (has i.name i.parametric_args (found_has i.name i.parametric_args 0 table p e)) in
      let spot = spot_of (at_table context longer) (needing i) in
      (spot, ap (λ o. and_then (and_then o (λ q. Some spot)) (λ p. Some p)) q.1);
}

pub expression_runs : (context : InstanceEnv) (table : List CoreInstance) → IsTable context.text context.items table → (e : Expr) (body : OpenBody) (r : LoweredExpr)
    → lower_expression e (scope_in (at_table context table) body) ≡ Some r → MayRun context.table (lowering_alone e body) table context.text context.items
expression_runs context table is e body r h = record {
  is_table = is;
  comes = λ longer is' begins has.
      let alike = more_tables_alike context.text context.items table longer (table_made context.text context.items table is) (table_made context.text context.items longer is') has in
      let calls = calls_by_tables true context.text context.items table longer alike in
      let s = there_too OneType _ _ (expression_alike true (callee_in context.text context.items table) (callee_in context.text context.items longer) calls e (scope_in context body)) r h in
      let spot = spot_of (at_table context longer) (lowering_alone e body) in
      (record { scope = spot.scope; made = s.0 ∷ [] }, ap (λ o. and_then (makes o spot) (λ p. Some p)) s.1);
}
