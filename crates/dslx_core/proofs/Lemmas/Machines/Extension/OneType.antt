-- An expression has one type by all tables of a text's instances.
use Rattle.std.proofs.Common.{◌≡◌, ◌∙◌, ◌||◌, Bool, true, false, List, refl, ap, sym}
use mathlib.Core.Bool.{true≢false}
use Rattle.dslx_tree.specs.declared.expr.Expr.{Expr}
use Rattle.dslx_tree.specs.declared.item.Module.{Module}
use Rattle.dslx_meaning.specs.Items.{meanings_of}
use Rattle.dslx_core.proofs.Lemmas.Typing.Typed.{same_some}
use Rattle.dslx_core.specs.Lowering.CoreScopes.{CoreScope}
use Rattle.dslx_core.specs.Lowering.Functions.{CoreInstance, callee_in}
use Rattle.dslx_core.specs.Lowering.Lowering.{LoweredExpr}
use Rattle.dslx_core.specs.Lowering.Trees.{lower_expression}
use Rattle.dslx_core.specs.Machines.Machine.Callees.{CalleesByName, with_callee}
use Rattle.dslx_core.specs.Machines.Machine.Reached.{IsTable}
use Rattle.dslx_core.specs.Machines.Alike.Alike.{LowerAgree, LowerMono}
use Rattle.dslx_core.specs.Machines.Alike.Tables.{has_instance}
use Rattle.dslx_core.proofs.Lemmas.Machines.Alike.{HasThose, OneType, calls_by_tables, expression_alike, joined, more_tables_alike, table_made, there_too}

-- what calls come to
abbrev pub calls_by : Module → List CoreInstance → CalleesByName
calls_by m t = callee_in m (meanings_of m) t

-- what becomes something by a table becomes something of the same type by one that has its instances
by_more : (m : Module) (table longer : List CoreInstance) → IsTable m (meanings_of m) table → IsTable m (meanings_of m) longer → HasThose table longer → (e : Expr) (scope : CoreScope)
    → LowerMono (lower_expression e (with_callee (calls_by m table) scope)) (lower_expression e (with_callee (calls_by m longer) scope))
by_more m table longer is is' has e scope =
    there_too OneType _ _ (expression_alike true (calls_by m table) (calls_by m longer)
    (calls_by_tables true m (meanings_of m) table longer (more_tables_alike m (meanings_of m) table longer (table_made m (meanings_of m) table is) (table_made m (meanings_of m) longer is') has)) e scope)

-- by a table that has the instances of both
pub one_type : (m : Module) (first second : List CoreInstance) → IsTable m (meanings_of m) first → IsTable m (meanings_of m) second → (e : Expr) (scope : CoreScope)
    → LowerAgree (lower_expression e (with_callee (calls_by m first) scope)) (lower_expression e (with_callee (calls_by m second) scope))
one_type m first second is other e scope r s by_first by_second =
    let both = joined m (meanings_of m) first second is other in
    let x = by_more m first both.table is both.is_table (λ name parametric_args h. both.has name parametric_args ∙ left (has_instance name parametric_args first) (has_instance name parametric_args second) h) e scope r by_first in
    let y = by_more m second both.table other both.is_table (λ name parametric_args h. both.has name parametric_args ∙ right (has_instance name parametric_args first) (has_instance name parametric_args second) h) e scope s by_second in
    x.2 ∙ ap (λ (l : LoweredExpr). l.ty) (same_some x.0 y.0 (sym x.1 ∙ y.1)) ∙ sym y.2
  where
    left : (a b : Bool) → a ≡ true → (a || b) ≡ true
    left true b h = refl
    left false b h = absurd (true≢false (sym h))

    right : (a b : Bool) → b ≡ true → (a || b) ≡ true
    right true b h = refl
    right false b h = h
