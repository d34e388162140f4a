-- An expression has one type by all instances of the text's tables.
use Rattle.std.proofs.Common.{◌∙◌, List, refl, sym}
use Rattle.dslx_tree.specs.declared.expr.Expr.{Expr}
use Rattle.dslx_tree.specs.declared.item.Module.{Module}
use Rattle.dslx_meaning.specs.Items.{meanings_of}
use Rattle.dslx_core.specs.Lowering.CoreScopes.{CoreScope}
use Rattle.dslx_core.specs.Lowering.Functions.{CoreInstance}
use Rattle.dslx_core.specs.Lowering.Trees.{lower_expression}
use Rattle.dslx_core.specs.Machines.Alike.Alike.{LowerAgree}
use Rattle.dslx_core.specs.Machines.Machine.Callees.{with_callee}
use Rattle.dslx_core.proofs.Lemmas.Machines.Extension.OneType.{calls_by, one_type}
use Rattle.dslx_param.specs.Needed.{AreOfTable}
use Rattle.dslx_param.proofs.OnNeeded.More.{FoundAmong, knows_more}
pub use Rattle.dslx_param.proofs.OnNeeded.More.{ExprsAreMono}
pub use Rattle.dslx_param.proofs.OnNeeded.Called.{are_all}

-- instances of a table are found in it
in_whole : (m : Module) (these : List CoreInstance) (are : AreOfTable m these) → FoundAmong these are.table
in_whole m these are name parametric_args p e = let k = are.found name parametric_args p e in ((k.0, p.1), k.1, record { arguments = refl; result = refl })

pub one_type_of : ExprsAreMono → (m : Module) (first second : List CoreInstance) → AreOfTable m first → AreOfTable m second → (e : Expr) (scope : CoreScope)
    → LowerAgree (lower_expression e (with_callee (calls_by m first) scope)) (lower_expression e (with_callee (calls_by m second) scope))
one_type_of mono m first second are other e scope r s by_first by_second =
    let x = mono e scope (calls_by m first) (calls_by m are.table) (knows_more m (meanings_of m) first are.table (in_whole m first are)) r by_first in
    let y = mono e scope (calls_by m second) (calls_by m other.table) (knows_more m (meanings_of m) second other.table (in_whole m second other)) s by_second in
    x.2 ∙ one_type m are.table other.table are.is_table other.is_table e scope x.0 y.0 x.1 y.1 ∙ sym y.2
