-- The layers of expressions: their types and their values, by those of their parts.
use Rattle.std.proofs.Common.{◌≡◌, List, Option, Some, sym, ap, subst, ◌∙◌}
use Rattle.xb_value.specs.declared.ty.Ty.{Ty}
use Rattle.ir_tree.specs.declared.node.Operand.{Operand}
use Rattle.ir_tree.specs.NodeTypes.Types.{marks_of}
use Rattle.ir_tree.specs.Rules.Lines.{type_limits}
use Rattle.ir_tree.specs.Rules.Typed.Typed.{none_broken}
use Rattle.ir_rebuild.specs.declared.putting.nodes.Nodes.{Nodes}
use Rattle.ir_rebuild.specs.Putting.Types.{ir_type_of}
use Rattle.ir_rebuild.specs.Putting.Given.{IsNodeType}
use Rattle.dslx_meaning.specs.Lists.{where_true}
use Rattle.dslx_core.specs.declared.expr.CoreExpr.{CoreExpr, out-CoreExpr}
use Rattle.dslx_core.specs.declared.expr.CoreExpr.TheOpen.{CoreExpr-F}
use Rattle.dslx_core.specs.declared.expr.CoreExpr.TheFolds.{map-CoreExpr, fold_out-CoreExpr}
use Rattle.dslx_core.specs.declared.expr.Arm.{Arm}
use Rattle.dslx_core.specs.CoreValues.{Functions, CoreDen, CoreArmDen, core_step, arm_step, core_value}
use Rattle.dslx_core.specs.Types.Typing.{FunctionTypes, Typing, CoreArmTyping, arm_typing}
use Rattle.dslx_core.proofs.Lemmas.Types.{then_is}
use Rattle.ir_lower_nodes.specs.Exprs.NodeTypes.{is_node_type, if_node, node_step, node_type, arm_node_type}
use Rattle.ir_lower_nodes.specs.Exprs.Lowered.{LowersBy, arm_value}
use Rattle.ir_lower_nodes.proofs.OnExprs.OnOptions.{some_same, both, where_is}

pub record IsLimited (o : Option Ty) (t : Ty) : Type 0 where
  pub is : o ≡ Some t
  pub within : IsNodeType (ir_type_of t)

pub limited : (o : Option Ty) (t : Ty) → if_node o ≡ Some t → IsLimited o t
limited o t h =
    let found = then_is o (λ u. where_true (is_node_type (ir_type_of u)) (Some u)) t h in
    let test = where_is (is_node_type (ir_type_of found.first)) (Some found.first) t found.gives in
    let same = some_same found.first t test.1 in
    let parts = both (marks_of (ir_type_of found.first)).sound (none_broken (type_limits 0 (ir_type_of found.first) 0)) test.0 in
    record {
      is = found.is ∙ ap Some same;
      within = subst (λ u. IsNodeType (ir_type_of u)) same (record { sound = parts.0; limits = parts.1 });
    }

abbrev pub types_layer : CoreExpr-F CoreExpr Arm → CoreExpr-F Typing CoreArmTyping
types_layer x = map-CoreExpr CoreExpr Arm Typing CoreArmTyping node_type arm_node_type x

abbrev pub values_layer : CoreExpr-F CoreExpr Arm → CoreExpr-F CoreDen CoreArmDen
values_layer x = map-CoreExpr CoreExpr Arm CoreDen CoreArmDen core_value arm_value x

-- an expression is lowered as its layer is
pub lowers_at : (functions : FunctionTypes) (calls : Functions) (e : CoreExpr) (x : CoreExpr-F CoreExpr Arm) (slots : List Operand) (old new : Nodes) (o : Operand) → out-CoreExpr e ≡ x
    → LowersBy functions calls (node_step (types_layer x)) (core_step (values_layer x)) slots old new o → LowersBy functions calls (node_type e) (core_value e) slots old new o
lowers_at functions calls e x slots old new o h lowers =
    subst (λ q. LowersBy functions calls q (core_value e) slots old new o) (sym (fold_out-CoreExpr Typing CoreArmTyping node_step arm_typing e ∙ ap (λ y. node_step (types_layer y)) h))
    (subst (λ d. LowersBy functions calls (node_step (types_layer x)) d slots old new o) (sym (fold_out-CoreExpr CoreDen CoreArmDen core_step arm_step e ∙ ap (λ y. core_step (values_layer y)) h)) lowers)
