-- The type of an expression all of whose parts have types that nodes may have.
use Rattle.std.specs.Prelude.{Bool, ◌&&◌, Option, Some}
use Rattle.xb_value.specs.declared.ty.Ty.{Ty}
use Rattle.ir_tree.specs.declared.ir_type.IrType.{IrType}
use Rattle.ir_tree.specs.NodeTypes.Types.{marks_of}
use Rattle.ir_tree.specs.Rules.Lines.{type_limits}
use Rattle.ir_tree.specs.Rules.Typed.Typed.{none_broken}
use Rattle.ir_rebuild.specs.Putting.Types.{ir_type_of}
use Rattle.dslx_meaning.specs.Lists.{and_then, where_true}
use Rattle.dslx_core.specs.declared.expr.CoreExpr.{CoreExpr, fold-CoreExpr}
use Rattle.dslx_core.specs.declared.expr.CoreExpr.TheOpen.{CoreExpr-F}
use Rattle.dslx_core.specs.declared.expr.Arm.{Arm, fold-Arm}
use Rattle.dslx_core.specs.Types.Typing.{Typing, CoreArmTyping, typing_step, arm_typing}

-- a node may have the type: it is sound, and within the limits
abbrev pub is_node_type : IrType → Bool
is_node_type t = (marks_of t).sound && none_broken (type_limits 0 t 0)

abbrev pub if_node : Option Ty → Option Ty
if_node o = and_then o (λ t. where_true (is_node_type (ir_type_of t)) (Some t))

abbrev pub node_step : CoreExpr-F Typing CoreArmTyping → Typing
node_step e calls bound = if_node (typing_step e calls bound)

-- the type of an expression, unless a part of it has none that a node may have
abbrev pub node_type : CoreExpr → Typing
node_type = fold-CoreExpr Typing CoreArmTyping node_step arm_typing

abbrev pub arm_node_type : Arm → CoreArmTyping
arm_node_type = fold-Arm Typing CoreArmTyping node_step arm_typing
