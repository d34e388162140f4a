-- What a tree becomes, by what stands at its top.
use Rattle.std.proofs.Common.{◌≡◌}
use Rattle.dslx_tree.specs.declared.block.Stmt.TheFolds.{fold_out-Stmt, fold_out-Node, fold_out-Shape, fold_out-TypeNode, fold_out-Block, fold_out-Let, fold_out-Arg, fold_out-Arm, fold_out-Expr, fold_out-FieldValue, fold_out-For, fold_out-Number, fold_out-Pattern, fold_out-TypeExpr}
use Rattle.dslx_tree.specs.declared.block.Stmt.{Stmt, out-Stmt}
use Rattle.dslx_tree.specs.declared.expr.Node.{Node, out-Node}
use Rattle.dslx_tree.specs.declared.pattern.Shape.{Shape, out-Shape}
use Rattle.dslx_tree.specs.declared.type_expr.TypeNode.{TypeNode, out-TypeNode}
use Rattle.dslx_tree.specs.declared.block.Block.{Block, out-Block}
use Rattle.dslx_tree.specs.declared.block.Let.{Let, out-Let}
use Rattle.dslx_tree.specs.declared.expr.Arg.{Arg, out-Arg}
use Rattle.dslx_tree.specs.declared.expr.Arm.{Arm, out-Arm}
use Rattle.dslx_tree.specs.declared.expr.Expr.{Expr, out-Expr}
use Rattle.dslx_tree.specs.declared.expr.FieldValue.{FieldValue, out-FieldValue}
use Rattle.dslx_tree.specs.declared.expr.For.{For, out-For}
use Rattle.dslx_tree.specs.declared.expr.Number.{Number, out-Number}
use Rattle.dslx_tree.specs.declared.pattern.Pattern.{Pattern, out-Pattern}
use Rattle.dslx_tree.specs.declared.type_expr.TypeExpr.{TypeExpr, out-TypeExpr}
use Rattle.dslx_tree.proofs.Lemmas.Folds.Levels.{trees, map_stmt, map_node, map_shape, map_type_node, map_block, map_bind, map_arg, map_arm, map_expr, map_field, map_loop, map_number, map_pattern, map_type_expr}
use Rattle.dslx_tree.proofs.Lemmas.Folds.Folds.{fold_stmt, fold_node, fold_shape, fold_type_node, fold_block, fold_bind, fold_arg, fold_arm, fold_expr, fold_field, fold_loop, fold_number, fold_pattern, fold_type_expr}
use Rattle.dslx_core.proofs.Lemmas.Machines.Machine.Rebuilt.{become, becoming, each_lowers_to}

pub out_stmt : (x : Stmt) → fold_stmt become becoming x ≡ becoming.stmt (map_stmt trees become each_lowers_to (out-Stmt x))
out_stmt x =
    fold_out-Stmt become.stmt become.node become.shape become.type_node become.block become.bind become.arg become.arm become.expr become.field become.loop become.number become.pattern become.type_expr
    becoming.stmt becoming.node becoming.shape becoming.type_node becoming.block becoming.bind becoming.arg becoming.arm becoming.expr becoming.field becoming.loop becoming.number becoming.pattern becoming.type_expr x

pub out_node : (x : Node) → fold_node become becoming x ≡ becoming.node (map_node trees become each_lowers_to (out-Node x))
out_node x =
    fold_out-Node become.stmt become.node become.shape become.type_node become.block become.bind become.arg become.arm become.expr become.field become.loop become.number become.pattern become.type_expr
    becoming.stmt becoming.node becoming.shape becoming.type_node becoming.block becoming.bind becoming.arg becoming.arm becoming.expr becoming.field becoming.loop becoming.number becoming.pattern becoming.type_expr x

pub out_shape : (x : Shape) → fold_shape become becoming x ≡ becoming.shape (map_shape trees become each_lowers_to (out-Shape x))
out_shape x =
    fold_out-Shape become.stmt become.node become.shape become.type_node become.block become.bind become.arg become.arm become.expr become.field become.loop become.number become.pattern become.type_expr
    becoming.stmt becoming.node becoming.shape becoming.type_node becoming.block becoming.bind becoming.arg becoming.arm becoming.expr becoming.field becoming.loop becoming.number becoming.pattern becoming.type_expr x

pub out_type_node : (x : TypeNode) → fold_type_node become becoming x ≡ becoming.type_node (map_type_node trees become each_lowers_to (out-TypeNode x))
out_type_node x =
    fold_out-TypeNode become.stmt become.node become.shape become.type_node become.block become.bind become.arg become.arm become.expr become.field become.loop become.number become.pattern become.type_expr
    becoming.stmt becoming.node becoming.shape becoming.type_node becoming.block becoming.bind becoming.arg becoming.arm becoming.expr becoming.field becoming.loop becoming.number becoming.pattern becoming.type_expr x

pub out_block : (x : Block) → fold_block become becoming x ≡ becoming.block (map_block trees become each_lowers_to (out-Block x))
out_block x =
    fold_out-Block become.stmt become.node become.shape become.type_node become.block become.bind become.arg become.arm become.expr become.field become.loop become.number become.pattern become.type_expr
    becoming.stmt becoming.node becoming.shape becoming.type_node becoming.block becoming.bind becoming.arg becoming.arm becoming.expr becoming.field becoming.loop becoming.number becoming.pattern becoming.type_expr x

pub out_bind : (x : Let) → fold_bind become becoming x ≡ becoming.bind (map_bind trees become each_lowers_to (out-Let x))
out_bind x =
    fold_out-Let become.stmt become.node become.shape become.type_node become.block become.bind become.arg become.arm become.expr become.field become.loop become.number become.pattern become.type_expr
    becoming.stmt becoming.node becoming.shape becoming.type_node becoming.block becoming.bind becoming.arg becoming.arm becoming.expr becoming.field becoming.loop becoming.number becoming.pattern becoming.type_expr x

pub out_arg : (x : Arg) → fold_arg become becoming x ≡ becoming.arg (map_arg trees become each_lowers_to (out-Arg x))
out_arg x =
    fold_out-Arg become.stmt become.node become.shape become.type_node become.block become.bind become.arg become.arm become.expr become.field become.loop become.number become.pattern become.type_expr
    becoming.stmt becoming.node becoming.shape becoming.type_node becoming.block becoming.bind becoming.arg becoming.arm becoming.expr becoming.field becoming.loop becoming.number becoming.pattern becoming.type_expr x

pub out_arm : (x : Arm) → fold_arm become becoming x ≡ becoming.arm (map_arm trees become each_lowers_to (out-Arm x))
out_arm x =
    fold_out-Arm become.stmt become.node become.shape become.type_node become.block become.bind become.arg become.arm become.expr become.field become.loop become.number become.pattern become.type_expr
    becoming.stmt becoming.node becoming.shape becoming.type_node becoming.block becoming.bind becoming.arg becoming.arm becoming.expr becoming.field becoming.loop becoming.number becoming.pattern becoming.type_expr x

pub out_expr : (x : Expr) → fold_expr become becoming x ≡ becoming.expr (map_expr trees become each_lowers_to (out-Expr x))
out_expr x =
    fold_out-Expr become.stmt become.node become.shape become.type_node become.block become.bind become.arg become.arm become.expr become.field become.loop become.number become.pattern become.type_expr
    becoming.stmt becoming.node becoming.shape becoming.type_node becoming.block becoming.bind becoming.arg becoming.arm becoming.expr becoming.field becoming.loop becoming.number becoming.pattern becoming.type_expr x

pub out_field : (x : FieldValue) → fold_field become becoming x ≡ becoming.field (map_field trees become each_lowers_to (out-FieldValue x))
out_field x =
    fold_out-FieldValue become.stmt become.node become.shape become.type_node become.block become.bind become.arg become.arm become.expr become.field become.loop become.number become.pattern become.type_expr
    becoming.stmt becoming.node becoming.shape becoming.type_node becoming.block becoming.bind becoming.arg becoming.arm becoming.expr becoming.field becoming.loop becoming.number becoming.pattern becoming.type_expr x

pub out_loop : (x : For) → fold_loop become becoming x ≡ becoming.loop (map_loop trees become each_lowers_to (out-For x))
out_loop x =
    fold_out-For become.stmt become.node become.shape become.type_node become.block become.bind become.arg become.arm become.expr become.field become.loop become.number become.pattern become.type_expr
    becoming.stmt becoming.node becoming.shape becoming.type_node becoming.block becoming.bind becoming.arg becoming.arm becoming.expr becoming.field becoming.loop becoming.number becoming.pattern becoming.type_expr x

pub out_number : (x : Number) → fold_number become becoming x ≡ becoming.number (map_number trees become each_lowers_to (out-Number x))
out_number x =
    fold_out-Number become.stmt become.node become.shape become.type_node become.block become.bind become.arg become.arm become.expr become.field become.loop become.number become.pattern become.type_expr
    becoming.stmt becoming.node becoming.shape becoming.type_node becoming.block becoming.bind becoming.arg becoming.arm becoming.expr becoming.field becoming.loop becoming.number becoming.pattern becoming.type_expr x

pub out_pattern : (x : Pattern) → fold_pattern become becoming x ≡ becoming.pattern (map_pattern trees become each_lowers_to (out-Pattern x))
out_pattern x =
    fold_out-Pattern become.stmt become.node become.shape become.type_node become.block become.bind become.arg become.arm become.expr become.field become.loop become.number become.pattern become.type_expr
    becoming.stmt becoming.node becoming.shape becoming.type_node becoming.block becoming.bind becoming.arg becoming.arm becoming.expr becoming.field becoming.loop becoming.number becoming.pattern becoming.type_expr x

pub out_type_expr : (x : TypeExpr) → fold_type_expr become becoming x ≡ becoming.type_expr (map_type_expr trees become each_lowers_to (out-TypeExpr x))
out_type_expr x =
    fold_out-TypeExpr become.stmt become.node become.shape become.type_node become.block become.bind become.arg become.arm become.expr become.field become.loop become.number become.pattern become.type_expr
    becoming.stmt becoming.node becoming.shape becoming.type_node becoming.block becoming.bind becoming.arg becoming.arm becoming.expr becoming.field becoming.loop becoming.number becoming.pattern becoming.type_expr x
