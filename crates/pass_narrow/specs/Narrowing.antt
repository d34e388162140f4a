-- What narrowing promises of what stands for a node.
use Rattle.std.specs.Prelude.{◌≡◌, ℕ, ◌<◌, ◌≤◌, true, List, [], length}
use Rattle.xb_value.specs.declared.value.Value.{Value}
use Rattle.delay_model.specs.declared.op.Extend.TheVariants as extend
use Rattle.ir_tree.specs.declared.ir_type.IrType.{IrType, Bits}
use Rattle.ir_tree.specs.declared.node.Node.{Node}
use Rattle.ir_tree.specs.Operations.{on_word, extend_value}
use Rattle.ir_tree.specs.NodeValues.{pure_value}
use Rattle.ir_rebuild.specs.Built.{AreBuilt, AreValues, FitsAt, Extends, OperandSimulates, is_plain_op}
use Rattle.pass_narrow.specs.declared.rewritten_node.RewrittenNode.{RewrittenNode}
use Rattle.pass_narrow.specs.declared.rewritten_node.RewrittenNode.TheVariants as rewritten_node

-- a plain node that can stand behind these, with the type and the value of another
pub record IsLike (state : IrType) (nodes : List Node) (n m : Node) : Type 0 where
  pub fits_at : FitsAt state nodes (length nodes) m
  pub plain : is_plain_op m.op ≡ true
  pub ty : m.ty ≡ n.ty
  pub value : (s : Value) (values : List Value) → AreValues state nodes s values → pure_value m s values ≡ pure_value n s values

-- a plain node that can stand behind these, which has fewer bits than another, and with zeros before them its value
pub record IsLikeLonger (state : IrType) (nodes : List Node) (n m : Node) (w : ℕ) : Type 0 where
  pub fits_at : FitsAt state nodes (length nodes) m
  pub plain : is_plain_op m.op ≡ true
  pub own : ℕ
  pub own_ty : m.ty ≡ Bits own []
  pub fewer : own < w
  pub most : w ≤ 128
  pub ty : n.ty ≡ Bits w []
  pub value : (s : Value) (values : List Value) → AreValues state nodes s values → on_word (extend_value extend.Zero w) (pure_value m s values) ≡ pure_value n s values

abbrev pub IsRewrittenNode : IrType → List Node → Node → RewrittenNode → Type 0
IsRewrittenNode state nodes n (rewritten_node.Operand o) = OperandSimulates state nodes n o
IsRewrittenNode state nodes n (rewritten_node.Node m) = IsLike state nodes n m
IsRewrittenNode state nodes n (rewritten_node.Extended m w) = IsLikeLonger state nodes n m w

-- a list of nodes became another, in which this stands for a node
pub record Narrows (state : IrType) (old new : List Node) (n : Node) (x : RewrittenNode) : Type 0 where
  pub built : AreBuilt state new
  pub extends : Extends old new
  pub stands : IsRewrittenNode state new n x
