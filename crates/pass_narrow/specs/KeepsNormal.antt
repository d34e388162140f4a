-- That what stands for a node has no pattern behind normal nodes.
use Rattle.std.specs.Prelude.{◌≡◌, true, false, List}
use Rattle.delay_model.specs.declared.op.Extend.TheVariants as extend
use Rattle.ir_tree.specs.declared.ir_type.IrType.{IrType}
use Rattle.ir_tree.specs.declared.node.Node.{Node}
use Rattle.ir_rebuild.specs.Normal.Patterns.{is_extension, has_pattern}
use Rattle.ir_rebuild.specs.Normal.Normal.{is_cases, AreNormal}
use Rattle.pass_narrow.specs.declared.rewritten_node.RewrittenNode.{RewrittenNode}
use Rattle.pass_narrow.specs.declared.rewritten_node.RewrittenNode.TheVariants as rewritten_node

-- a node that has no pattern; a select is the node itself
pub record IsNarrow (state : IrType) (nodes : List Node) (n m : Node) : Type 0 where
  pub narrowed : has_pattern state nodes m ≡ false
  pub select : is_cases m.attributes ≡ true → m ≡ n

-- one over which an extension by zeros has none either
pub record IsNarrowInside (state : IrType) (nodes : List Node) (m : Node) : Type 0 where
  pub narrowed : has_pattern state nodes m ≡ false
  pub no_select : is_cases m.attributes ≡ false
  pub no_extension : is_extension extend.Zero m.op ≡ false

abbrev pub HasNoPattern : IrType → List Node → Node → RewrittenNode → Type 0
HasNoPattern state nodes n (rewritten_node.Operand o) = Unit {0}
HasNoPattern state nodes n (rewritten_node.Node m) = IsNarrow state nodes n m
HasNoPattern state nodes n (rewritten_node.Extended m w) = IsNarrowInside state nodes m

-- a list of normal nodes became another, behind which this has no pattern
abbrev pub KeepsNormal : IrType → List Node → List Node → Node → RewrittenNode → Type 0
KeepsNormal state old new n x = AreNormal state old → AreNormal state new × HasNoPattern state new n x
