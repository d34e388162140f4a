-- What replacements say of a list of normal nodes.
use Rattle.std.specs.Prelude.{◌≡◌, ℕ, ◌+◌, max, nat_lt, Bool, false, List, Some, None}
use Rattle.delay_model.specs.declared.op.Binary.{Binary}
use Rattle.delay_model.specs.declared.op.Binary.TheVariants as binary
use Rattle.delay_model.specs.declared.op.Extend.TheVariants as extend
use Rattle.ir_tree.specs.declared.ir_type.IrType.{IrType}
use Rattle.ir_tree.specs.declared.node.Operand.{Operand}
use Rattle.ir_tree.specs.declared.node.Node.{Node}
use Rattle.ir_rebuild.specs.Normal.Patterns.{has_pattern}
use Rattle.ir_rebuild.specs.Normal.Normal.{names_literal, AreNormal}
use Rattle.pass_narrow.specs.declared.node_pattern.NodeReplacement.{NodeReplacement}
use Rattle.pass_narrow.specs.declared.node_pattern.NodeReplacement.TheVariants as right
use Rattle.pass_narrow.specs.Nodes.{extension_node}
use Rattle.pass_narrow.specs.Views.{width_in, extended}

-- an operand that is no literal and no extension by zeros
pub record IsBare (state : IrType) (nodes : List Node) (o : Operand) : Type 0 where
  pub written : names_literal nodes o ≡ false
  pub bare : extended nodes extend.Zero o ≡ None

-- whether numbers of p and q bits give fewer than w
abbrev pub row_test : Binary → ℕ → ℕ → ℕ → Bool
row_test binary.Add w p q = nat_lt (max p q + 1) w
row_test binary.Umul w p q = nat_lt (p + q) w
row_test binary.And w p q = nat_lt (max p q) w
row_test binary.Or w p q = nat_lt (max p q) w
row_test binary.Xor w p q = nat_lt (max p q) w
row_test binary.Sub w p q = false
row_test binary.Udiv w p q = false
row_test binary.Umod w p q = false

-- two bare operands, which pass no test
pub record AreBare (state : IrType) (nodes : List Node) (a b : Operand) (test : ℕ → ℕ → Bool) : Type 0 where
  pub first : IsBare state nodes a
  pub second : IsBare state nodes b
  pub least : test (width_in state nodes a) (width_in state nodes b) ≡ false

abbrev pub IsNormalSide : IrType → List Node → ℕ → NodeReplacement → Type 0
IsNormalSide state nodes total (right.Operand o) = Unit {0}
IsNormalSide state nodes total right.Zero = Unit {0}
IsNormalSide state nodes total (right.Extension kind a) = has_pattern state nodes (extension_node kind a total) ≡ false
IsNormalSide state nodes total (right.Slice x start) = Unit {0}
IsNormalSide state nodes total (right.LongerSlice x start width) = Unit {0}
IsNormalSide state nodes total (right.Operation o a b least) = AreBare state nodes a b (row_test o least)
IsNormalSide state nodes total (right.Comparison o a b least) = AreBare state nodes a b (λ p q. nat_lt (max p q) least)

-- a list of normal nodes became another, in which the operand extends none but this one
pub record IsLonger (state : IrType) (new : List Node) (a o : Operand) : Type 0 where
  pub normal : AreNormal state new
  pub shown : (z : Operand) → extended new extend.Zero o ≡ Some z → z ≡ a
