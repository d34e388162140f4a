-- Operands that are numbers.
use Rattle.std.specs.Prelude.{◌≡◌, ℕ, List, [], length, IsTrue}
use Rattle.xb_value.specs.declared.value.Value.{Value, out-Value}
use Rattle.xb_value.specs.declared.value.Value.TheOpen.{Value-F}
use Rattle.ir_tree.specs.declared.ir_type.IrType.{IrType, Bits}
use Rattle.ir_tree.specs.declared.node.Operand.{Operand}
use Rattle.ir_tree.specs.declared.node.Node.{Node}
use Rattle.ir_tree.specs.NodeValues.{operand_value}
use Rattle.ir_tree.specs.Rules.Fitting.{type_in, types_behind}
use Rattle.ir_tree.specs.Rules.Lines.{is_there}

abbrev pub number_there : Value-F Value → ℕ
number_there (Value-F.Bits x) = x.value
number_there (Value-F.Tuple vs) = 0
number_there (Value-F.Array vs) = 0

-- the number that a value is; another value counts as 0
abbrev pub number_of : Value → ℕ
number_of v = number_there (out-Value v)

-- the number of an operand
abbrev pub number : Value → List Value → Operand → ℕ
number s values o = number_of (operand_value s values o)

-- the operand stands there, and is a number of so many bits
pub record IsNumber (state : IrType) (nodes : List Node) (o : Operand) (w : ℕ) : Type 0 where
  pub there : IsTrue (is_there (length nodes) o)
  pub ty : type_in (types_behind state nodes) o ≡ Bits w []
