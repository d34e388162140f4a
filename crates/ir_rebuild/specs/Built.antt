-- Lists of nodes that are built, and what stands for a node in them.
use Rattle.std.specs.Prelude.{◌≡◌, ℕ, suc, Bool, true, false, IsTrue, List, [], ◌++◌, length, get_or, slice_get, Some}
use Rattle.std.specs.List.{list_all}
use Rattle.xb_value.specs.declared.value.Value.{Value}
use Rattle.xb_value.specs.Typing.{IsOfType}
use Rattle.delay_model.specs.declared.op.Op.{Op}
use Rattle.delay_model.specs.declared.op.Op.TheVariants as op
use Rattle.ir_tree.specs.declared.ir_type.IrType.{IrType}
use Rattle.ir_tree.specs.declared.node.Operand.{Operand}
use Rattle.ir_tree.specs.declared.node.Node.{Node}
use Rattle.ir_tree.specs.Types.{ty_of}
use Rattle.ir_tree.specs.Constants.{no_value}
use Rattle.ir_tree.specs.NodeValues.{operand_value, pure_value}
use Rattle.ir_tree.specs.NodeTypes.Types.{marks_of}
use Rattle.ir_tree.specs.Rules.Fitting.{type_in, types_behind, node_fits}
use Rattle.ir_tree.specs.Rules.Lines.{are_there, attributes_there, is_there, is_typed, type_limits}
use Rattle.ir_tree.specs.Rules.Typed.Typed.{none_broken}
use Rattle.ir_rebuild.specs.Operands.{operands_in}

-- operations that have no part in the order of an activation: all but `after_all`, `receive` and `send`
abbrev pub is_plain_op : Op → Bool
is_plain_op op.AfterAll = false
is_plain_op op.Receive = false
is_plain_op op.Send = false
is_plain_op _ = true

-- the node can stand at an index: its operands stand before, and it fits the table, the types and the limits
pub record FitsAt (state : IrType) (nodes : List Node) (place : ℕ) (n : Node) : Type 0 where
  pub operands : IsTrue (are_there place n.operands)
  pub attributes : IsTrue (attributes_there place n.attributes)
  pub fits : IsTrue (node_fits [] (types_behind state nodes) n)
  pub typed : IsTrue (is_typed n)
  pub limits : IsTrue (none_broken (type_limits 0 n.ty 0))

-- ids count from 1, types are sound, operands stand before, and each plain node can stand where it stands
pub record AreBuilt (state : IrType) (nodes : List Node) : Type 0 where
  pub sound : IsTrue (marks_of state).sound
  pub numbered : (j : ℕ) (n : Node) → slice_get nodes j ≡ Some n → n.id ≡ suc j
  pub types : (j : ℕ) (n : Node) → slice_get nodes j ≡ Some n → IsTrue (marks_of n.ty).sound
  pub before : (j : ℕ) (n : Node) → slice_get nodes j ≡ Some n → list_all (is_there j) (operands_in n) ≡ true
  pub fits_at : (j : ℕ) (n : Node) → slice_get nodes j ≡ Some n → is_plain_op n.op ≡ true → FitsAt state nodes j n

-- values that the nodes may have in an activation from a state: they are of the types, and those of plain nodes are the values of
-- their operations
pub record AreValues (state : IrType) (nodes : List Node) (s : Value) (values : List Value) : Type 0 where
  pub opened : IsOfType (ty_of state) s
  pub typed : (j : ℕ) (n : Node) → slice_get nodes j ≡ Some n → IsOfType (ty_of n.ty) (get_or values j no_value)
  pub plain : (j : ℕ) (n : Node) → slice_get nodes j ≡ Some n → is_plain_op n.op ≡ true → get_or values j no_value ≡ pure_value n s values

-- some plain nodes more
pub record Extends (old new : List Node) : Type 0 where
  pub more : List Node
  pub are : new ≡ old ++ more
  pub plain : list_all (λ (n : Node). is_plain_op n.op) more ≡ true

-- the operand has the type of the node, and its value, whatever values the nodes have
pub record OperandSimulates (state : IrType) (nodes : List Node) (n : Node) (o : Operand) : Type 0 where
  pub there : IsTrue (is_there (length nodes) o)
  pub ty : type_in (types_behind state nodes) o ≡ n.ty
  pub value : (s : Value) (values : List Value) → AreValues state nodes s values → operand_value s values o ≡ pure_value n s values

-- a list of nodes became another, in which an operand stands for a node
pub record Rewrites (state : IrType) (old new : List Node) (n : Node) (o : Operand) : Type 0 where
  pub built : AreBuilt state new
  pub extends : Extends old new
  pub stands : OperandSimulates state new n o

-- the node with the id of this index: ids count from 1
abbrev pub numbered : ℕ → Node → Node
numbered place n = record n { id = suc place }
