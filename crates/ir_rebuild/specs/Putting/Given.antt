-- What a list of nodes promises when nodes are put behind it.
use Rattle.std.specs.Prelude.{◌≡◌, List, ◌∷◌, ◌++◌, length, IsTrue, []}
use Rattle.xb_value.specs.declared.value.Value.{Value}
use Rattle.delay_model.specs.declared.op.Op.{Op}
use Rattle.ir_tree.specs.declared.ir_type.IrType.{IrType}
use Rattle.ir_tree.specs.declared.node.Operand.{Operand}
use Rattle.ir_tree.specs.declared.node.Operand.TheVariants as operands
use Rattle.ir_tree.specs.declared.node.Attributes.{Attributes}
use Rattle.ir_tree.specs.declared.node.Node.{Node}
use Rattle.ir_tree.specs.NodeTypes.Types.{marks_of}
use Rattle.ir_tree.specs.NodeValues.{operand_value}
use Rattle.ir_tree.specs.Rules.Fitting.{type_in, types_behind}
use Rattle.ir_tree.specs.Rules.Lines.{is_there, type_limits}
use Rattle.ir_tree.specs.Rules.Typed.Typed.{none_broken}
use Rattle.ir_rebuild.specs.Built.{AreBuilt, AreValues, Extends, numbered}
use Rattle.ir_rebuild.specs.declared.putting.nodes.Nodes.{Nodes}
use Rattle.ir_rebuild.specs.Putting.Words.{Reading}

-- ---- what stands there

-- a type that a node may have: it is sound, and within the limits
pub record IsNodeType (t : IrType) : Type 0 where
  pub sound : IsTrue (marks_of t).sound
  pub limits : IsTrue (none_broken (type_limits 0 t 0))

-- ids count from 1, operands stand before, and each plain node fits the table, the types and the limits
abbrev pub IsBuilt : Nodes → Type 0
IsBuilt nodes = AreBuilt nodes.state nodes.list.items

-- the type of an operand
abbrev pub type_at : Nodes → Operand → IrType
type_at nodes o = type_in (types_behind nodes.state nodes.list.items) o

-- the operand stands there, and has this type
pub record HasType (nodes : Nodes) (o : Operand) (t : IrType) : Type 0 where
  pub there : IsTrue (is_there (length nodes.list.items) o)
  pub ty : type_at nodes o ≡ t
  pub within : IsNodeType t

-- each does
abbrev pub OperandsHaveTypes : Nodes → List Operand → List IrType → Type 0
OperandsHaveTypes nodes [] [] = Unit {0}
OperandsHaveTypes nodes [] (t ∷ ts) = ⊥
OperandsHaveTypes nodes (o ∷ os) [] = ⊥
OperandsHaveTypes nodes (o ∷ os) (t ∷ ts) = HasType nodes o t × OperandsHaveTypes nodes os ts

-- all have one type
abbrev pub OperandsHaveType : Nodes → List Operand → IrType → Type 0
OperandsHaveType nodes [] t = Unit {0}
OperandsHaveType nodes (o ∷ os) t = HasType nodes o t × OperandsHaveType nodes os t

-- the first of them; the state where there is none
abbrev pub first_operand : List Operand → Operand
first_operand [] = operands.State
first_operand (o ∷ os) = o

-- ---- what is put

-- a node that gets its id where it is put
abbrev pub node_with : IrType → Op → List Operand → Attributes → Node
node_with t o os a = record { id = 0; ty = t; op = o; operands = os; attributes = a }

-- one node is put behind those that are there, and this operand names it
pub record PutsNode (old new : Nodes) (n : Node) (o : Operand) : Type 0 where
  pub state : new.state ≡ old.state
  pub list : new.list.items ≡ old.list.items ++ numbered (length old.list.items) n ∷ []
  pub is : o ≡ operands.Node (length old.list.items)

-- some plain nodes are put behind those that are there, and all are built
pub record GrowsTo (old new : Nodes) : Type 0 where
  pub state : new.state ≡ old.state
  pub built : IsBuilt new
  pub extends : Extends old.list.items new.list.items

-- the operand has this value, whatever values the nodes have
abbrev pub HasValue : Nodes → Operand → Reading → Type 0
HasValue nodes o f = (s : Value) (values : List Value) → AreValues nodes.state nodes.list.items s values → operand_value s values o ≡ f s values

-- some nodes are put behind those that are there, and the operand that names the last of them has this type and this value
pub record GivesValue (old new : Nodes) (o : Operand) (t : IrType) (f : Reading) : Type 0 where
  pub grows : GrowsTo old new
  pub has : HasType new o t
  pub value : HasValue new o f
