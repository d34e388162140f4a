-- What bits say of values.
use Rattle.std.specs.Prelude.{◌≡◌, ◌↔◌, Bool, List, [], IsTrue}
use Rattle.xb_value.specs.declared.value.Value.{Value}
use Rattle.xb_value.specs.declared.value.Value as values_of
use Rattle.ir_tree.specs.declared.ir_type.IrType.{Bits}
use Rattle.ir_tree.specs.declared.node.Operand.{Operand}
use Rattle.ir_tree.specs.NodeValues.{operand_value}
use Rattle.ir_tree.specs.Operations.{bit}
use Rattle.ir_rebuild.specs.Built.{AreValues}
use Rattle.ir_rebuild.specs.declared.putting.nodes.Nodes.{Nodes}
use Rattle.ir_rebuild.specs.Putting.Given.{HasType, GrowsTo}

-- the value is a bit, which is 1 just where this holds
pub record SaysWhether (v : Value) (P : Type 0) : Type 0 where
  pub test : Bool
  pub is : v ≡ values_of.Bits (bit test)
  pub holds : IsTrue test ↔ P

-- some nodes are put behind those that are there, and the operand that names the last of them says whether this holds of the values
-- of the nodes
pub record GivesTest (old new : Nodes) (o : Operand) (P : Value → List Value → Type 0) : Type 0 where
  pub grows : GrowsTo old new
  pub has : HasType new o (Bits 1 [])
  pub says : (s : Value) (values : List Value) → AreValues new.state new.list.items s values → SaysWhether (operand_value s values o) (P s values)
