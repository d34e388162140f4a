-- What an operand stands for in a checked expression: its value, where there is one.
use Rattle.std.specs.Prelude.{◌≡◌, List, Option, Some}
use Rattle.xb_bits.specs.Word.{Word}
use Rattle.xb_value.specs.declared.ty.Ty.{Ty}
use Rattle.xb_value.specs.declared.value.Value.{Value}
use Rattle.ir_tree.specs.declared.node.Operand.{Operand}
use Rattle.ir_tree.specs.NodeValues.{operand_value}
use Rattle.ir_rebuild.specs.Built.{AreValues}
use Rattle.ir_rebuild.specs.declared.putting.nodes.Nodes.{Nodes}
use Rattle.ir_rebuild.specs.Putting.Types.{ir_type_of}
use Rattle.ir_rebuild.specs.Putting.Given.{GrowsTo, HasType}
use Rattle.dslx_meaning.specs.Lists.{and_then, with_both}
use Rattle.dslx_core.specs.CoreValues.{word_of_value}

-- a value by the state and the values of the nodes, unless there is none
abbrev pub MayRead : Type 0
MayRead = Value → List Value → Option Value

-- what an operation makes of the word of an operand, and of those of two
abbrev pub word_read : (Word → Option Value) → Operand → MayRead
word_read f a = λ s values. and_then (word_of_value (operand_value s values a)) f

abbrev pub words_read : (Word → Word → Option Value) → Operand → Operand → MayRead
words_read f a b = λ s values. with_both (word_of_value (operand_value s values a)) (word_of_value (operand_value s values b)) f

-- some nodes are put behind those that are there, and the operand is of this type and has the value that is read, which is there
pub record LoweredTo (old new : Nodes) (o : Operand) (t : Ty) (f : MayRead) : Type 0 where
  pub grows : GrowsTo old new
  pub has : HasType new o (ir_type_of t)
  pub value : (s : Value) (values : List Value) → AreValues new.state new.list.items s values → f s values ≡ Some (operand_value s values o)
