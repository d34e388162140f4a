-- What is put for patterns.
use Rattle.std.specs.Prelude.{◌≡◌, ◌++◌, Bool, false, List, [], ◌∷◌, map, Some}
use Rattle.xb_value.specs.declared.ty.Ty.{Ty}
use Rattle.xb_value.specs.declared.value.Value.{Value, Bits}
use Rattle.ir_tree.specs.declared.node.Operand.{Operand}
use Rattle.ir_tree.specs.NodeValues.{operand_value}
use Rattle.ir_tree.specs.Operations.{bit}
use Rattle.ir_rebuild.specs.Built.{AreValues}
use Rattle.ir_rebuild.specs.declared.putting.nodes.Nodes.{Nodes}
use Rattle.ir_rebuild.specs.Putting.Types.{ir_type_of}
use Rattle.ir_rebuild.specs.Putting.Words.{Reading}
use Rattle.ir_rebuild.specs.Putting.Given.{GrowsTo, OperandsHaveTypes}
use Rattle.dslx_core.specs.declared.expr.Shape.{Shape}
use Rattle.dslx_core.specs.Types.Typing.{binds_types}

-- a bit, by the state and the values of the nodes
abbrev pub bit_by : (Value → List Value → Bool) → Reading
bit_by f = λ s values. Bits (bit (f s values))

-- values of the type may be compared with each pattern
abbrev pub AreCompared : List Shape → Ty → Type 0
AreCompared [] t = Unit {0}
AreCompared (p ∷ ps) t = ((ts : List Ty) × (us : List Ty) × (binds_types false p t ts ≡ Some us)) × AreCompared ps t

-- some operands stand behind those that are bound
pub record AddsOperands (before all : List Operand) : Type 0 where
  pub more : List Operand
  pub are : all ≡ before ++ more

-- some nodes are put behind those that are there; the operands that were bound and those behind them have these types, and the
-- values of the latter are these
pub record StandBehind (old new : Nodes) (before all : List Operand) (us : List Ty) (f : Value → List Value → List Value) : Type 0 where
  pub grows : GrowsTo old new
  pub have : OperandsHaveTypes new all (map ir_type_of us)
  pub values : (s : Value) (values : List Value) → AreValues new.state new.list.items s values → map (operand_value s values) all ≡ map (operand_value s values) before ++ f s values
