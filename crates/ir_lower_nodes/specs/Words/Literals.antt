-- Values as they are written out: their types, and their numbers.
use Rattle.std.specs.Prelude.{List, [], ◌∷◌, length}
use Rattle.xb_value.specs.declared.ty.Ty.{Ty, Bits, Tuple, Array}
use Rattle.xb_value.specs.declared.value.Value.{Value, fold-Value}
use Rattle.xb_value.specs.declared.value.Value.TheOpen.{Value-F}
use Rattle.ir_tree.specs.declared.constant.Constant.{Constant}
use Rattle.ir_tree.specs.declared.constant.Constant as constant

abbrev pub first_type : List Ty → Ty
first_type [] = Tuple []
first_type (t ∷ ts) = t

-- an array of as many, each of the type of the first one
abbrev pub array_of_first : List Ty → Ty
array_of_first ts = Array (first_type ts) (length ts)

abbrev pub own_step : Value-F Ty → Ty
own_step (Value-F.Bits x) = Bits x.width
own_step (Value-F.Tuple ts) = Tuple ts
own_step (Value-F.Array ts) = array_of_first ts

-- the type of a value whose elements have one type
abbrev pub own_type : Value → Ty
own_type = fold-Value Ty own_step

abbrev pub written_step : Value-F Constant → Constant
written_step (Value-F.Bits x) = constant.Number x.value
written_step (Value-F.Tuple cs) = constant.Tuple cs
written_step (Value-F.Array cs) = constant.Array cs

-- the value as a text writes it
abbrev pub written : Value → Constant
written = fold-Value Constant written_step
