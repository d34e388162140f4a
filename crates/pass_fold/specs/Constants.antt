-- The constants that write values.
use Rattle.xb_value.specs.declared.value.Value.{Value, fold-Value}
use Rattle.xb_value.specs.declared.value.Value.TheOpen.{Value-F}
use Rattle.ir_tree.specs.declared.constant.Constant.{Constant, Number, Tuple, Array}

abbrev pub constant_step : Value-F Constant → Constant
constant_step (Value-F.Bits x) = Number x.value
constant_step (Value-F.Tuple cs) = Tuple cs
constant_step (Value-F.Array cs) = Array cs

-- the constant that writes the value
abbrev pub constant_of : Value → Constant
constant_of = fold-Value Constant constant_step
