-- The values that a text writes.
use Rattle.std.specs.Prelude.{ℕ, ◌^◌, List, [], ◌∷◌, Bool, true, false, ◌&&◌, nat_le, nat_lt, map}
use Rattle.xb_bits.specs.Word.{Word, word}
use Rattle.xb_value.specs.declared.ty.Ty.{Ty, fold-Ty}
use Rattle.xb_value.specs.declared.ty.Ty.TheOpen.{Ty-F}
use Rattle.xb_value.specs.declared.value.Value.{Value, Bits, Tuple, Array}
use Rattle.ir_tree.specs.declared.constant.Constant.{Constant, out-Constant}
use Rattle.ir_tree.specs.declared.constant.Constant.TheOpen.{Constant-F}

-- `()`: the value of a token, and of an operation whose operands don't fit it
abbrev pub no_value : Value
no_value = Tuple []

-- a number, where the test holds
abbrev pub bits_where : Bool → Word → Value
bits_where true x = Bits x
bits_where false x = no_value

-- one value from each reading of a constant; a constant that is missing has none
abbrev pub each_read : List (Constant → Value) → List Constant → List Value
each_read [] cs = []
each_read (r ∷ rs) [] = []
each_read (r ∷ rs) (c ∷ cs) = r c ∷ each_read rs cs

-- the number of so many bits, where there is one
abbrev pub number_value : ℕ → ℕ → Value
number_value w n = bits_where (nat_le 1 w && (nat_le w 128 && nat_lt n (2 ^ w))) (word w n)

abbrev pub number_read : ℕ → Constant-F Constant → Value
number_read w (Constant-F.Number n) = number_value w n
number_read w (Constant-F.Tuple cs) = no_value
number_read w (Constant-F.Array cs) = no_value

abbrev pub tuple_read : List (Constant → Value) → Constant-F Constant → Value
tuple_read rs (Constant-F.Number n) = no_value
tuple_read rs (Constant-F.Tuple cs) = Tuple (each_read rs cs)
tuple_read rs (Constant-F.Array cs) = no_value

abbrev pub array_read : (Constant → Value) → Constant-F Constant → Value
array_read r (Constant-F.Number n) = no_value
array_read r (Constant-F.Tuple cs) = no_value
array_read r (Constant-F.Array cs) = Array (map r cs)

abbrev pub read_step : Ty-F (Constant → Value) → Constant → Value
read_step (Ty-F.Bits w) c = number_read w (out-Constant c)
read_step (Ty-F.Tuple rs) c = tuple_read rs (out-Constant c)
read_step (Ty-F.Array r n) c = array_read r (out-Constant c)

-- the value of the type that a text writes as this constant
abbrev pub constant_value : Ty → Constant → Value
constant_value = fold-Ty (Constant → Value) read_step
