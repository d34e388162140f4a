-- Which constants have a type.
use Rattle.std.specs.Prelude.{ℕ, ◌^◌, min, nat_lt, nat_eq, Bool, true, false, ◌&&◌, List, [], ◌∷◌, length, map}
use Rattle.std.specs.List.{list_all}
use Rattle.xb_value.specs.declared.ty.Ty.{Ty, fold-Ty, Bits, Tuple}
use Rattle.xb_value.specs.declared.ty.Ty.TheOpen.{Ty-F}
use Rattle.ir_tree.specs.declared.ir_type.IrType.{IrType, out-IrType}
use Rattle.ir_tree.specs.declared.ir_type.IrType.TheOpen.{IrType-F}
use Rattle.ir_tree.specs.Types.{bounded, ty_of}
use Rattle.ir_tree.specs.declared.constant.Constant.{Constant, out-Constant}
use Rattle.ir_tree.specs.declared.constant.Constant.TheOpen.{Constant-F}

-- a number that fits so many bits; none is of 2^128 or more
abbrev pub number_fits : ℕ → Constant-F Constant → Bool
number_fits w (Constant-F.Number n) = nat_lt n (2 ^ min w 128)
number_fits w (Constant-F.Tuple cs) = false
number_fits w (Constant-F.Array cs) = false

abbrev pub each_fits : List (Constant → Bool) → List Constant → Bool
each_fits [] [] = true
each_fits [] (c ∷ cs) = false
each_fits (p ∷ ps) [] = false
each_fits (p ∷ ps) (c ∷ cs) = p c && each_fits ps cs

abbrev pub tuple_fits : List (Constant → Bool) → Constant-F Constant → Bool
tuple_fits ps (Constant-F.Number n) = false
tuple_fits ps (Constant-F.Tuple cs) = each_fits ps cs
tuple_fits ps (Constant-F.Array cs) = false

abbrev pub array_fits : (Constant → Bool) → ℕ → Constant-F Constant → Bool
array_fits p n (Constant-F.Number m) = false
array_fits p n (Constant-F.Tuple cs) = false
array_fits p n (Constant-F.Array cs) = nat_eq (length cs) n && list_all p cs

abbrev pub fits_step : Ty-F (Constant → Bool) → Constant → Bool
fits_step (Ty-F.Bits w) c = number_fits w (out-Constant c)
fits_step (Ty-F.Tuple ps) c = tuple_fits ps (out-Constant c)
fits_step (Ty-F.Array p n) c = array_fits p n (out-Constant c)

-- the constant writes a value of the type
abbrev pub constant_fits : Ty → Constant → Bool
constant_fits = fold-Ty (Constant → Bool) fits_step

abbrev pub base_step : IrType-F IrType → Ty
base_step (IrType-F.Bits w ns) = Bits (bounded w)
base_step (IrType-F.Token ns) = Tuple []
base_step (IrType-F.Tuple ts ns) = Tuple (map ty_of ts)

-- the type of the elements inside all arrays
abbrev pub base_of : IrType → Ty
base_of t = base_step (out-IrType t)
