-- The types of nodes, from those of values.
use Rattle.std.specs.Prelude.{ℕ, List, ◌∷◌, drop, get_or, Option, Some, None, []}
use Rattle.xb_value.specs.declared.ty.Ty.{Ty, fold-Ty}
use Rattle.xb_value.specs.declared.ty.Ty.TheOpen.{Ty-F}
use Rattle.ir_tree.specs.declared.ir_type.IrType.{IrType, Bits, Token, Tuple, out-IrType}
use Rattle.ir_tree.specs.declared.ir_type.IrType.TheOpen.{IrType-F}
use Rattle.ir_tree.specs.NodeTypes.Types.{parts_in}

abbrev pub array_step : ℕ → IrType-F IrType → IrType
array_step n (IrType-F.Bits w ns) = Bits w (n ∷ ns)
array_step n (IrType-F.Token ns) = Token (n ∷ ns)
array_step n (IrType-F.Tuple ts ns) = Tuple ts (n ∷ ns)

-- an array of so many of these
abbrev pub array_of : ℕ → IrType → IrType
array_of n t = array_step n (out-IrType t)

abbrev pub element_step : IrType-F IrType → IrType
element_step (IrType-F.Bits w ns) = Bits w (drop 1 ns)
element_step (IrType-F.Token ns) = Token (drop 1 ns)
element_step (IrType-F.Tuple ts ns) = Tuple ts (drop 1 ns)

-- what an array is made of
abbrev pub element_of : IrType → IrType
element_of t = element_step (out-IrType t)

abbrev pub part_or_unit : Option (List IrType) → ℕ → IrType
part_or_unit None i = Tuple [] []
part_or_unit (Some ts) i = get_or ts i (Tuple [] [])

-- the part of a tuple; where there is none, `()`
abbrev pub part_of : IrType → ℕ → IrType
part_of t i = part_or_unit (parts_in t) i

abbrev pub ir_type_step : Ty-F IrType → IrType
ir_type_step (Ty-F.Bits w) = Bits w []
ir_type_step (Ty-F.Tuple ts) = Tuple ts []
ir_type_step (Ty-F.Array t n) = array_of n t

-- the type as IR writes it
abbrev pub ir_type_of : Ty → IrType
ir_type_of = fold-Ty IrType ir_type_step
