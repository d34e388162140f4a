-- The types of values that a type of a text stands for.
use Rattle.std.specs.Prelude.{ℕ, ◌^◌, ◌-◌, min, List, [], ◌∷◌}
use Rattle.xb_value.specs.declared.ty.Ty.{Ty, Bits, Tuple, Array}
use Rattle.ir_tree.specs.declared.ir_type.IrType.{IrType, fold-IrType}
use Rattle.ir_tree.specs.declared.ir_type.IrType.TheOpen.{IrType-F}

-- a width or a size. No value has one past 2^64 - 1, where all count as one
abbrev pub bounded : ℕ → ℕ
bounded n = min n (2 ^ 64 - 1)

-- arrays of these sizes, the outermost first, of elements of this type
abbrev pub arrays_of : List ℕ → Ty → Ty
arrays_of [] t = t
arrays_of (n ∷ ns) t = Array (arrays_of ns t) (bounded n)

abbrev pub ty_step : IrType-F Ty → Ty
ty_step (IrType-F.Bits w ns) = arrays_of ns (Bits (bounded w))
ty_step (IrType-F.Token ns) = arrays_of ns (Tuple [])
ty_step (IrType-F.Tuple ts ns) = arrays_of ns (Tuple ts)

-- the type of its values: a token is `()`
abbrev pub ty_of : IrType → Ty
ty_of = fold-IrType Ty ty_step
