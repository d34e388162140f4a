-- A count that stops at 2^64 - 1, of an array by that of its elements.
use Rattle.std.specs.Prelude.{ℕ, ◌*◌, ◌-◌, ◌^◌, min, List, [], ◌∷◌}
use Rattle.std.specs.Prelude.{Bool}
use Rattle.ir_tree.specs.declared.constant.Constant.{Constant}
use Rattle.ir_tree.specs.declared.ir_type.IrType.{IrType}
use Rattle.ir_tree.specs.Types.{bounded, arrays_of}
use Rattle.ir_tree.specs.NodeTypes.Types.{sizes_of}
use Rattle.ir_tree.specs.NodeTypes.Constants.{constant_fits, base_of}

abbrev pub scaled : ℕ → List ℕ → ℕ
scaled count [] = count
scaled count (n ∷ ns) = min (scaled count ns * bounded n) (2 ^ 64 - 1)

-- a constant writes a value of a type, taken apart into its arrays and what is inside them
abbrev pub own_fits : IrType → Constant → Bool
own_fits t = constant_fits (arrays_of (sizes_of t) (base_of t))
