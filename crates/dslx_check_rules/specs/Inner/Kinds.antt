-- What kind of type it is, by its row.
use Rattle.std.specs.Prelude.{ℕ, [], ◌==◌, ◌&&◌, Bool, true, false, not, Option, Some, None, slice_get}
use Rattle.dslx_meaning.specs.declared.ty.BitKind.{BitKind}
use Rattle.dslx_check_rules.specs.declared.table.row.TypeId.{TypeId}
use Rattle.dslx_check_rules.specs.declared.table.row.TypeRow.{TypeRow}
use Rattle.dslx_check_rules.specs.declared.table.row.TypeRow.TheVariants.{Bits, Tuple, Array, Enum}

abbrev pub bits_of_row : TypeRow → Option BitKind
bits_of_row (Bits kind) = Some kind
bits_of_row _ = None

abbrev pub base_of_row : TypeRow → Option BitKind
base_of_row (Bits kind) = Some kind
base_of_row (Enum item base) = Some base
base_of_row _ = None

abbrev pub is_one_bit : BitKind → Bool
is_one_bit kind = not kind.signed && kind.width == 1

abbrev pub is_unit_row : TypeRow → Bool
is_unit_row (Tuple []) = true
is_unit_row _ = false

abbrev pub is_tuple_row : TypeRow → Bool
is_tuple_row (Tuple parts) = true
is_tuple_row _ = false

abbrev pub part_of_row : TypeRow → ℕ → Option TypeId
part_of_row (Tuple parts) at = slice_get parts at
part_of_row _ at = None

abbrev pub array_of_row : TypeRow → Option (TypeId × ℕ)
array_of_row (Array part count) = Some (part, count)
array_of_row _ = None
