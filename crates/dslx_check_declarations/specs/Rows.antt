-- Which rows are the types of structs and enums.
use Rattle.std.specs.Prelude.{ℕ, List, ◌==◌, ◌&&◌, Bool, false}
use Rattle.dslx_meaning.specs.Lists.{pairwise}
use Rattle.dslx_meaning.specs.declared.ty.BitKind.{BitKind}
use Rattle.dslx_check_rules.specs.Rows.{same_id, same_kind}
use Rattle.dslx_check_rules.specs.declared.table.row.TypeId.{TypeId}
use Rattle.dslx_check_rules.specs.declared.table.row.TypeRow.{TypeRow}
use Rattle.dslx_check_rules.specs.declared.table.row.TypeRow.TheVariants as row

-- the struct of this item, with fields of these types
abbrev pub is_struct_of : ℕ → List TypeId → TypeRow → Bool
is_struct_of item parts (row.Struct i ts) = i == item && pairwise same_id ts parts
is_struct_of item parts _ = false

-- the enum of this item, over this base
abbrev pub is_enum_of : ℕ → BitKind → TypeRow → Bool
is_enum_of item kind (row.Enum i k) = i == item && same_kind k kind
is_enum_of item kind _ = false
