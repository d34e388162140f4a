-- Rows of types: which of them are one type, and what of a row is hashed.
use Rattle.std.specs.Prelude.{ℕ, List, [], ◌∷◌, ◌++◌, ◌==◌, ◌&&◌, Bool, true, false}
use Rattle.std.specs.List.{flat_map}
use Rattle.std.specs.Cmp.Lexicographic.{pointwise}
use Rattle.std.specs.Hash.{HashWrites, u32, u128}
use Rattle.dslx_meaning.specs.Types.{same_bool}
use Rattle.dslx_meaning.specs.declared.ty.BitKind.{BitKind}
use Rattle.dslx_check_rules.specs.declared.table.row.TypeId.{TypeId}
use Rattle.dslx_check_rules.specs.declared.table.row.TypeRow.{TypeRow}
use Rattle.dslx_check_rules.specs.declared.table.row.TypeRow.TheVariants.{Bits, Tuple, Array, Struct, Enum, Token}

abbrev pub same_id : TypeId → TypeId → Bool
same_id t u = t.0 == u.0

abbrev pub same_kind : BitKind → BitKind → Bool
same_kind k l = same_bool k.signed l.signed && k.width == l.width

abbrev pub is_bits_row : BitKind → TypeRow → Bool
is_bits_row k (Bits l) = same_kind k l
is_bits_row k _ = false

abbrev pub is_tuple_row : List TypeId → TypeRow → Bool
is_tuple_row ts (Tuple us) = pointwise same_id ts us
is_tuple_row ts _ = false

abbrev pub is_array_row : TypeId → ℕ → TypeRow → Bool
is_array_row t m (Array u n) = t.0 == u.0 && m == n
is_array_row t m _ = false

abbrev pub is_struct_row : ℕ → TypeRow → Bool
is_struct_row i (Struct j us) = i == j
is_struct_row i _ = false

abbrev pub is_enum_row : ℕ → TypeRow → Bool
is_enum_row i (Enum j l) = i == j
is_enum_row i _ = false

abbrev pub is_token_row : TypeRow → Bool
is_token_row Token = true
is_token_row _ = false

-- they are one type: structs and enums by their items, all others by their parts
abbrev pub same_row : TypeRow → TypeRow → Bool
same_row (Bits k) r = is_bits_row k r
same_row (Tuple ts) r = is_tuple_row ts r
same_row (Array t n) r = is_array_row t n r
same_row (Struct i ts) r = is_struct_row i r
same_row (Enum i k) r = is_enum_row i r
same_row Token r = is_token_row r

-- the parts of a row
abbrev pub parts_of : TypeRow → List TypeId
parts_of (Tuple ts) = ts
parts_of (Array t n) = t ∷ []
parts_of (Struct i ts) = ts
parts_of _ = []

-- ---- what is hashed

abbrev pub fed_by_parts : List TypeId → HashWrites
fed_by_parts ts = flat_map (λ (t : TypeId). u32 t.0) ts

abbrev pub fed_of : TypeRow → HashWrites
fed_of (Bits k) = u128 k.width
fed_of (Tuple ts) = fed_by_parts ts
fed_of (Array t n) = u32 t.0 ++ u128 n
fed_of (Struct i ts) = u32 i
fed_of (Enum i k) = u32 i
fed_of Token = []
