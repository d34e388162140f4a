-- Types as the numbers of rows. A row names its parts by their numbers, and structs and enums by their items.
use Rattle.std.specs.Prelude.{ℕ, suc, List, [], ◌∷◌, ◌++◌, ◌<◌, ◌≡◌, ◌==◌, map, length, true, Option, Some, slice_get, if◌then◌else◌, IfSome, Bool, false}
use Rattle.std.specs.List.{All, IsDistinct, list_any}
use Rattle.std.specs.Map.{keys_of}
use Rattle.std.specs.Option.{option_map}
use Rattle.dslx_meaning.specs.Types.{unit_type}
use Rattle.dslx_meaning.specs.declared.ty.DslxType.{DslxType}
use Rattle.dslx_meaning.specs.declared.ty.DslxType as ty
use Rattle.dslx_meaning.specs.declared.ty.BitKind.{BitKind}
use Rattle.dslx_check_rules.specs.declared.table.measures.TypeMeasures.{TypeMeasures}
use Rattle.dslx_check_rules.specs.declared.table.row.TypeId.{TypeId}
use Rattle.dslx_check_rules.specs.declared.table.row.TypeRow.{TypeRow}
use Rattle.dslx_check_rules.specs.declared.table.row.TypeRow.TheVariants as row
use Rattle.dslx_check_rules.specs.Measures.{measures_of}
use Rattle.dslx_check_rules.specs.Rows.{parts_of, same_row}

-- what the items are called, and the fields of those that are structs
pub record ItemNames : Type 0 where
  pub item : ℕ → List ℕ
  pub fields : ℕ → List (List ℕ)

-- no two items have one name
abbrev pub AreDistinct : ItemNames → Type 0
AreDistinct names = (i j : ℕ) → names.item i ≡ names.item j → i ≡ j

-- ---- the types of rows

-- the type that a row is, over the types of numbers
abbrev pub row_type : ItemNames → (ℕ → DslxType) → TypeRow → DslxType
row_type names types (row.Bits k) = ty.Bits k.signed k.width
row_type names types (row.Tuple ts) = ty.Tuple (map (λ (t : TypeId). types t.0) ts)
row_type names types (row.Array t n) = ty.Array (types t.0) n
row_type names types (row.Struct i ts) = ty.Struct (names.item i) (names.fields i) (map (λ (t : TypeId). types t.0) ts)
row_type names types (row.Enum i k) = ty.Enum (names.item i) k.signed k.width
row_type names types row.Token = ty.Token

-- these types, and this one as the type of a number
abbrev pub with_type : (ℕ → DslxType) → ℕ → DslxType → ℕ → DslxType
with_type types at t n = if n == at then t else types n

-- each row is a type over those before it
abbrev pub types_from : ItemNames → (ℕ → DslxType) → ℕ → List TypeRow → ℕ → DslxType
types_from names types at [] = types
types_from names types at (r ∷ rs) = types_from names (with_type types at (row_type names types r)) (suc at) rs

-- the types of the rows, by their numbers; past them ()
abbrev pub types_in : ItemNames → List TypeRow → ℕ → DslxType
types_in names rows = types_from names (λ n. unit_type) 0 rows

-- the type of a number
abbrev pub type_at : ItemNames → List TypeRow → TypeId → DslxType
type_at names rows t = types_in names rows t.0

abbrev pub type_if : ItemNames → List TypeRow → Option TypeId → Option DslxType
type_if names rows t = option_map (type_at names rows) t

-- the number has a row
abbrev pub HasRow : List TypeRow → TypeId → Type 0
HasRow rows t = t.0 < length rows

abbrev pub HasRowIf : List TypeRow → Option TypeId → Type 0
HasRowIf rows t = IfSome t (HasRow rows)

-- ---- rows of items

-- a struct of this item among the rows has fields of these types
abbrev pub HasFields : List TypeRow → ℕ → List TypeId → Type 0
HasFields rows item parts = (k : ℕ) (ts : List TypeId) → slice_get rows k ≡ Some (row.Struct item ts) → ts ≡ parts

-- an enum of this item among the rows has this base
abbrev pub HasBase : List TypeRow → ℕ → BitKind → Type 0
HasBase rows item base = (k : ℕ) (kind : BitKind) → slice_get rows k ≡ Some (row.Enum item kind) → kind ≡ base

abbrev pub is_item_row : TypeRow → Bool
is_item_row (row.Struct item parts) = true
is_item_row (row.Enum item base) = true
is_item_row _ = false

-- the later rows of structs and enums are earlier ones
abbrev pub KeepsItems : List TypeRow → List TypeRow → Type 0
KeepsItems old new = (k : ℕ) (r : TypeRow) → slice_get new k ≡ Some r → is_item_row r ≡ true → slice_get old k ≡ Some r

-- ---- what a table keeps

-- no two rows are one type, each names rows before it, and beside it stands how large it is
pub record IsInterned (es : List (TypeRow × TypeMeasures)) : Type 0 where
  pub distinct : IsDistinct same_row (keys_of es)
  pub earlier : (k : ℕ) (r : TypeRow) → slice_get (keys_of es) k ≡ Some r → All (λ (p : TypeId). p.0 < k) (parts_of r)
  pub measured : (names : ItemNames) (k : ℕ) (e : TypeRow × TypeMeasures) → slice_get es k ≡ Some e → e.1 ≡ measures_of (types_in names (keys_of es) k)

-- the rows with one more, unless one like it is there
abbrev pub with_row : List TypeRow → TypeRow → List TypeRow
with_row rows r = if list_any (same_row r) rows then rows else rows ++ r ∷ []

-- a row like this one has this number, and names rows before it
pub record HasNumber (rows : List TypeRow) (r : TypeRow) (t : TypeId) : Type 0 where
  pub found : TypeRow
  pub at : slice_get rows t.0 ≡ Some found
  pub same : same_row r found ≡ true
  pub earlier : All (λ (p : TypeId). p.0 < t.0) (parts_of found)
