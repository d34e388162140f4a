-- The types of values, by their numbers in a table.
use Rattle.std.specs.Prelude.{List, ◌≡◌, map}
use Rattle.std.specs.List.{All}
use Rattle.base.specs.Lists.Prefix.{IsPrefix}
use Rattle.dslx_meaning.specs.declared.ty.DslxType.{DslxType}
use Rattle.dslx_check_rules.specs.declared.table.row.TypeId.{TypeId}
use Rattle.dslx_check_rules.specs.declared.table.row.TypeRow.{TypeRow}
use Rattle.dslx_check_rules.specs.Interned.{HasRow, ItemNames, KeepsItems, type_at}

-- the number is that of the type, which is in the table from here on; no struct and no enum is put there
pub record IsTypeOf (names : ItemNames) (old new : List TypeRow) (t : TypeId) (ty : DslxType) : Type 0 where
  pub is : (later : List TypeRow) → IsPrefix new later → type_at names later t ≡ ty
  pub there : HasRow new t
  pub items : KeepsItems old new
  pub grows : IsPrefix old new

-- the same of several types
pub record AreTypesOf (names : ItemNames) (old new : List TypeRow) (ts : List TypeId) (tys : List DslxType) : Type 0 where
  pub are : (later : List TypeRow) → IsPrefix new later → map (type_at names later) ts ≡ tys
  pub there : All (HasRow new) ts
  pub items : KeepsItems old new
  pub grows : IsPrefix old new

-- the number is that of a type, which may say what others are in a later table, and which is in the table
pub record IsTypeThere (names : ItemNames) (rows : List TypeRow) (t : TypeId) (ty : List TypeRow → DslxType) : Type 0 where
  pub is : (later : List TypeRow) → IsPrefix rows later → type_at names later t ≡ ty later
  pub there : HasRow rows t
