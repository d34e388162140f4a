-- Rows of the types of values.
use Rattle.std.specs.Prelude.{ℕ, List, ◌≡◌}
use Rattle.base.specs.Lists.Prefix.{IsPrefix}
use Rattle.dslx_meaning.specs.declared.ty.DslxType.{DslxType}
use Rattle.dslx_check_rules.specs.Interned.{row_type, types_in}
use Rattle.dslx_check_rules.specs.declared.table.row.TypeRow.{TypeRow}
use Rattle.dslx_check_facts.specs.declared.facts.Facts.{Facts}
use Rattle.dslx_check_facts.specs.Known.{item_names}

-- the row is this type, over the rows that are there and more
abbrev pub RowIs : Facts → List TypeRow → TypeRow → DslxType → Type 0
RowIs f rows r ty = (later : List TypeRow) → IsPrefix rows later → row_type (item_names f) (types_in (item_names f) later) r ≡ ty

-- the item of this number has this name, and is a struct with these fields
pub record IsStructNamed (f : Facts) (item : ℕ) (name : List ℕ) (fields : List (List ℕ)) : Type 0 where
  pub called : (item_names f).item item ≡ name
  pub fields_are : (item_names f).fields item ≡ fields
