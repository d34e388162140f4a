-- The values of types in the low bits of numbers.
use Rattle.std.specs.Prelude.{ℕ, zero, suc, ◌≡◌, List, [], ◌∷◌, map}
use Rattle.std.specs.List.{All}
use Rattle.base.specs.Lists.Prefix.{IsPrefix}
use Rattle.xb_value.specs.Unflat.{taken_low}
use Rattle.dslx_meaning.specs.Types.{plain_type}
use Rattle.dslx_meaning.specs.Values.{at_type}
use Rattle.dslx_meaning.specs.declared.ty.DslxType.{DslxType}
use Rattle.dslx_meaning.specs.declared.value.DslxValue.{DslxValue}
use Rattle.dslx_check_rules.specs.Interned.{HasRow, ItemNames, row_type, type_at, types_in}
use Rattle.dslx_check_rules.specs.Rows.{parts_of}
use Rattle.dslx_check_rules.specs.declared.table.row.TypeId.{TypeId}
use Rattle.dslx_check_rules.specs.declared.table.row.TypeRow.{TypeRow}
use Rattle.dslx_check_leaves.specs.declared.fits.words.Low.{Low}
use Rattle.dslx_check_leaves.specs.declared.fits.words.Lows.{Lows}

-- the value of a type in the low bits of a number, and the number of the bits above them
abbrev pub low_of : DslxType → ℕ → DslxValue × ℕ
low_of t n = (at_type t (taken_low (plain_type t) n).0, (taken_low (plain_type t) n).1)

-- the values of several types, the last one in the lowest bits
abbrev pub lows_of : List DslxType → ℕ → List DslxValue × ℕ
lows_of [] n = ([], n)
lows_of (t ∷ ts) n =
    let later = lows_of ts n in
    let first = low_of t later.1 in
    (first.0 ∷ later.0, first.1)

-- as many of one type
abbrev pub repeated_type : ℕ → DslxType → List DslxType
repeated_type zero t = []
repeated_type (suc n) t = t ∷ repeated_type n t

pub record IsLow (names : ItemNames) (rows : List TypeRow) (ty : TypeId) (number : ℕ) (low : Low) : Type 0 where
  pub value : (later : List TypeRow) → IsPrefix rows later → HasRow rows ty → low.value ≡ (low_of (type_at names later ty) number).0
  pub rest : (later : List TypeRow) → IsPrefix rows later → HasRow rows ty → low.rest ≡ (low_of (type_at names later ty) number).1

pub record IsLowOfRow (names : ItemNames) (rows : List TypeRow) (row : TypeRow) (number : ℕ) (low : Low) : Type 0 where
  pub value : (later : List TypeRow) → IsPrefix rows later → All (HasRow rows) (parts_of row) → low.value ≡ (low_of (row_type names (types_in names later) row) number).0
  pub rest : (later : List TypeRow) → IsPrefix rows later → All (HasRow rows) (parts_of row) → low.rest ≡ (low_of (row_type names (types_in names later) row) number).1

pub record AreLows (names : ItemNames) (rows : List TypeRow) (parts : List TypeId) (number : ℕ) (lows : Lows) : Type 0 where
  pub values : (later : List TypeRow) → IsPrefix rows later → All (HasRow rows) parts → lows.values.items ≡ (lows_of (map (type_at names later) parts) number).0
  pub rest : (later : List TypeRow) → IsPrefix rows later → All (HasRow rows) parts → lows.rest ≡ (lows_of (map (type_at names later) parts) number).1
