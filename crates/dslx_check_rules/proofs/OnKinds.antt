-- What kind of type it is, by its row.
use Rattle.std.proofs.Common.{◌≡◌, ◌<◌, ◌==◌, ◌&&◌, ℕ, Bool, false, not, List, [], ◌∷◌, slice_get, Option, Some, None, refl, sym, ap, subst, ◌∙◌, arith, eq-eqb}
use Rattle.std.specs.Cmp.{both_ways}
use Rattle.std.specs.List.{All}
use Rattle.std.specs.Option.{option_map}
use Rattle.std.proofs.lemmas.Bool.Decides.{Decides-eqb}
use Rattle.std.proofs.lemmas.Option.{get_or_from_slice_get, none-some, slice_get-map, slice_get_within}
use Rattle.dslx_meaning.specs.Types.{bits_are, bits_in, bits_or_enum, bits_or_enum_step, bits_step, is_unit, is_unit_step, same_type_step}
use Rattle.dslx_meaning.specs.Rules.OperatorRules.{is_bool}
use Rattle.dslx_meaning.specs.Rules.AggregateRules.{array_in, array_parts, is_some_tuple, part_type, tuple_parts}
use Rattle.dslx_meaning.specs.declared.ty.BitKind.{BitKind}
use Rattle.dslx_meaning.specs.declared.ty.DslxType.{DslxType, out-DslxType}
use Rattle.dslx_meaning.specs.declared.ty.DslxType.TheOpen.{DslxType-F}
use Rattle.dslx_check_rules.specs.declared.table.row.TypeId.{TypeId}
use Rattle.dslx_check_rules.specs.declared.table.row.TypeRow.{TypeRow}
use Rattle.dslx_check_rules.specs.declared.table.row.TypeRow.TheVariants as row
use Rattle.dslx_check_rules.specs.Inner.Kinds.{array_of_row, base_of_row, bits_of_row, is_one_bit, is_tuple_row, is_unit_row, part_of_row}
use Rattle.dslx_check_rules.specs.Rows.{parts_of}
use Rattle.dslx_check_rules.specs.Interned.{HasRow, HasRowIf, ItemNames, row_type}
use Rattle.dslx_check_rules.proofs.OnTable.Measured.{fold-Bits}
use Rattle.dslx_check_rules.proofs.OnTable.OneNumber.{level_of_row, row_level}

-- ---- `bool`

abbrev pub is_bool_kind : Option BitKind → Bool
is_bool_kind None = false
is_bool_kind (Some kind) = is_one_bit kind

eqb_flip : (m n : ℕ) → (m == n) ≡ (n == m)
eqb_flip m n = both_ways (m == n) (n == m) (λ e. eq-eqb n m (sym ((Decides-eqb m n).0 e))) (λ e. eq-eqb m n (sym ((Decides-eqb n m).0 e)))

bool_level : (l : DslxType-F DslxType) → bits_are false 1 l ≡ is_bool_kind (bits_step l)
bool_level (DslxType-F.Bits s w) = ap (λ b. not s && b) (eqb_flip 1 w)
bool_level (DslxType-F.Tuple ts) = refl
bool_level (DslxType-F.Array t n) = refl
bool_level (DslxType-F.Struct name fields ts) = refl
bool_level (DslxType-F.Enum name s w) = refl
bool_level DslxType-F.Token = refl

pub bool_by_bits : (t : DslxType) → is_bool t ≡ is_bool_kind (bits_in t)
bool_by_bits t = ap (λ (p : DslxType → Bool). p t) (fold-Bits (DslxType → Bool) same_type_step false 1) ∙ bool_level (out-DslxType t)

-- ---- kinds by rows

module _ (names : ItemNames) (f : ℕ → DslxType) where
  bits_level : (r : TypeRow) → bits_step (row_level names f r) ≡ bits_of_row r
  bits_level (row.Bits k) = refl
  bits_level (row.Tuple ts) = refl
  bits_level (row.Array t n) = refl
  bits_level (row.Struct i ts) = refl
  bits_level (row.Enum i k) = refl
  bits_level row.Token = refl

  pub bits_by_row : (r : TypeRow) → bits_in (row_type names f r) ≡ bits_of_row r
  bits_by_row r = ap bits_step (level_of_row names f r) ∙ bits_level r

  base_level : (r : TypeRow) → bits_or_enum_step (row_level names f r) ≡ base_of_row r
  base_level (row.Bits k) = refl
  base_level (row.Tuple ts) = refl
  base_level (row.Array t n) = refl
  base_level (row.Struct i ts) = refl
  base_level (row.Enum i k) = refl
  base_level row.Token = refl

  pub base_by_row : (r : TypeRow) → bits_or_enum (row_type names f r) ≡ base_of_row r
  base_by_row r = ap bits_or_enum_step (level_of_row names f r) ∙ base_level r

  unit_level : (r : TypeRow) → is_unit_step (row_level names f r) ≡ is_unit_row r
  unit_level (row.Bits k) = refl
  unit_level (row.Tuple []) = refl
  unit_level (row.Tuple (t ∷ ts)) = refl
  unit_level (row.Array t n) = refl
  unit_level (row.Struct i ts) = refl
  unit_level (row.Enum i k) = refl
  unit_level row.Token = refl

  pub unit_by_row : (r : TypeRow) → is_unit (row_type names f r) ≡ is_unit_row r
  unit_by_row r = ap is_unit_step (level_of_row names f r) ∙ unit_level r

  tuple_level : (r : TypeRow) → is_some_tuple (row_level names f r) ≡ is_tuple_row r
  tuple_level (row.Bits k) = refl
  tuple_level (row.Tuple ts) = refl
  tuple_level (row.Array t n) = refl
  tuple_level (row.Struct i ts) = refl
  tuple_level (row.Enum i k) = refl
  tuple_level row.Token = refl

  pub tuple_by_row : (r : TypeRow) → is_some_tuple (out-DslxType (row_type names f r)) ≡ is_tuple_row r
  tuple_by_row r = ap is_some_tuple (level_of_row names f r) ∙ tuple_level r

  part_level : (r : TypeRow) (at : ℕ) → slice_get (tuple_parts (row_level names f r)) at ≡ option_map (λ (t : TypeId). f t.0) (part_of_row r at)
  part_level (row.Bits k) at = refl
  part_level (row.Tuple ts) at = slice_get-map (λ (t : TypeId). f t.0) ts at
  part_level (row.Array t n) at = refl
  part_level (row.Struct i ts) at = refl
  part_level (row.Enum i k) at = refl
  part_level row.Token at = refl

  pub part_by_row : (r : TypeRow) (at : ℕ) → part_type (row_type names f r) at ≡ option_map (λ (t : TypeId). f t.0) (part_of_row r at)
  part_by_row r at = ap (λ l. slice_get (tuple_parts l) at) (level_of_row names f r) ∙ part_level r at

  array_level : (r : TypeRow) → array_parts (row_level names f r) ≡ option_map (λ (p : TypeId × ℕ). (f p.0.0, p.1)) (array_of_row r)
  array_level (row.Bits k) = refl
  array_level (row.Tuple ts) = refl
  array_level (row.Array t n) = refl
  array_level (row.Struct i ts) = refl
  array_level (row.Enum i k) = refl
  array_level row.Token = refl

  pub array_by_row : (r : TypeRow) → array_in (row_type names f r) ≡ option_map (λ (p : TypeId × ℕ). (f p.0.0, p.1)) (array_of_row r)
  array_by_row r = ap array_parts (level_of_row names f r) ∙ array_level r

-- ---- parts have rows

at_of_all : (P : TypeId → Type 0) (ts : List TypeId) (k : ℕ) (t : TypeId) → All P ts → slice_get ts k ≡ Some t → P t
at_of_all P ts k t all e = subst P (get_or_from_slice_get ts k t t e) (all k t (slice_get_within ts k t e))

pub part_there : (rows : List TypeRow) (ty : TypeId) (r : TypeRow) (at : ℕ) (o : Option TypeId) → o ≡ part_of_row r at → All (λ (p : TypeId). p.0 < ty.0) (parts_of r) → HasRow rows ty → HasRowIf rows o
part_there rows ty r at None e earlier h = tt
part_there rows ty (row.Bits k) at (Some t) e earlier h = absurd (none-some t (sym e))
part_there rows ty (row.Tuple ts) at (Some t) e earlier h = omega (arith, at_of_all (λ (p : TypeId). p.0 < ty.0) ts at t earlier (sym e), h)
part_there rows ty (row.Array u n) at (Some t) e earlier h = absurd (none-some t (sym e))
part_there rows ty (row.Struct i ts) at (Some t) e earlier h = absurd (none-some t (sym e))
part_there rows ty (row.Enum i k) at (Some t) e earlier h = absurd (none-some t (sym e))
part_there rows ty row.Token at (Some t) e earlier h = absurd (none-some t (sym e))
