-- What structs are by their rows.
use Rattle.std.proofs.Common.{◌≡◌, ◌∙◌, ◌<◌, ℕ, List, Option, Some, None, map, slice_get, refl, sym, ap, subst, arith}
use Rattle.std.specs.List.{All}
use Rattle.std.specs.Option.{option_map}
use Rattle.std.proofs.lemmas.Option.{get_or_from_slice_get, none-some, slice_get-map, slice_get_within}
use Rattle.dslx_meaning.specs.Lists.{and_then, index_in}
use Rattle.dslx_meaning.specs.declared.ty.DslxType.{DslxType, out-DslxType}
use Rattle.dslx_meaning.specs.declared.ty.DslxType.TheOpen.{DslxType-F}
use Rattle.dslx_meaning.specs.declared.ty.DslxType.TheViews as views
use Rattle.dslx_meaning.specs.Rules.AggregateRules.{field_type, struct_field_type}
use Rattle.dslx_check_rules.specs.declared.table.row.TypeId.{TypeId}
use Rattle.dslx_check_rules.specs.declared.table.row.TypeRow.{TypeRow}
use Rattle.dslx_check_rules.specs.declared.table.row.TypeRow.TheVariants as row
use Rattle.dslx_check_rules.specs.Rows.{parts_of}
use Rattle.dslx_check_rules.specs.Interned.{HasRow, HasRowIf, ItemNames, row_type}
use Rattle.dslx_check_rules.specs.Nodes.Nodes.Structs.{fields_in, fields_of, item_in, part_in}

abbrev pub level_of : ItemNames → (ℕ → DslxType) → TypeRow → DslxType-F DslxType
level_of names f (row.Bits k) = DslxType-F.Bits k.signed k.width
level_of names f (row.Tuple ts) = DslxType-F.Tuple (map (λ (t : TypeId). f t.0) ts)
level_of names f (row.Array t n) = DslxType-F.Array (f t.0) n
level_of names f (row.Struct i ts) = DslxType-F.Struct (names.item i) (names.fields i) (map (λ (t : TypeId). f t.0) ts)
level_of names f (row.Enum i k) = DslxType-F.Enum (names.item i) k.signed k.width
level_of names f row.Token = DslxType-F.Token

pub at_of_all : (P : TypeId → Type 0) (ts : List TypeId) (k : ℕ) (t : TypeId) → All P ts → slice_get ts k ≡ Some t → P t
at_of_all P ts k t all e = subst P (get_or_from_slice_get ts k t t e) (all k t (slice_get_within ts k t e))

module _ (names : ItemNames) (f : ℕ → DslxType) where
  pub level : (r : TypeRow) → out-DslxType (row_type names f r) ≡ level_of names f r
  level (row.Bits k) = views.outs-Bits k.signed k.width
  level (row.Tuple ts) = views.outs-Tuple (map (λ (t : TypeId). f t.0) ts)
  level (row.Array t n) = views.outs-Array (f t.0) n
  level (row.Struct i ts) = views.outs-Struct (names.item i) (names.fields i) (map (λ (t : TypeId). f t.0) ts)
  level (row.Enum i k) = views.outs-Enum (names.item i) k.signed k.width
  level row.Token = views.outs-Token

  -- ---- structs

  item_level : (r : TypeRow) → option_map names.fields (item_in r) ≡ fields_in (level_of names f r)
  item_level (row.Bits k) = refl
  item_level (row.Tuple ts) = refl
  item_level (row.Array t m) = refl
  item_level (row.Struct i ts) = refl
  item_level (row.Enum i k) = refl
  item_level row.Token = refl

  pub item_by_row : (r : TypeRow) → option_map names.fields (item_in r) ≡ fields_of (Some (row_type names f r))
  item_by_row r = item_level r ∙ ap fields_in (sym (level r))

  field_level : (r : TypeRow) (at : ℕ) (name : List ℕ) → Some at ≡ and_then (fields_in (level_of names f r)) (index_in name)
      → option_map (λ (t : TypeId). f t.0) (part_in r at) ≡ struct_field_type (level_of names f r) name
  field_level (row.Bits k) at name e = absurd (none-some at (sym e))
  field_level (row.Tuple ts) at name e = absurd (none-some at (sym e))
  field_level (row.Array t m) at name e = absurd (none-some at (sym e))
  field_level (row.Struct i ts) at name e =
      sym (slice_get-map (λ (t : TypeId). f t.0) ts at) ∙ ap (λ o. and_then o (λ k. slice_get (map (λ (t : TypeId). f t.0) ts) k)) e
  field_level (row.Enum i k) at name e = absurd (none-some at (sym e))
  field_level row.Token at name e = absurd (none-some at (sym e))

  pub field_by_row : (r : TypeRow) (at : ℕ) (name : List ℕ) → Some at ≡ and_then (fields_of (Some (row_type names f r))) (index_in name)
      → option_map (λ (t : TypeId). f t.0) (part_in r at) ≡ field_type (Some (row_type names f r)) name
  field_by_row r at name e =
      field_level r at name (e ∙ ap (λ l. and_then (fields_in l) (index_in name)) (level r)) ∙ ap (λ l. struct_field_type l name) (sym (level r))

-- without such a place there is no field
pub no_field : (t : DslxType) (name : List ℕ) → None ≡ and_then (fields_of (Some t)) (index_in name) → None ≡ field_type (Some t) name
no_field t name = by (out-DslxType t)
  where
    by : (l : DslxType-F DslxType) → None ≡ and_then (fields_in l) (index_in name) → None ≡ struct_field_type l name
    by (DslxType-F.Bits s w) e = refl
    by (DslxType-F.Tuple ts) e = refl
    by (DslxType-F.Array u n) e = refl
    by (DslxType-F.Struct n fields ts) e = ap (λ o. and_then o (λ k. slice_get ts k)) e
    by (DslxType-F.Enum n s w) e = refl
    by DslxType-F.Token e = refl

-- ---- parts have rows

pub field_there : (rows : List TypeRow) (t : TypeId) (r : TypeRow) (at : ℕ) (o : Option TypeId) → o ≡ part_in r at → All (λ (p : TypeId). p.0 < t.0) (parts_of r) → HasRow rows t → HasRowIf rows o
field_there rows t r at None e earlier h = tt
field_there rows t (row.Bits k) at (Some u) e earlier h = absurd (none-some u (sym e))
field_there rows t (row.Tuple ts) at (Some u) e earlier h = absurd (none-some u (sym e))
field_there rows t (row.Array v m) at (Some u) e earlier h = absurd (none-some u (sym e))
field_there rows t (row.Struct i ts) at (Some u) e earlier h = omega (arith, at_of_all (λ (p : TypeId). p.0 < t.0) ts at u earlier (sym e), h)
field_there rows t (row.Enum i k) at (Some u) e earlier h = absurd (none-some u (sym e))
field_there rows t row.Token at (Some u) e earlier h = absurd (none-some u (sym e))

pub field_then : (t : Option DslxType) (name : List ℕ) → field_type t name ≡ and_then t (λ u. field_type (Some u) name)
field_then None name = refl
field_then (Some u) name = refl
