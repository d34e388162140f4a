-- Walks over the texts of items, whose types may be put.
use Rattle.std.proofs.Common.{◌≡◌, ◌==◌, ℕ, Bool, true, false, List, Option, Some, slice_get, refl, sym}
use mathlib.Core.Bool.{true≢false}
use Rattle.base.proofs.Lemmas.Lists.Prefixes.{IsPrefix-refl, IsPrefix-trans}
use Rattle.dslx_check_rules.specs.declared.table.row.TypeRow.{TypeRow}
use Rattle.dslx_check_rules.specs.declared.table.row.TypeRow.TheVariants as row
use Rattle.dslx_check_rules.specs.Interned.{is_item_row}
use Rattle.dslx_check_facts.specs.Walks.{WalkGrows, WalkShown}
use Rattle.dslx_check_facts.proofs.Lemmas.Walks.{tables_refl, tables_trans}
use Rattle.dslx_check_declarations.specs.Items.{HasNoRow, ItemGrows, is_row_of}

-- only structs and enums are of items
of_no_item : (item : ℕ) (r : TypeRow) → is_item_row r ≡ false → is_row_of item r ≡ false
of_no_item item (row.Bits k) e = refl
of_no_item item (row.Tuple ts) e = refl
of_no_item item (row.Array t n) e = refl
of_no_item item (row.Struct i ts) e = absurd (true≢false e)
of_no_item item (row.Enum i k) e = absurd (true≢false e)
of_no_item item row.Token e = refl

-- a walk over parts meets no row of an item
pub no_row_stays : {w0 w1 : WalkShown} {item : ℕ} → WalkGrows w0 w1 → HasNoRow w0.rows item → HasNoRow w1.rows item
no_row_stays {w0} {w1} {item} g h = record { none = λ k r at. by k r at (is_item_row r) refl }
  where
    by : (k : ℕ) (r : TypeRow) → slice_get w1.rows k ≡ Some r → (b : Bool) → is_item_row r ≡ b → is_row_of item r ≡ false
    by k r at true e = h.none k r (g.items k r at e)
    by k r at false e = of_no_item item r e

pub walk_item : {w0 w1 : WalkShown} (item : ℕ) → WalkGrows w0 w1 → ItemGrows item w0 w1
walk_item {w0} {w1} item g = record { tables = g.tables; others = λ k r at there other. g.items k r at there; reached = g.reached; missing = g.missing }

pub nothing_put : (w : WalkShown) (item : ℕ) → ItemGrows item w w
nothing_put w item = record { tables = tables_refl w; others = λ k r at there other. at; reached = IsPrefix-refl w.reached; missing = IsPrefix-refl w.missing }

pub item_after : {item : ℕ} {w0 w1 w2 : WalkShown} → WalkGrows w0 w1 → ItemGrows item w1 w2 → ItemGrows item w0 w2
item_after {item} {w0} {w1} {w2} g h = record {
  tables = tables_trans w0 w1 w2 g.tables h.tables;
  others = λ k r at there other. g.items k r (h.others k r at there other) there;
  reached = IsPrefix-trans w0.reached w1.reached w2.reached g.reached h.reached;
  missing = IsPrefix-trans w0.missing w1.missing w2.missing g.missing h.missing;
}
