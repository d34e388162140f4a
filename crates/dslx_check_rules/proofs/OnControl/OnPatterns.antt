-- What tuples of so many parts are by their rows.
use Rattle.std.proofs.Common.{◌≡◌, ◌∙◌, ◌<◌, ◌==◌, ℕ, suc, Bool, true, false, List, [], ◌∷◌, Option, Some, None, length, map, slice_get, refl, sym, ap, arith}
use Rattle.std.specs.Prelude.{if◌then◌else◌}
use Rattle.std.specs.List.{All}
use Rattle.std.specs.Option.{option_map}
use Rattle.std.proofs.lemmas.Option.{none-some, slice_get-map}
use Rattle.dslx_meaning.specs.Lists.{and_then}
use Rattle.dslx_meaning.specs.declared.ty.DslxType.{DslxType}
use Rattle.dslx_meaning.specs.Rules.PatternRules.{is_there, part_types, part_types_in}
use Rattle.dslx_check_rules.specs.declared.table.row.TypeId.{TypeId}
use Rattle.dslx_check_rules.specs.declared.table.row.TypeRow.{TypeRow}
use Rattle.dslx_check_rules.specs.declared.table.row.TypeRow.TheVariants as row
use Rattle.dslx_check_rules.specs.Rows.{parts_of}
use Rattle.dslx_check_rules.specs.Interned.{HasRow, HasRowIf, ItemNames, row_type}
use Rattle.dslx_check_rules.proofs.Lemmas.Nodes.Rows.{at_of_all, level, level_of}
use Rattle.dslx_check_rules.specs.Control.Patterns.{part_of_so_many, parts_in}

mapped-length : {A B : Type 0} (f : A → B) (as' : List A) → length (map f as') ≡ length as'
mapped-length f [] = refl
mapped-length f (a ∷ as') = ap suc (mapped-length f as')

module _ (names : ItemNames) (f : ℕ → DslxType) where
  parts_level : (r : TypeRow) (n : ℕ) → part_types_in n (level_of names f r) ≡ option_map (map (λ (t : TypeId). f t.0)) (parts_in n r)
  parts_level (row.Bits k) n = refl
  parts_level (row.Tuple ts) n = ap (λ m. if m == n then Some (map (λ (t : TypeId). f t.0) ts) else None) (mapped-length (λ (t : TypeId). f t.0) ts) ∙ by (length ts == n)
    where
      by : (b : Bool) → (if b then Some (map (λ (t : TypeId). f t.0) ts) else None) ≡ option_map (map (λ (t : TypeId). f t.0)) (if b then Some ts else None)
      by true = refl
      by false = refl
  parts_level (row.Array t m) n = refl
  parts_level (row.Struct i ts) n = refl
  parts_level (row.Enum i k) n = refl
  parts_level row.Token n = refl

  parts_by_row : (r : TypeRow) (n : ℕ) → part_types n (Some (row_type names f r)) ≡ option_map (map (λ (t : TypeId). f t.0)) (parts_in n r)
  parts_by_row r n = ap (part_types_in n) (level names f r) ∙ parts_level r n

  pub so_many_by_row : (r : TypeRow) (n at : ℕ) → part_of_so_many n at (Some (row_type names f r)) ≡ option_map (λ (t : TypeId). f t.0) (and_then (parts_in n r) (λ ts. slice_get ts at))
  so_many_by_row r n at = ap (λ o. and_then o (λ ts. slice_get ts at)) (parts_by_row r n) ∙ by (parts_in n r)
    where
      by : (o : Option (List TypeId)) → and_then (option_map (map (λ (t : TypeId). f t.0)) o) (λ ts. slice_get ts at) ≡ option_map (λ (t : TypeId). f t.0) (and_then o (λ ts. slice_get ts at))
      by None = refl
      by (Some ts) = slice_get-map (λ (t : TypeId). f t.0) ts at

  pub many_by_row : (r : TypeRow) (n : ℕ) → is_there (part_types n (Some (row_type names f r))) ≡ is_there (parts_in n r)
  many_by_row r n = ap is_there (parts_by_row r n) ∙ by (parts_in n r)
    where
      by : (o : Option (List TypeId)) → is_there (option_map (map (λ (t : TypeId). f t.0)) o) ≡ is_there o
      by None = refl
      by (Some ts) = refl

-- ---- parts have rows

pub so_many_there : (rows : List TypeRow) (t : TypeId) (r : TypeRow) (n at : ℕ) (o : Option TypeId) → o ≡ and_then (parts_in n r) (λ ts. slice_get ts at)
    → All (λ (p : TypeId). p.0 < t.0) (parts_of r) → HasRow rows t → HasRowIf rows o
so_many_there rows t r n at None e earlier h = tt
so_many_there rows t (row.Bits k) n at (Some u) e earlier h = absurd (none-some u (sym e))
so_many_there rows t (row.Tuple ts) n at (Some u) e earlier h = by (length ts == n) e
  where
    by : (b : Bool) → Some u ≡ and_then (if b then Some ts else None) (λ vs. slice_get vs at) → HasRow rows u
    by true e = omega (arith, at_of_all (λ (p : TypeId). p.0 < t.0) ts at u earlier (sym e), h)
    by false e = absurd (none-some u (sym e))
so_many_there rows t (row.Array v m) n at (Some u) e earlier h = absurd (none-some u (sym e))
so_many_there rows t (row.Struct i ts) n at (Some u) e earlier h = absurd (none-some u (sym e))
so_many_there rows t (row.Enum i k) n at (Some u) e earlier h = absurd (none-some u (sym e))
so_many_there rows t row.Token n at (Some u) e earlier h = absurd (none-some u (sym e))
