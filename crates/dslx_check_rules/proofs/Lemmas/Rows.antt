-- What stays of rows where one is put beside them.
use Rattle.std.proofs.Common.{◌≡◌, ◌⊎◌, inl, inr, ⊎_elim, ◌++◌, ℕ, zero, suc, Bool, true, false, List, [], ◌∷◌, length, slice_get, Some, refl, sym, ap, ◌∙◌, arith, if◌then◌else◌}
use Rattle.std.specs.List.{list_any}
use Rattle.std.proofs.lemmas.Option.{none-some, same_Some}
use mathlib.Core.Bool.{true≢false}
use Rattle.base.specs.Lists.Prefix.{IsPrefix}
use Rattle.base.proofs.Lemmas.Lists.Prefixes.{IsPrefix-length}
use Rattle.dslx_meaning.specs.declared.ty.BitKind.{BitKind}
use Rattle.dslx_check_rules.specs.declared.table.row.TypeId.{TypeId}
use Rattle.dslx_check_rules.specs.declared.table.row.TypeRow.{TypeRow}
use Rattle.dslx_check_rules.specs.declared.table.row.TypeRow.TheVariants as row
use Rattle.dslx_check_rules.specs.Rows.{same_row}
use Rattle.dslx_check_rules.specs.Interned.{HasBase, HasFields, HasRow, KeepsItems, is_item_row, with_row}

pub get_push : {A : Type 0} (xs : List A) (x : A) (k : ℕ) (y : A) → slice_get (xs ++ x ∷ []) k ≡ Some y → (slice_get xs k ≡ Some y) ⊎ ((k ≡ length xs) × (x ≡ y))
get_push [] x zero y e = inr (refl, same_Some x y e)
get_push [] x (suc k) y e = absurd (none-some y e)
get_push (x' ∷ xs) x zero y e = inl e
get_push (x' ∷ xs) x (suc k) y e = ⊎_elim (λ h. inl h) (λ h. inr (ap suc h.0, h.1)) (get_push xs x k y e)

-- a number that has a row has one later too
pub rows_stay : (rows later : List TypeRow) (t : TypeId) → IsPrefix rows later → HasRow rows t → HasRow later t
rows_stay rows later t p h = omega (arith, IsPrefix-length rows later p, h)

-- a row with one more is one of before, or that one
pub in_with_row : (rows : List TypeRow) (r : TypeRow) (k : ℕ) (q : TypeRow) → slice_get (with_row rows r) k ≡ Some q → (slice_get rows k ≡ Some q) ⊎ (r ≡ q)
in_with_row rows r k q = by (list_any (same_row r) rows)
  where
    by : (b : Bool) → slice_get (if b then rows else rows ++ r ∷ []) k ≡ Some q → (slice_get rows k ≡ Some q) ⊎ (r ≡ q)
    by true e = inl e
    by false e = ⊎_elim (λ h. inl h) (λ h. inr h.1) (get_push rows r k q e)

pub items_stay : (rows : List TypeRow) (r : TypeRow) → is_item_row r ≡ false → KeepsItems rows (with_row rows r)
items_stay rows r no_item k q e h =
    ⊎_elim (λ old. old) (λ new. absurd (true≢false (sym h ∙ ap is_item_row (sym new) ∙ no_item))) (in_with_row rows r k q e)

pub items_themselves : (rows : List TypeRow) → KeepsItems rows rows
items_themselves rows k r e h = e

pub items_stay_on : (a b c : List TypeRow) → KeepsItems a b → KeepsItems b c → KeepsItems a c
items_stay_on a b c p q k r e h = p k r (q k r e h) h

pub fields_stay : (old new : List TypeRow) (item : ℕ) (parts : List TypeId) → KeepsItems old new → HasFields old item parts → HasFields new item parts
fields_stay old new item parts keeps has k ts e = has k ts (keeps k (row.Struct item ts) e refl)

pub base_stays : (old new : List TypeRow) (item : ℕ) (base : BitKind) → KeepsItems old new → HasBase old item base → HasBase new item base
base_stays old new item base keeps has k kind e = has k kind (keeps k (row.Enum item kind) e refl)
