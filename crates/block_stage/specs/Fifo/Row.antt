-- A FIFO as a row of registers and a count: the oldest word stands in slot 0, and all shift when it is given.
use Rattle.std.specs.Prelude.{◌≡◌, ℕ, suc, ◌+◌, ◌-◌, ◌<◌, Bool, ◌&&◌, not, List, length, slice_get, if◌then◌else◌, ◌==◌, is_some, unwrap_or, Option, Some}

pub record Row (A : Type 0) : Type 0 where
  pub count : ℕ
  pub slot : ℕ → A

-- by the count alone
abbrev pub has_word_at : ℕ → Bool
has_word_at count = not (count == 0)

abbrev pub has_room_at : ℕ → ℕ → Bool
has_room_at depth count = not (count == depth)

abbrev pub has_word : {A : Type 0} → Row A → Bool
has_word row = has_word_at row.count

abbrev pub has_room : {A : Type 0} → ℕ → Row A → Bool
has_room depth row = has_room_at depth row.count

abbrev pub first_word : {A : Type 0} → Row A → A
first_word row = row.slot 0

-- a cycle takes first and puts then, with the count in between
abbrev pub gives : {A : Type 0} → Row A → Bool → Bool
gives row ready = ready && has_word row

abbrev pub takes : {A : Type 0} → ℕ → Row A → Option A → Bool
takes depth row valid_data = is_some valid_data && has_room depth row

abbrev pub between : {A : Type 0} → Row A → Bool → ℕ
between row ready = if gives row ready then row.count - 1 else row.count

abbrev pub slot_after : {A : Type 0} → ℕ → Row A → Bool → Option A → ℕ → A
slot_after depth row ready valid_data x =
    if takes depth row valid_data && (between row ready == x) then unwrap_or valid_data (row.slot x)
    else (if gives row ready then row.slot (suc x) else row.slot x)

abbrev pub row_after : {A : Type 0} → ℕ → Row A → Bool → Option A → Row A
row_after depth row ready valid_data = record {
  count = if takes depth row valid_data then between row ready + 1 else between row ready;
  slot = slot_after depth row ready valid_data;
}

-- the row holds these words
pub record RowHolds (A : Type 0) (row : Row A) (words : List A) : Type 0 where
  pub count : row.count ≡ length words
  pub slots : (k : ℕ) → k < length words → slice_get words k ≡ Some (row.slot k)
