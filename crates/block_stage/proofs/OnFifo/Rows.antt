-- A row of registers does what the list does.
use Rattle.std.proofs.Common.{◌≡◌, ℕ, suc, ◌+◌, ◌<◌, ◌≤◌, List, [], ◌∷◌, ◌++◌, length, refl, sym, ap, ◌∙◌, subst, arith, cond, true, false, Bool, eqb, Option, Some, None}
use Rattle.std.specs.Prelude.{nat_lt, not, ◌&&◌, is_some, option_to_list, slice_get, ◌⊎◌}
use Rattle.std.proofs.Common.{inl, inr}
use Rattle.std.proofs.lemmas.Bool.{cases_lt}
use Rattle.std.proofs.lemmas.Bool.Decides.{nat_tests}
use Rattle.std.proofs.lemmas.List.{length-append, append-nil}
use Rattle.base.proofs.Lemmas.Lists.Indices.{slice_get-append_left, slice_get-append_right}
use Rattle.block_stage.specs.Fifo.Fifo.{next_word, after_cycle}
use Rattle.block_stage.specs.Fifo.Fifo as fifo
use Rattle.block_stage.specs.Fifo.Row.{Row, RowHolds, has_word, has_room, first_word, gives, takes, between, row_after}
use Rattle.block_stage.proofs.OnFifo.Lists.{kept_in}

pub eq_false : (a b : ℕ) → (a ≡ b → ⊥) → eqb a b ≡ false
eq_false a b h = grind (arith, nat_tests)

pub eq_true : (a b : ℕ) → a ≡ b → eqb a b ≡ true
eq_true a b h = grind (arith, nat_tests)

some_room : (a d : ℕ) → a ≤ d → not (eqb a d) ≡ nat_lt a d
some_room a d l = grind (arith, nat_tests)

pub row_word : {A : Type 0} (row : Row A) (words : List A) → RowHolds A row words → has_word row ≡ is_some (next_word words)
row_word row [] h = let e = h.count in rw e refl
row_word row (w ∷ ws) h = let e = h.count in let n = eq_false row.count 0 (λ z. omega arith) in rw n refl

pub row_first : {A : Type 0} (row : Row A) (words : List A) (w : A) → RowHolds A row words → next_word words ≡ Some w → first_word row ≡ w
row_first row [] w h e = cc
row_first row (v ∷ vs) w h e = let s = h.slots 0 (omega arith) in cc

pub row_room : {A : Type 0} (depth : ℕ) (row : Row A) (words : List A) → RowHolds A row words → length words ≤ depth → has_room depth row ≡ fifo.has_room depth words
row_room depth row words h l = let e = h.count in some_room row.count depth (omega arith) ∙ ap (λ n. nat_lt n depth) e

-- behind what is given
record Left (A : Type 0) (row : Row A) (ready : Bool) (words : List A) : Type 0 where
  count : between row ready ≡ length words
  slots : (k : ℕ) → k < length words → slice_get words k ≡ Some (cond (gives row ready) (row.slot (suc k)) (row.slot k))

left_row : {A : Type 0} (row : Row A) (words : List A) (ready : Bool) → RowHolds A row words → Left A row ready (kept_in words ready)
left_row row words false h = record { count = h.count; slots = h.slots }
left_row row [] true h =
    let e = h.count in
    let g : gives row true ≡ false = (let z = eq_true row.count 0 e in rw z refl) in
    record { count = rw g e; slots = λ k l. absurd (omega arith) }
left_row row (w ∷ ws) true h =
    let e = h.count in
    let g : gives row true ≡ true = (let z = eq_false row.count 0 (λ x. omega arith) in rw z refl) in
    record { count = rw g (omega arith); slots = λ k l. rw g (h.slots (suc k) (omega arith)) }

put_row : {A : Type 0} (depth : ℕ) (row : Row A) (ready : Bool) (valid_data : Option A) (words : List A) → Left A row ready words
    → RowHolds A (row_after depth row ready valid_data) (words ++ cond (takes depth row valid_data) (option_to_list valid_data) [])
put_row {A = A} depth row ready valid_data words left = go valid_data (takes depth row valid_data) refl
  where
    go : (valid_data : Option A) (t : Bool) → takes depth row valid_data ≡ t → RowHolds A (row_after depth row ready valid_data) (words ++ cond t (option_to_list valid_data) [])
    go valid_data false e = record {
      count = rw e (left.count ∙ ap length (sym (append-nil words)));
      slots = λ k l. rw e (ap (λ z. slice_get z k) (append-nil words) ∙ left.slots k (let n = ap length (append-nil words) in omega (arith, n)));
    }
    go None true e = cc
    go (Some w) true e = record {
      count = rw e (let c = left.count in let n = length-append words (w ∷ []) in omega (arith, c, n));
      slots = λ k l. rw e (slot k (let n = length-append words (w ∷ []) in omega (arith, n)) (cases_lt k (length words)));
    }
      where
        slot : (k : ℕ) → k < length words + 1 → (k < length words) ⊎ (length words ≤ k)
            → slice_get (words ++ w ∷ []) k ≡ Some (cond (true && eqb (between row ready) k) w (cond (gives row ready) (row.slot (suc k)) (row.slot k)))
        slot k l (inl x) =
            let c = left.count in
            let n = eq_false (between row ready) k (λ z. omega (arith, c, z)) in
            slice_get-append_left words (w ∷ []) k x ∙ left.slots k x ∙ (rw n refl)
        slot k l (inr x) =
            let c = left.count in
            let n = eq_true (between row ready) k (omega (arith, c)) in
            slice_get-append_right words (w ∷ []) k 0 (omega arith) ∙ (rw n refl)

pub row_cycle : {A : Type 0} (depth : ℕ) (row : Row A) (words : List A) (ready : Bool) (valid_data : Option A) → RowHolds A row words → length words ≤ depth
    → RowHolds A (row_after depth row ready valid_data) (after_cycle depth words ready valid_data)
row_cycle {A = A} depth row words ready valid_data h l =
    subst (λ z. RowHolds A (row_after depth row ready valid_data) (kept_in words ready ++ z)) (same valid_data (row_room depth row words h l))
    (put_row depth row ready valid_data (kept_in words ready) (left_row row words ready h))
  where
    same : (valid_data : Option A) → has_room depth row ≡ fifo.has_room depth words → cond (takes depth row valid_data) (option_to_list valid_data) [] ≡ cond (fifo.has_room depth words) (option_to_list valid_data) []
    same None e = go (fifo.has_room depth words)
      where
        go : (t : Bool) → ◌≡◌ {A = List A} [] (cond t [] [])
        go true = refl
        go false = refl
    same (Some w) e = rw e refl
