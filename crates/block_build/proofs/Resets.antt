-- Rows with resets among them: after the last one a block is where the rows since take it from its reset.
use Rattle.std.proofs.Common.{◌≡◌, List, [], ◌∷◌, ◌++◌, refl, sym, ap, ◌∙◌, cond, true, false, Bool}
use Rattle.std.specs.Prelude.{◌||◌}
use Rattle.std.specs.List.{list_any}
use Rattle.block_stage.specs.Machine.Cycle.{Ports}
use Rattle.block_build.specs.Block.{Block}
use Rattle.block_build.specs.Rows.{State, InputRow, HasReset, reset_state, one_row, after_rows, state_after, since_reset}

more_rows : (block : Block) (state : State) (before : List Ports) (ports : Ports) → after_rows block state (before ++ ports ∷ []) ≡ one_row block (after_rows block state before) ports
more_rows block state [] ports = refl
more_rows block state (p ∷ before) ports = more_rows block (one_row block state p) before ports

-- from reset on
from_reset : (block : Block) (before : List Ports) (rows : List InputRow) → state_after block (after_rows block (reset_state block) before) rows ≡ after_rows block (reset_state block) (since_reset before rows)
from_reset block before [] = refl
from_reset block before (row ∷ rows) = go row.rst (from_reset block [] rows) (from_reset block (before ++ row.ports ∷ []) rows)
  where
    go : (rst : Bool) → state_after block (reset_state block) rows ≡ after_rows block (reset_state block) (since_reset [] rows)
        → state_after block (after_rows block (reset_state block) (before ++ row.ports ∷ [])) rows ≡ after_rows block (reset_state block) (since_reset (before ++ row.ports ∷ []) rows)
        → state_after block (cond rst (reset_state block) (one_row block (after_rows block (reset_state block) before) row.ports)) rows
        ≡ after_rows block (reset_state block) (since_reset (cond rst [] (before ++ row.ports ∷ [])) rows)
    go true anew on = anew
    go false anew on = ap (λ s. state_after block s rows) (sym (more_rows block (reset_state block) before row.ports)) ∙ on

-- whatever stood in the registers before
pub since_the_last_reset : (block : Block) (power : State) (before : List Ports) (rows : List InputRow) → HasReset rows → state_after block power rows ≡ after_rows block (reset_state block) (since_reset before rows)
since_the_last_reset block power before [] h = cc
since_the_last_reset block power before (row ∷ rows) h =
    go row.rst h (λ x. since_the_last_reset block (one_row block power row.ports) (before ++ row.ports ∷ []) rows x)
  where
    go : (rst : Bool) → (rst || list_any (λ (r : InputRow). r.rst) rows) ≡ true
        → (HasReset rows → state_after block (one_row block power row.ports) rows ≡ after_rows block (reset_state block) (since_reset (before ++ row.ports ∷ []) rows))
        → state_after block (cond rst (reset_state block) (one_row block power row.ports)) rows ≡ after_rows block (reset_state block) (since_reset (cond rst [] (before ++ row.ports ∷ [])) rows)
    go true h ih = from_reset block [] rows
    go false h ih = ih h
