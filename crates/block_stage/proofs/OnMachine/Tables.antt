-- The circuit that tables make, where the tables are those of the right one.
use Rattle.std.proofs.Common.{◌≡◌, ℕ, List, [], ◌∷◌, refl, ap, ◌∙◌, cond, true, false, Bool, Option, Some, None}
use Rattle.std.specs.Prelude.{◌||◌, ◌&&◌, not, is_some, unwrap_or, ◌==◌}
use Rattle.std.specs.List.{list_any}
use Rattle.xb_bits.specs.Word.{Word}
use Rattle.net_core.specs.Behavior.{Turn, Skip, Receive, Give}
use Rattle.block_stage.specs.declared.machine.logic.Handling.TheVariants.{Pass, Recall, Take, Put}
use Rattle.block_stage.specs.declared.machine.logic.Logic.{Logic}
use Rattle.block_stage.specs.Machine.Cycle.{Transfer, Takes, Gives, circuit, step_of, moves_on, full_next, turn_next, done_next, kept_after}
use Rattle.block_stage.specs.Machine.Logic.{at2, at3, handling_of, word_of, handled, takes_at, circuit_of}

pub record IsRight (logic : Logic) : Type 0 where
  pub off : logic.off ≡ Pass
  pub receive : logic.receive ≡ Take
  pub received : logic.received ≡ Recall
  pub send : logic.send ≡ Put
  pub sent : logic.sent ≡ Pass
  pub leaves : (full stall : Bool) → at2 logic.leaves full stall ≡ (full && not stall)
  pub frees : (next_full next_moves : Bool) → at2 logic.frees next_full next_moves ≡ (not next_full || next_moves)
  pub full_next : (comes full moves : Bool) → at3 logic.full_next comes full moves ≡ full_next comes full moves
  pub turn_next : (ends turn moves : Bool) → at3 logic.turn_next ends turn moves ≡ turn_next ends turn moves
  pub done_next : (done goes moves : Bool) → at3 logic.done_next done goes moves ≡ done_next done goes moves
  pub keeps : (goes there : Bool) → at2 logic.keeps goes there ≡ goes

same_step : (logic : Logic) → IsRight logic → (turn : Turn) (done : Bool) (kept : Word) (valid_word : Option Word) (room : Bool)
    → handled (handling_of logic turn done) (word_of turn) kept valid_word room ≡ step_of turn done kept valid_word room
same_step logic is Skip done kept valid_word room = let e = is.off in rw e refl
same_step logic is Receive true kept valid_word room = let e = is.received in rw e refl
same_step logic is Receive false kept (Some w) room = let e = is.receive in rw e refl
same_step logic is Receive false kept None room = let e = is.receive in rw e refl
same_step logic is (Give w) true kept valid_word room = let e = is.sent in rw e refl
same_step logic is (Give w) false kept valid_word true = let e = is.send in rw e refl
same_step logic is (Give w) false kept valid_word false = let e = is.send in rw e refl

-- a receive that goes keeps what it receives, whatever it kept
same_taken : (kept other : Word) (i : ℕ) (transfers : List Transfer) → list_any (takes_at i) transfers ≡ true → kept_after other i transfers ≡ kept_after kept i transfers
same_taken kept other i [] h = cc
same_taken kept other i (Takes k w ∷ transfers) h = go (k == i) h (same_taken kept other i transfers)
  where
    go : (t : Bool) → (t || list_any (takes_at i) transfers) ≡ true → (list_any (takes_at i) transfers ≡ true → kept_after other i transfers ≡ kept_after kept i transfers)
        → cond t w (kept_after other i transfers) ≡ cond t w (kept_after kept i transfers)
    go true e ih = refl
    go false e ih = ih e
same_taken kept other i (Gives k w ∷ transfers) h = same_taken kept other i transfers h

same_kept : (kept : Word) (i : ℕ) (transfers : List Transfer) → list_any (takes_at i) transfers ≡ false → kept ≡ kept_after kept i transfers
same_kept kept i [] h = refl
same_kept kept i (Takes k w ∷ transfers) h = go (k == i) h (same_kept kept i transfers)
  where
    go : (t : Bool) → (t || list_any (takes_at i) transfers) ≡ false → (list_any (takes_at i) transfers ≡ false → kept ≡ kept_after kept i transfers) → kept ≡ cond t w (kept_after kept i transfers)
    go true e ih = cc
    go false e ih = ih e
same_kept kept i (Gives k w ∷ transfers) h = same_kept kept i transfers h

same_keep : (logic : Logic) → IsRight logic → (kept : Word) (valid_word : Option Word) (i : ℕ) (transfers : List Transfer)
    → cond (at2 logic.keeps (list_any (takes_at i) transfers) (is_some valid_word)) (kept_after (unwrap_or valid_word kept) i transfers) kept ≡ kept_after kept i transfers
same_keep logic is kept valid_word i transfers =
    ap (λ t. cond t (kept_after (unwrap_or valid_word kept) i transfers) kept) (is.keeps (list_any (takes_at i) transfers) (is_some valid_word))
    ∙ go (list_any (takes_at i) transfers) refl
  where
    go : (t : Bool) → list_any (takes_at i) transfers ≡ t → cond t (kept_after (unwrap_or valid_word kept) i transfers) kept ≡ kept_after kept i transfers
    go true e = same_taken kept (unwrap_or valid_word kept) i transfers e
    go false e = same_kept kept i transfers e

same_moves_on : (logic : Logic) → IsRight logic → (full stall next_full next_moves : Bool)
    → (at2 logic.leaves full stall && at2 logic.frees next_full next_moves) ≡ moves_on full stall next_full next_moves
same_moves_on logic is full stall next_full next_moves =
    let e = is.leaves full stall in let f = is.frees next_full next_moves in rw (e, f) refl

pub right_circuit : (logic : Logic) → IsRight logic → circuit_of logic ≡ circuit
right_circuit logic is = λ i. record {
  step = λ turn done kept valid_word room. same_step logic is turn done kept valid_word room i;
  leaves = λ full stall. is.leaves full stall i;
  moves_on = λ full stall next_full next_moves. same_moves_on logic is full stall next_full next_moves i;
  full_next = λ comes full moves. is.full_next comes full moves i;
  turn_next = λ ends turn moves. is.turn_next ends turn moves i;
  done_next = λ done goes moves. is.done_next done goes moves i;
  keep = λ kept valid_word k transfers. same_keep logic is kept valid_word k transfers i;
}
