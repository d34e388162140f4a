-- The rows in which words of an always fed pipeline move.
use Rattle.std.proofs.Common.{◌≡◌, ℕ, suc, ◌+◌, ◌*◌, List, [], ◌∷◌, ◌++◌, length, ap, ◌∙◌, subst, arith, cond, Some}
use Rattle.std.specs.Prelude.{slice_get, nat_lt}
use Rattle.std.proofs.lemmas.List.{length-append}
use Rattle.net_core.specs.declared.net.Kind.TheVariants.{Input, Output}
use Rattle.block_stage.specs.Machine.Pipeline.{Pipeline}
use Rattle.block_stage.specs.Machine.Cycle.{Ports}
use Rattle.block_stage.specs.Machine.Since.{at_reset, after_cycles}
use Rattle.block_stage.specs.Machine.Steady.{IsFed, AreFed, SendsOnce}
use Rattle.block_stage.proofs.Lemmas.Machine.{always_fed_words_move_in_their_cycle}
use Rattle.block_build.specs.Block.{Block, IsBlock}
use Rattle.block_build.specs.Fed.{IsOuter, IsRowFed, AreRowsFed}
use Rattle.block_build.specs.Rows.{State, InputRow, valid_word_by, room_by, valid_word_at, room_at, depth_of, HasReset, reset_state, ports_in, sender_of, one_row, after_rows, state_after, since_reset, sent_of, moved_out}
use Rattle.block_build.proofs.Lemmas.Standing.{Stands, there, stands_next, stands_at_reset}
use Rattle.block_build.proofs.Resets.{since_the_last_reset}

-- what the block's own ports have, its pipelines' have
pipeline_is_fed : (block : Block) (q : Pipeline) → IsOuter block q → (state : State) (row : Ports) → IsRowFed block row → IsFed q (ports_in block state row)
pipeline_is_fed block q outer state row fed i site here =
    let o = outer i site here in
    let at = o.1 in
    record {
      word = λ s.
          let kind : o.0.kind ≡ Input = o.2 ∙ ap (λ t. cond t Output Input) s in
          let w = fed.offers site.chan o.0 at kind in
          (w.0, ap (λ x. valid_word_at x (row.valid_word site.chan) (state.queues site.chan)) at ∙ ap (λ k. valid_word_by k (row.valid_word site.chan) (state.queues site.chan)) kind ∙ w.1);
      room = λ s.
          let kind : o.0.kind ≡ Output = o.2 ∙ ap (λ t. cond t Output Input) s in
          let r = fed.ready site.chan o.0 at kind in
          ap (λ x. room_at x (depth_of block site.chan) (row.room site.chan) (state.queues site.chan)) at
          ∙ ap (λ k. room_by k (depth_of block site.chan) (row.room site.chan) (state.queues site.chan)) kind
          ∙ r;
    }

fed_more : (q : Pipeline) (past : List Ports) (ports : Ports) → AreFed q past → IsFed q ports → AreFed q (past ++ ports ∷ [])
fed_more q [] ports fed one = (one, tt)
fed_more q (p ∷ past) ports fed one = (fed.0, fed_more q past ports fed.1 one)

record Fed (block : Block) (q : Pipeline) (state : State) (count : ℕ) : Type 0 where
  past : List Ports
  stands : Stands block state past
  fed : AreFed q past
  long : length past ≡ count

fed_after : (block : Block) → IsBlock block → (q : Pipeline) → IsOuter block q → (rows : List Ports) (state : State) (past : List Ports) → Stands block state past → AreFed q past → AreRowsFed block rows
    → Fed block q (after_rows block state rows) (length past + length rows)
fed_after block is q outer [] state past st fed rows = record { past = past; stands = st; fed = fed; long = omega arith }
fed_after block is q outer (row ∷ more) state past st fed rows =
    let ports = ports_in block state row in
    let len = length-append past (ports ∷ []) in
    let e : length (past ++ ports ∷ []) + length more ≡ length past + length (row ∷ more) = omega (arith, len) in
    subst (Fed block q (after_rows block (one_row block state row) more)) e
    (fed_after block is q outer more (one_row block state row) (past ++ ports ∷ []) (stands_next block state past row is st)
    (fed_more q past ports fed (pipeline_is_fed block q outer state row rows.0)) rows.1)

pub fed_words_move_in_their_row : (block : Block) → IsBlock block → (chan place : ℕ) (q : Pipeline) → slice_get block.pipelines (sender_of block chan) ≡ Some q → IsOuter block q → SendsOnce q chan place
    → (power : State) (rows : List InputRow) → HasReset rows → AreRowsFed block (since_reset [] rows)
    → (i : ℕ) → nat_lt i (length (moved_out block (state_after block power rows) chan)) ≡ nat_lt (i * suc q.last + q.stage place) (length (since_reset [] rows))
fed_words_move_in_their_row block is chan place q here outer once power rows h fed i =
    let since = since_reset [] rows in
    let state = after_rows block (reset_state block) since in
    let end = fed_after block is q outer since (reset_state block) [] (stands_at_reset block) tt fed in
    let long : length end.past ≡ length since = end.long ∙ zero_on (length since) in
    let moved : moved_out block state chan ≡ (after_cycles q (at_reset q) end.past).sent chan = ap (λ m. sent_of m chan) (there block state end.past end.stands (sender_of block chan) q here) in
    ap (λ s. nat_lt i (length (moved_out block s chan))) (since_the_last_reset block power [] rows h)
    ∙ ap (λ words. nat_lt i (length words)) moved
    ∙ always_fed_words_move_in_their_cycle q (is.legal (sender_of block chan) q here) chan place once end.past end.fed i
    ∙ ap (nat_lt (i * suc q.last + q.stage place)) long
  where
    zero_on : (n : ℕ) → 0 + n ≡ n
    zero_on n = omega arith
