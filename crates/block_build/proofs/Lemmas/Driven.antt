-- What a block drives in a row: nothing with reset, an offer until it is taken, and words move where both sides are ready.
use Rattle.std.proofs.Common.{◌≡◌, ℕ, ◌≤◌, List, [], ◌∷◌, ◌++◌, length, refl, sym, ap, ◌∙◌, subst, arith, cond, true, false, Option, Some, None}
use Rattle.std.specs.Prelude.{slice_get, ◌⊎◌, option_to_list}
use Rattle.std.proofs.Common.{inl, inr}
use Rattle.xb_bits.specs.Word.{Word}
use Rattle.net_core.specs.declared.net.Chan.{Chan}
use Rattle.net_core.specs.declared.net.Kind.TheVariants.{Input, Output}
use Rattle.net_core.specs.Cuts.{words_sent, count_received}
use Rattle.block_stage.specs.Machine.Pipeline.{Pipeline}
use Rattle.block_stage.specs.Machine.Cycle.{Ports, asserted_in, after_cycle}
use Rattle.block_stage.specs.Machine.Since.{Since, at_reset, after_cycles}
use Rattle.block_stage.proofs.Lemmas.Machine.{untaken_words_stay_valid, one_site_asserts_valid, nothing_is_asked_without_an_activation}
use Rattle.block_stage.specs.Fifo.Fifo.{next_word}
use Rattle.block_build.specs.Block.{Block, IsBlock, receiver_of}
use Rattle.block_build.specs.Rows.{Machine, State, InputRow, HasReset, reset_state, ports_in, sender_of, acting, asserts, asks_if, asserted_at, asserted_in_row, is_ready, offers, is_reader_ready, valid_data, one_row, after_rows, after_row, state_after, since_reset, moved_in, moved_out}
use Rattle.block_build.proofs.Words.{cases}
use Rattle.block_build.proofs.Lemmas.Standing.{Stands, more_cycles, there, none_there, sites_there, stands_next, stands_at_reset, words_received, words_written}
use Rattle.block_build.proofs.Resets.{since_the_last_reset}

-- with reset nothing is asserted
asserts_nothing : (machine : Option Machine) (ports : Ports) → asks_if true machine ports ≡ []
asserts_nothing None ports = refl
asserts_nothing (Some m) ports = nothing_is_asked_without_an_activation m.pipeline (acting true m.since.contents) ports (λ j. refl)

asked_nothing : (block : Block) (state : State) (row : InputRow) (p : ℕ) → row.rst ≡ true → asserted_in_row block state row p ≡ []
asked_nothing block state row p r =
    ap (λ t. asks_if t (slice_get state.machines p) (ports_in block state row.ports)) r ∙ asserts_nothing (slice_get state.machines p) (ports_in block state row.ports)

pub nothing_is_ready_in_reset : (block : Block) (state : State) (row : InputRow) (c : ℕ) → row.rst ≡ true → is_ready block state row c ≡ false
nothing_is_ready_in_reset block state row c r = let e = asked_nothing block state row (receiver_of block c) r in rw e (unfold count_received in refl)

pub nothing_is_offered_in_reset : (block : Block) (state : State) (row : InputRow) (c : ℕ) → row.rst ≡ true → offers block state row c ≡ None
nothing_is_offered_in_reset block state row c r = let e = asked_nothing block state row (sender_of block c) r in rw e (unfold words_sent in refl)

-- without it the block drives what its procs ask
asks_all : (machine : Option Machine) (ports : Ports) → asks_if false machine ports ≡ asserts machine ports
asks_all None ports = refl
asks_all (Some m) ports = refl

asserted_all : (block : Block) (state : State) (row : InputRow) (p : ℕ) → row.rst ≡ false → asserted_in_row block state row p ≡ asserted_at state (ports_in block state row.ports) p
asserted_all block state row p r =
    ap (λ t. asks_if t (slice_get state.machines p) (ports_in block state row.ports)) r ∙ asks_all (slice_get state.machines p) (ports_in block state row.ports)

pub ready_is : (block : Block) (state : State) (row : InputRow) (c : ℕ) → row.rst ≡ false → is_ready block state row c ≡ is_reader_ready block state (ports_in block state row.ports) c
ready_is block state row c r = let e = asserted_all block state row (receiver_of block c) r in rw e refl

pub offer_is : (block : Block) (state : State) (row : InputRow) (c : ℕ) → row.rst ≡ false → offers block state row c ≡ valid_data block state (ports_in block state row.ports) c
offer_is block state row c r = let e = asserted_all block state row (sender_of block c) r in rw e refl

pub next_is : (block : Block) (state : State) (row : InputRow) → row.rst ≡ false → after_row block state row ≡ one_row block state row.ports
next_is block state row r = rw r refl

-- where a block stands after rows with a reset among them
record Known (block : Block) (state : State) : Type 0 where
  past : List Ports
  stands : Stands block state past

known_after : (block : Block) → IsBlock block → (state : State) (past rows : List Ports) → Stands block state past → Known block (after_rows block state rows)
known_after block is state past [] st = record { past = past; stands = st }
known_after block is state past (row ∷ rows) st = known_after block is (one_row block state row) (past ++ ports_in block state row ∷ []) rows (stands_next block state past row is st)

known : (block : Block) → IsBlock block → (power : State) (rows : List InputRow) → HasReset rows → Known block (state_after block power rows)
known block is power rows h =
    subst (Known block) (sym (since_the_last_reset block power [] rows h)) (known_after block is (reset_state block) [] (since_reset [] rows) (stands_at_reset block))

-- words move where both sides are ready
pub outputs_move : (block : Block) → IsBlock block → (power : State) (rows : List InputRow) → HasReset rows → (row : InputRow) → row.rst ≡ false → (c : ℕ) (chan : Chan) → slice_get block.chans c ≡ Some chan → chan.kind ≡ Output
    → moved_out block (after_row block (state_after block power rows) row) c
    ≡ moved_out block (state_after block power rows) c ++ cond (row.ports.room c) (option_to_list (offers block (state_after block power rows) row c)) []
outputs_move block is power rows h row r c chan here kind =
    let state = state_after block power rows in
    let k = known block is power rows h in
    let shown : (ports_in block state row.ports).room c ≡ row.ports.room c = rw here (rw kind refl) in
    ap (λ s. moved_out block s c) (next_is block state row r)
    ∙ words_written block state k.past row.ports is k.stands c
    ∙ ap (λ t. moved_out block state c ++ cond t (option_to_list (valid_data block state (ports_in block state row.ports) c)) []) shown
    ∙ ap (λ o. moved_out block state c ++ cond (row.ports.room c) (option_to_list o) []) (sym (offer_is block state row c r))

pub inputs_move : (block : Block) → IsBlock block → (power : State) (rows : List InputRow) → HasReset rows → (row : InputRow) → row.rst ≡ false → (c : ℕ) (chan : Chan) → slice_get block.chans c ≡ Some chan → chan.kind ≡ Input
    → moved_in block (after_row block (state_after block power rows) row) c
    ≡ moved_in block (state_after block power rows) c ++ cond (is_ready block (state_after block power rows) row c) (option_to_list (row.ports.valid_word c)) []
inputs_move block is power rows h row r c chan here kind =
    let state = state_after block power rows in
    let k = known block is power rows h in
    let shown : (ports_in block state row.ports).valid_word c ≡ row.ports.valid_word c = rw here (rw kind refl) in
    ap (λ s. moved_in block s c) (next_is block state row r)
    ∙ words_received block state k.past row.ports is k.stands c
    ∙ ap (λ o. moved_in block state c ++ cond (is_reader_ready block state (ports_in block state row.ports) c) (option_to_list o) []) shown
    ∙ ap (λ t. moved_in block state c ++ cond t (option_to_list (row.ports.valid_word c)) []) (sym (ready_is block state row c r))

-- a word that is valid and not taken
the_one : (words : List Word) (w : Word) → length words ≤ 1 → next_word words ≡ Some w → words ≡ w ∷ []
the_one [] w l e = cc
the_one (x ∷ []) w l e = let same : x ≡ w = cc in rw same refl
the_one (x ∷ y ∷ xs) w l e = absurd (omega (arith, l))

stands_offered : (block : Block) (state : State) (past : List Ports) (row next : Ports) → IsBlock block → Stands block state past → (c : ℕ) (w : Word) → (ports_in block state row).room c ≡ false
    → (writer : Option Pipeline) → slice_get block.pipelines (sender_of block c) ≡ writer
    → valid_data block state (ports_in block state row) c ≡ Some w
    → valid_data block (one_row block state row) (ports_in block (one_row block state row) next) c ≡ Some w
stands_offered block state past row next is st c w room None e o =
    let none = none_there block state past st (sender_of block c) e in
    let nothing : valid_data block state (ports_in block state row) c ≡ None = rw none (unfold words_sent in refl) in
    cc
stands_offered block state past row next is st c w room (Some q) e o =
    let ports = ports_in block state row in
    let legal = is.legal (sender_of block c) q e in
    let after = one_row block state row in
    let later = ports_in block after next in
    let now = (after_cycles q (at_reset q) past).contents in
    let m = there block state past st (sender_of block c) q e in
    let m' = there block after (past ++ ports ∷ []) (stands_next block state past row is st) (sender_of block c) q e in
    let sites = sites_there block [] 0 (sender_of block c) q e in
    let words = words_sent q.proc.behavior.sites c (asserted_in q now ports) in
    let here : next_word words ≡ Some w = rw (m, sites) at o in
    let one = the_one words w (one_site_asserts_valid q legal past ports c) here in
    let stays = untaken_words_stay_valid q legal past ports later c w one room in
    let contents : (after_cycles q (at_reset q) (past ++ ports ∷ [])).contents ≡ after_cycle q now ports = ap (λ (s : Since). s.contents) (more_cycles q (at_reset q) past ports) in
    rw (m', sites) (ap (λ z. next_word (words_sent q.proc.behavior.sites c (asserted_in q z later))) contents ∙ ap next_word stays)

pub offers_stand : (block : Block) → IsBlock block → (power : State) (rows : List InputRow) → HasReset rows → (row next : InputRow) (c : ℕ) (chan : Chan) (w : Word) → slice_get block.chans c ≡ Some chan → chan.kind ≡ Output
    → offers block (state_after block power rows) row c ≡ Some w → row.ports.room c ≡ false → next.rst ≡ false
    → offers block (after_row block (state_after block power rows) row) next c ≡ Some w
offers_stand block is power rows h row next c chan w here kind o room n = go (cases row.rst)
  where
    state : State
    state = state_after block power rows

    shown : (ports_in block state row.ports).room c ≡ false
    shown = rw here (rw kind room)

    go : (row.rst ≡ true) ⊎ (row.rst ≡ false) → offers block (after_row block state row) next c ≡ Some w
    go (inl r) = absurd (let e = nothing_is_offered_in_reset block state row c r in cc)
    go (inr r) =
        let k = known block is power rows h in
        offer_is block (after_row block state row) next c n
        ∙ ap (λ s. valid_data block s (ports_in block s next.ports) c) (next_is block state row r)
        ∙ stands_offered block state k.past row.ports next.ports is k.stands c w shown (slice_get block.pipelines (sender_of block c)) refl (sym (offer_is block state row c r) ∙ o)
