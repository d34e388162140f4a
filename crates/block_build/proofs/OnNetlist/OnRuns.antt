-- What a block's netlist drives in the rows of a run.
use Rattle.std.proofs.Common.{◌≡◌, ℕ, zero, suc, ◌<◌, ◌≤◌, List, [], ◌∷◌, ◌++◌, refl, sym, ap, ◌∙◌, subst, arith, cond, true, false, Bool, Option, Some, None, inl, inr}
use Rattle.std.specs.Prelude.{slice_get, is_some, not, ◌||◌, ◌⊎◌, option_map}
use Rattle.std.specs.List.{list_any}
use Rattle.std.proofs.lemmas.Option.{slice_get-map}
use Rattle.std.proofs.lemmas.List.Folds.{list_any-append}
use Rattle.block_stage.specs.Machine.Cycle.{Ports}
use Rattle.vlog_tree.specs.declared.expression.Atom.{Atom}
use Rattle.vlog_tree.specs.Value.{Values, bit, atom_value}
use Rattle.block_build.specs.Block.{Block, IsBlock, receiver_of}
use Rattle.block_build.specs.Rows.{Machine, State, InputRow, HasReset, reset_machine, reset_state, ports_in, sender_of, is_ready, offers, one_row, after_row, state_after}
use Rattle.block_build.specs.Netlist.Blocks.{PipelineNets, BlockNets, ReaderMade, WriterMade, BlockMade, ChannelShown, BlockHeld, BlockReset, BlockRow, BlockNext, rows_before}
use Rattle.block_build.specs.Netlist.Holding.{PipelineHeld}
use Rattle.block_build.proofs.Lemmas.Driven.{ready_is, offer_is, nothing_is_ready_in_reset, nothing_is_offered_in_reset}
use Rattle.block_build.proofs.Lemmas.Standing.{Stands, stands_next, stands_at_reset}
use Rattle.block_build.proofs.OnNetlist.OnAsked.{ends_are_quiet}
use Rattle.block_build.proofs.OnNetlist.OnBlocks.{pipeline_there, blocks_show_their_ends, blocks_hold_on}
use Rattle.block_build.proofs.OnNetlist.OnResets.{reset_registers_hold}

-- ---- behind a reset

block_reset : (next : Values) (v : Values) (block : Block) (nets : BlockNets) (run : Atom) → BlockMade v run block nets → BlockReset next block nets → BlockHeld next block nets (reset_state block)
block_reset next v block nets run made h =
    record {
      machines = machines;
      queues = λ c chan here kind. record { count = h.fifos c chan here kind; slots = λ k l. absurd (omega (arith, l)); few = omega arith };
    }
  where
    machines : (p : ℕ) (one : PipelineNets) (m : Machine) → slice_get nets.pipelines p ≡ Some one → slice_get (reset_state block).machines p ≡ Some m
        → PipelineHeld next nets.channels one.proc one.nets one.stage one.carried one.pipeline one.stages m.since.contents
    machines p one m e e' =
        let here = pipeline_there v block nets run made p ∙ ap (option_map (λ (x : PipelineNets). x.pipeline)) e in
        let there : slice_get (reset_state block).machines p ≡ Some (reset_machine one.pipeline) = slice_get-map reset_machine block.pipelines p ∙ ap (option_map reset_machine) here in
        let same : reset_machine one.pipeline ≡ m = let both : ◌≡◌ {A = Option Machine} (Some (reset_machine one.pipeline)) (Some m) = sym there ∙ e' in cc in
        let states = h.states p one e in
        subst (λ (x : Machine). PipelineHeld next nets.channels one.proc one.nets one.stage one.carried one.pipeline one.stages x.since.contents) same
        (reset_registers_hold next nets.channels one.proc one.nets one.stage one.carried one.pipeline one.stages (h.bits p one e) states.0 states.1)

-- ---- with reset nothing is driven

reader_quiet : (v : Values) (run : Atom) (block : Block) (nets : BlockNets) → BlockMade v run block nets → atom_value v run ≡ bit false → (c : ℕ) → (one : Option PipelineNets) → slice_get nets.pipelines (receiver_of block c) ≡ one → ReaderMade v c (nets.ends c) one
    → atom_value v (nets.ends c).ready ≡ bit false
reader_quiet v run block nets made r c None e h = h
reader_quiet v run block nets made r c (Some one) e h =
    ap (atom_value v) h.is ∙ ends_are_quiet v run one.stages (made.made (receiver_of block c) one e).control.now r one.pipeline.proc.behavior.sites c false one.nets.sent h.from h.zeros h.wired h.none

writer_quiet : (v : Values) (run : Atom) (block : Block) (nets : BlockNets) → BlockMade v run block nets → atom_value v run ≡ bit false → (c : ℕ) → (one : Option PipelineNets) → slice_get nets.pipelines (sender_of block c) ≡ one → WriterMade v c (nets.ends c) one
    → atom_value v (nets.ends c).offered ≡ bit false
writer_quiet v run block nets made r c None e h = h
writer_quiet v run block nets made r c (Some one) e h =
    ap (atom_value v) h.0.is ∙ ends_are_quiet v run one.stages (made.made (sender_of block c) one e).control.now r one.pipeline.proc.behavior.sites c true one.nets.sent h.0.from h.0.zeros h.0.wired h.0.none

quiet_row : (v : Values) (run : Atom) (block : Block) (nets : BlockNets) (state : State) (row : InputRow) → BlockRow v run block nets row → row.rst ≡ true → (c : ℕ) → ChannelShown v (nets.ends c) (is_ready block state row c) (offers block state row c)
quiet_row v run block nets state row h rst c =
    let off : atom_value v run ≡ bit false = h.runs ∙ ap (λ t. bit (not t)) rst in
    let none = nothing_is_offered_in_reset block state row c rst in
    record {
      ready = reader_quiet v run block nets h.made off c (slice_get nets.pipelines (receiver_of block c)) refl (h.made.readers c) ∙ sym (ap bit (nothing_is_ready_in_reset block state row c rst));
      offered = writer_quiet v run block nets h.made off c (slice_get nets.pipelines (sender_of block c)) refl (h.made.writers c) ∙ sym (ap (λ o. bit (is_some o)) none);
      word = λ w is. absurd (cc);
    }

-- ---- rows

-- where a block's netlist stands before a row
record Held (v : Values) (block : Block) (nets : BlockNets) (state : State) : Type 0 where
  past : List Ports
  stands : Stands block state past
  held : BlockHeld v block nets state

state_append : (block : Block) (state : State) (rows : List InputRow) (row : InputRow) → state_after block state (rows ++ row ∷ []) ≡ after_row block (state_after block state rows) row
state_append block state [] row = refl
state_append block state (x ∷ rows) row = state_append block (after_row block state x) rows row

cases : (t : Bool) → (t ≡ true) ⊎ (t ≡ false)
cases true = inl refl
cases false = inr refl

or_earlier : (x y : Bool) → (x || (y || false)) ≡ true → y ≡ false → x ≡ true
or_earlier true y h e = refl
or_earlier false true h e = absurd (cc)
or_earlier false false h e = absurd (cc)

held_next : (block : Block) → IsBlock block → (nets : BlockNets) (run : Atom) (row : InputRow) (v next : Values) (state : State) → BlockRow v run block nets row → BlockNext v next block nets row.rst
    → (row.rst ≡ false → Held v block nets state) → Held next block nets (after_row block state row)
held_next block is nets run row v next state h go before = by row.rst refl h.runs go before
  where
    by : (t : Bool) → row.rst ≡ t → atom_value v run ≡ bit (not t) → BlockNext v next block nets t → (t ≡ false → Held v block nets state) → Held next block nets (cond t (reset_state block) (one_row block state row.ports))
    by true e r go before = record { past = []; stands = stands_at_reset block; held = block_reset next v block nets run h.made go }
    by false e r go before =
        let b = before refl in
        record {
          past = b.past ++ ports_in block state row.ports ∷ [];
          stands = stands_next block state b.past row.ports is b.stands;
          held = blocks_hold_on v next block nets state b.past row.ports run h.made r b.held b.stands h.ports go;
        }

held_before : (block : Block) → IsBlock block → (power : State) (nets : BlockNets) (run : Atom) (row : ℕ → InputRow) (v : ℕ → Values) (bound : ℕ) → ((k : ℕ) → k < bound → BlockRow (v k) run block nets (row k))
    → ((k : ℕ) → k < bound → BlockNext (v k) (v (suc k)) block nets (row k).rst) → (n : ℕ) → n ≤ bound → HasReset (rows_before row n) → Held (v n) block nets (state_after block power (rows_before row n))
held_before block is power nets run row v bound rows go zero l h = absurd (cc)
held_before block is power nets run row v bound rows go (suc n) l h =
    let any = sym (list_any-append (λ (r : InputRow). r.rst) (rows_before row n) (row n ∷ [])) ∙ h in
    subst (Held (v (suc n)) block nets) (sym (state_append block power (rows_before row n) (row n)))
    (held_next block is nets run (row n) (v n) (v (suc n)) (state_after block power (rows_before row n)) (rows n (omega (arith, l))) (go n (omega (arith, l)))
    (λ e. held_before block is power nets run row v bound rows go n (omega (arith, l)) (or_earlier (list_any (λ (r : InputRow). r.rst) (rows_before row n)) (row n).rst any e)))

row_shown : (block : Block) (nets : BlockNets) (run : Atom) (row : InputRow) (v : Values) (state : State) → BlockRow v run block nets row → Held v block nets state → (c : ℕ) → ChannelShown v (nets.ends c) (is_ready block state row c) (offers block state row c)
row_shown block nets run row v state h held c = by (cases row.rst)
  where
    by : (row.rst ≡ true) ⊎ (row.rst ≡ false) → ChannelShown v (nets.ends c) (is_ready block state row c) (offers block state row c)
    by (inl e) = quiet_row v run block nets state row h e c
    by (inr e) =
        let shown = blocks_show_their_ends v block nets state held.past row.ports run h.made (h.runs ∙ ap (λ t. bit (not t)) e) held.held held.stands h.ports c in
        let offer = offer_is block state row c e in
        record {
          ready = shown.ready ∙ sym (ap bit (ready_is block state row c e));
          offered = shown.offered ∙ sym (ap (λ o. bit (is_some o)) offer);
          word = λ w is. shown.word w (sym offer ∙ is);
        }

pub netlists_drive_what_blocks_do : (block : Block) → IsBlock block → (power : State) (nets : BlockNets) (run : Atom) (row : ℕ → InputRow) (v : ℕ → Values) (n : ℕ) → ((k : ℕ) → k ≤ n → BlockRow (v k) run block nets (row k))
    → ((k : ℕ) → k < n → BlockNext (v k) (v (suc k)) block nets (row k).rst) → HasReset (rows_before row n) → (c : ℕ)
    → let state = state_after block power (rows_before row n) in ChannelShown (v n) (nets.ends c) (is_ready block state (row n) c) (offers block state (row n) c)
netlists_drive_what_blocks_do block is power nets run row v n rows go h c =
    row_shown block nets run (row n) (v n) (state_after block power (rows_before row n)) (rows n (omega arith))
    (held_before block is power nets run row v n (λ k l. rows k (omega (arith, l))) go n (omega arith) h) c
