-- Where a block stands after some rows: the invariant, and that a row keeps it.
use Rattle.std.proofs.Common.{◌≡◌, ℕ, ◌≤◌, List, [], ◌∷◌, ◌++◌, length, map, refl, sym, ap, ◌∙◌, arith, cond, true, false, Bool, eqb, Option, Some, None}
use Rattle.std.specs.Prelude.{slice_get, not, option_map, option_to_list}
use Rattle.std.proofs.lemmas.Option.{slice_get-map}
use Rattle.xb_bits.specs.Word.{Word}
use Rattle.net_core.specs.declared.net.Chan.{Chan}
use Rattle.net_core.specs.declared.net.Kind.TheVariants.{Inner}
use Rattle.net_core.specs.Cuts.{sites_at, sites_of, words_sent, count_received}
use Rattle.block_stage.specs.Machine.Pipeline.{Pipeline}
use Rattle.block_stage.specs.Machine.Cycle.{Ports, asserted_in}
use Rattle.block_stage.specs.Machine.Since.{Since, at_reset, one_more, after_cycles}
use Rattle.block_stage.proofs.Lemmas.Machine.{one_site_asserts_valid, sent_words_go_where_there_is_room, received_words_go_where_ready}
use Rattle.block_stage.specs.Fifo.Fifo.{next_word, has_room, given_in, put_in}
use Rattle.block_stage.proofs.Lemmas.Fifo.{put_is_all}
use Rattle.block_build.specs.Block.{Block, IsBlock, run_of, receiver_of}
use Rattle.block_build.specs.Rows.{Machine, State, reset_machine, reset_state, ports_in, sender_of, is_reader_ready, valid_data, machine_after, one_row, received_of, sent_of, moved_in, moved_out, depth_of}
use Rattle.block_build.proofs.Words.{map-twice, map-same}

-- a pipeline after these ports, which all pipelines had
abbrev pub machine_of : List Ports → Pipeline → Machine
machine_of past q = record { pipeline = q; since = after_cycles q (at_reset q) past }

-- what is known of a block's state after the rows in which its pipelines had these ports
pub record Stands (block : Block) (state : State) (past : List Ports) : Type 0 where
  pub machines : state.machines ≡ map (machine_of past) block.pipelines
  -- what was put into a FIFO was given or is in it
  pub queues : (c : ℕ) (chan : Chan) → slice_get block.chans c ≡ Some chan → chan.kind ≡ Inner
      → moved_out block state c ≡ moved_in block state c ++ state.queues c

pub more_cycles : (q : Pipeline) (since : Since) (past : List Ports) (ports : Ports) → after_cycles q since (past ++ ports ∷ []) ≡ one_more q (after_cycles q since past) ports
more_cycles q since [] ports = refl
more_cycles q since (p ∷ past) ports = more_cycles q (one_more q since p) past ports

machine_at : (block : Block) (state : State) (past : List Ports) → Stands block state past → (p : ℕ) → slice_get state.machines p ≡ option_map (machine_of past) (slice_get block.pipelines p)
machine_at block state past st p = ap (λ ms. slice_get ms p) st.machines ∙ slice_get-map (machine_of past) block.pipelines p

proc_at : (block : Block) (inputs : List (List Word)) (n p : ℕ) → slice_get (run_of block inputs n).procs p ≡ option_map (λ (q : Pipeline). q.proc) (slice_get block.pipelines p)
proc_at block inputs n p = slice_get-map (λ (q : Pipeline). q.proc) block.pipelines p

-- the machine of a proc
pub there : (block : Block) (state : State) (past : List Ports) → Stands block state past → (p : ℕ) (q : Pipeline) → slice_get block.pipelines p ≡ Some q
    → slice_get state.machines p ≡ Some (machine_of past q)
there block state past st p q e = machine_at block state past st p ∙ ap (option_map (machine_of past)) e

pub none_there : (block : Block) (state : State) (past : List Ports) → Stands block state past → (p : ℕ) → slice_get block.pipelines p ≡ None → slice_get state.machines p ≡ None
none_there block state past st p e = machine_at block state past st p ∙ ap (option_map (machine_of past)) e

pub sites_there : (block : Block) (inputs : List (List Word)) (n p : ℕ) (q : Pipeline) → slice_get block.pipelines p ≡ Some q → sites_at (run_of block inputs n) p ≡ q.proc.behavior.sites
sites_there block inputs n p q e = ap sites_of (proc_at block inputs n p ∙ ap (option_map (λ (x : Pipeline). x.proc)) e)

-- what the machine of a proc receives and sends in a cycle
short_list : (xs : List Word) → length xs ≤ 1 → option_to_list (next_word xs) ≡ xs
short_list [] l = refl
short_list (x ∷ []) l = refl
short_list (x ∷ y ∷ xs) l = absurd (omega (arith, l))

-- what the reader of a channel receives in a row, and what its writer sends
not_cond : {A : Type 0} (t : Bool) (x y : A) → cond t x y ≡ cond (not t) y x
not_cond true x y = refl
not_cond false x y = refl

reads : (block : Block) (state : State) (past : List Ports) (row : Ports) → IsBlock block → Stands block state past → (c : ℕ)
    → (reader : Option Pipeline) → slice_get block.pipelines (receiver_of block c) ≡ reader
    → received_of (option_map (λ (m : Machine). machine_after (ports_in block state row) m) (slice_get state.machines (receiver_of block c))) c
    ≡ moved_in block state c ++ cond (is_reader_ready block state (ports_in block state row) c) (option_to_list ((ports_in block state row).valid_word c)) []
reads block state past row is st c None e =
    let none = none_there block state past st (receiver_of block c) e in
    rw none (unfold count_received in refl)
reads block state past row is st c (Some q) e =
    let m = there block state past st (receiver_of block c) q e in
    let sites = sites_there block [] 0 (receiver_of block c) q e in
    let ports = ports_in block state row in
    let taken = received_words_go_where_ready q (is.legal (receiver_of block c) q e) past ports c in
    let asserted = count_received q.proc.behavior.sites c (asserted_in q (after_cycles q (at_reset q) past).contents ports) in
    rw (m, sites) (ap (λ z. (after_cycles q (at_reset q) past).received c ++ z) (taken ∙ not_cond (eqb asserted 0) [] (option_to_list (ports.valid_word c))))

writes : (block : Block) (state : State) (past : List Ports) (row : Ports) → IsBlock block → Stands block state past → (c : ℕ)
    → (writer : Option Pipeline) → slice_get block.pipelines (sender_of block c) ≡ writer
    → sent_of (option_map (λ (m : Machine). machine_after (ports_in block state row) m) (slice_get state.machines (sender_of block c))) c
    ≡ moved_out block state c ++ cond ((ports_in block state row).room c) (option_to_list (valid_data block state (ports_in block state row) c)) []
writes block state past row is st c None e =
    let none = none_there block state past st (sender_of block c) e in
    rw none (unfold words_sent in nothing ((ports_in block state row).room c))
  where
    nothing : (t : Bool) → ◌≡◌ {A = List Word} [] (cond t [] [])
    nothing true = refl
    nothing false = refl
writes block state past row is st c (Some q) e =
    let m = there block state past st (sender_of block c) q e in
    let sites = sites_there block [] 0 (sender_of block c) q e in
    let ports = ports_in block state row in
    let legal = is.legal (sender_of block c) q e in
    let given = sent_words_go_where_there_is_room q legal past ports c in
    let words = words_sent q.proc.behavior.sites c (asserted_in q (after_cycles q (at_reset q) past).contents ports) in
    let short = short_list words (one_site_asserts_valid q legal past ports c) in
    rw (m, sites) (ap (λ z. (after_cycles q (at_reset q) past).sent c ++ z) (given ∙ ap (λ z. cond (ports.room c) z []) (sym short)))

pub words_received : (block : Block) (state : State) (past : List Ports) (row : Ports) → IsBlock block → Stands block state past → (c : ℕ)
    → moved_in block (one_row block state row) c
    ≡ moved_in block state c ++ cond (is_reader_ready block state (ports_in block state row) c) (option_to_list ((ports_in block state row).valid_word c)) []
words_received block state past row is st c =
    ap (λ m. received_of m c) (slice_get-map (machine_after (ports_in block state row)) state.machines (receiver_of block c))
    ∙ reads block state past row is st c (slice_get block.pipelines (receiver_of block c)) refl

pub words_written : (block : Block) (state : State) (past : List Ports) (row : Ports) → IsBlock block → Stands block state past → (c : ℕ)
    → moved_out block (one_row block state row) c
    ≡ moved_out block state c ++ cond ((ports_in block state row).room c) (option_to_list (valid_data block state (ports_in block state row) c)) []
words_written block state past row is st c =
    ap (λ m. sent_of m c) (slice_get-map (machine_after (ports_in block state row)) state.machines (sender_of block c))
    ∙ writes block state past row is st c (slice_get block.pipelines (sender_of block c)) refl

-- of an inner channel: what its FIFO gives, and what is put into it
given_is : (t : Bool) (xs : List Word) → cond t (option_to_list (next_word xs)) [] ≡ given_in xs t
given_is true [] = refl
given_is true (x ∷ xs) = refl
given_is false xs = refl

pub reads_next : (block : Block) (state : State) (past : List Ports) (row : Ports) → IsBlock block → Stands block state past → (c : ℕ) (chan : Chan) → slice_get block.chans c ≡ Some chan → chan.kind ≡ Inner
    → moved_in block (one_row block state row) c ≡ moved_in block state c ++ given_in (state.queues c) (is_reader_ready block state (ports_in block state row) c)
reads_next block state past row is st c chan here kind =
    let shown : (ports_in block state row).valid_word c ≡ next_word (state.queues c) = rw here (rw kind refl) in
    words_received block state past row is st c
    ∙ ap (λ o. moved_in block state c ++ cond (is_reader_ready block state (ports_in block state row) c) (option_to_list o) []) shown
    ∙ ap (λ z. moved_in block state c ++ z) (given_is (is_reader_ready block state (ports_in block state row) c) (state.queues c))

writes_next : (block : Block) (state : State) (past : List Ports) (row : Ports) → IsBlock block → Stands block state past → (c : ℕ) (chan : Chan) → slice_get block.chans c ≡ Some chan → chan.kind ≡ Inner
    → moved_out block (one_row block state row) c ≡ moved_out block state c ++ put_in (depth_of block c) (state.queues c) (valid_data block state (ports_in block state row) c)
writes_next block state past row is st c chan here kind =
    let shown : (ports_in block state row).room c ≡ has_room (depth_of block c) (state.queues c) = rw here (rw kind refl) in
    words_written block state past row is st c
    ∙ ap (λ t. moved_out block state c ++ cond t (option_to_list (valid_data block state (ports_in block state row) c)) []) shown

-- one row more
pub stands_next : (block : Block) (state : State) (past : List Ports) (row : Ports) → IsBlock block → Stands block state past → Stands block (one_row block state row) (past ++ ports_in block state row ∷ [])
stands_next block state past row is st = record {
  machines = ap (map (machine_after ports)) st.machines ∙ map-twice (machine_of past) (machine_after ports) block.pipelines
      ∙ map-same (λ q. machine_after ports (machine_of past q)) (machine_of (past ++ ports ∷ [])) block.pipelines (λ i q e. again q);
  queues = λ c chan here kind.
      writes_next block state past row is st c chan here kind
      ∙ put_is_all (moved_out block state c) (moved_in block state c) (state.queues c) (is_reader_ready block state ports c) (put_in (depth_of block c) (state.queues c) (valid_data block state ports c)) (st.queues c chan here kind)
      ∙ ap (λ z. z ++ (one_row block state row).queues c) (sym (reads_next block state past row is st c chan here kind));
}
  where
    ports : Ports
    ports = ports_in block state row

    again : (q : Pipeline) → machine_after ports (machine_of past q) ≡ machine_of (past ++ ports ∷ []) q
    again q = ap (λ (s : Since). record { pipeline = q; since = s }) (sym (more_cycles q (at_reset q) past ports))

pub stands_at_reset : (block : Block) → Stands block (reset_state block) []
stands_at_reset block = record {
  machines = refl;
  queues = λ c chan here kind. nothing c;
}
  where
    none_sent : (m : Option Pipeline) (c : ℕ) → sent_of (option_map reset_machine m) c ≡ []
    none_sent None c = refl
    none_sent (Some q) c = refl

    none_received : (m : Option Pipeline) (c : ℕ) → received_of (option_map reset_machine m) c ≡ []
    none_received None c = refl
    none_received (Some q) c = refl

    nothing : (c : ℕ) → moved_out block (reset_state block) c ≡ moved_in block (reset_state block) c ++ []
    nothing c =
        ap (λ m. sent_of m c) (slice_get-map reset_machine block.pipelines (sender_of block c)) ∙ none_sent (slice_get block.pipelines (sender_of block c)) c
        ∙ sym (ap (λ m. received_of m c ++ []) (slice_get-map reset_machine block.pipelines (receiver_of block c)) ∙ ap (λ z. z ++ []) (none_received (slice_get block.pipelines (receiver_of block c)) c))
