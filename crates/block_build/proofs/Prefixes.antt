-- What a block's ports moved is what the network's unbounded cut sends and receives.
use Rattle.std.proofs.Common.{◌≡◌, ℕ, ◌+◌, ◌≤◌, List, [], ◌∷◌, ◌++◌, length, refl, sym, ap, ◌∙◌, subst, arith, true, false, Bool, eqb, Option, Some, None}
use Rattle.std.specs.Prelude.{slice_get, get_or, ◌⊎◌, ◌&&◌, not, option_map}
use Rattle.std.proofs.Common.{inl, inr}
use Rattle.std.proofs.lemmas.Bool.Decides.{nat_tests}
use Rattle.std.proofs.lemmas.List.{length-append}
use Rattle.std.proofs.lemmas.Option.{slice_get-map}
use Rattle.base.specs.Lists.Prefix.{IsPrefix}
use Rattle.base.proofs.Lemmas.Lists.Prefixes.{IsPrefix-trans, IsPrefix-append, IsPrefix-append_both, IsPrefix-refl}
use Rattle.xb_bits.specs.Word.{Word}
use Rattle.net_core.specs.declared.net.Site.{Site}
use Rattle.net_core.specs.declared.net.Chan.{Chan}
use Rattle.net_core.specs.declared.net.Kind.{Kind}
use Rattle.net_core.specs.declared.net.Kind.TheVariants.{Input, Output, Inner}
use Rattle.net_core.specs.Trace.{trace}
use Rattle.net_core.specs.Cuts.{Run, Cut, receiver, receives_on, sites_at, words_sent, count_received, words_at, received_at, trace_of, unbounded_cut}
use Rattle.net_core.proofs.Lemmas.{traces_grow, only_words_are_received, unbounded_rounds_settle}
use Rattle.block_stage.specs.Machine.Pipeline.{Pipeline, ReceivesNowhere}
use Rattle.block_stage.specs.Machine.Cycle.{Ports}
use Rattle.block_stage.specs.Machine.Since.{at_reset, after_cycles}
use Rattle.block_stage.proofs.Lemmas.Machine.{sent_words_are_a_prefix, received_words_are_the_traces, nothing_is_received_without_a_site}
use Rattle.block_stage.specs.Fifo.Fifo.{given_in}
use Rattle.block_build.specs.Block.{Block, IsBlock, run_of, receiver_of}
use Rattle.block_build.specs.Rows.{Machine, State, InputRow, HasReset, reset_state, ports_in, sender_of, is_reader_ready, machine_after, one_row, after_rows, state_after, since_reset, received_of, sent_of, moved_in, moved_out}
use Rattle.block_build.proofs.Words.{cases, input_words, output_words, inner_words, sent_grow, received_grow, none_passes, one_passes}
use Rattle.block_build.proofs.Resets.{since_the_last_reset}
use Rattle.block_build.proofs.Lemmas.Standing.{machine_of, Stands, reads_next, there, sites_there, stands_next, stands_at_reset}

-- a proc's events in the unbounded cut are its trace over the words there
settled : (block : Block) (inputs : List (List Word)) (n p : ℕ) (q : Pipeline) → slice_get block.pipelines p ≡ Some q
    → unbounded_cut (run_of block inputs n) p ≡ trace q.proc.behavior n q.proc.opening (words_at (run_of block inputs n) (unbounded_cut (run_of block inputs n)))
settled block inputs n p q e =
    let run = run_of block inputs n in
    sym (ap (λ cut. cut p) (unbounded_rounds_settle run))
    ∙ ap (trace_of n (words_at run (unbounded_cut run))) (slice_get-map (λ (x : Pipeline). x.proc) block.pipelines p ∙ ap (option_map (λ (x : Pipeline). x.proc)) e)
    ∙ (unfold trace_of in refl)

no_proc : (block : Block) (inputs : List (List Word)) (n p : ℕ) → slice_get block.pipelines p ≡ None → unbounded_cut (run_of block inputs n) p ≡ []
no_proc block inputs n p e =
    let run = run_of block inputs n in
    sym (ap (λ cut. cut p) (unbounded_rounds_settle run))
    ∙ ap (trace_of n (words_at run (unbounded_cut run))) (slice_get-map (λ (x : Pipeline). x.proc) block.pipelines p ∙ ap (option_map (λ (x : Pipeline). x.proc)) e)
    ∙ (unfold trace_of in refl)

at_reader : (run : Run) (cut : Cut) (c : ℕ) → received_at run cut c ≡ count_received (sites_at run (receiver run c)) c (cut (receiver run c))
unfolding received_at
at_reader run cut c = refl

-- each pipeline received only words of the unbounded cut
abbrev IsFed : Block → List (List Word) → ℕ → List Ports → Type 0
IsFed block inputs n past = (p c : ℕ) (q : Pipeline) → slice_get block.pipelines p ≡ Some q
    → IsPrefix ((after_cycles q (at_reset q) past).received c) (words_at (run_of block inputs n) (unbounded_cut (run_of block inputs n)) c)

-- then what it sent is a prefix of what its proc sends there
sends_prefix : (block : Block) → IsBlock block → (inputs : List (List Word)) (n : ℕ) (past : List Ports) → length past ≤ n → IsFed block inputs n past
    → (p c : ℕ) (q : Pipeline) → slice_get block.pipelines p ≡ Some q
    → IsPrefix ((after_cycles q (at_reset q) past).sent c) (words_sent q.proc.behavior.sites c (unbounded_cut (run_of block inputs n) p))
sends_prefix block is inputs n past l fed p c q e =
    let run = run_of block inputs n in
    let received = (after_cycles q (at_reset q) past).received in
    IsPrefix-trans _ _ _ (sent_words_are_a_prefix q (is.legal p q e) past n c l)
    (sent_grow q.proc.behavior.sites c (trace q.proc.behavior n q.proc.opening received) (unbounded_cut run p)
    (subst (IsPrefix (trace q.proc.behavior n q.proc.opening received)) (sym (settled block inputs n p q e))
    (traces_grow q.proc.behavior n q.proc.opening received (words_at run (unbounded_cut run)) (λ ch. fed p ch q e))))

-- so a channel moved a front of its words there
moved_prefix : (block : Block) → IsBlock block → (inputs : List (List Word)) (n : ℕ) (state : State) (past : List Ports) → Stands block state past → length past ≤ n → IsFed block inputs n past
    → (c : ℕ) (writer : Option Pipeline) → slice_get block.pipelines (sender_of block c) ≡ writer
    → IsPrefix (moved_out block state c) (words_sent (sites_at (run_of block inputs n) (sender_of block c)) c (unbounded_cut (run_of block inputs n) (sender_of block c)))
moved_prefix block is inputs n state past st l fed c None e =
    let m = ap (λ ms. slice_get ms (sender_of block c)) st.machines ∙ slice_get-map (machine_of past) block.pipelines (sender_of block c) ∙ ap (option_map (machine_of past)) e in
    let none : moved_out block state c ≡ [] = ap (λ x. sent_of x c) m in
    subst (λ xs. IsPrefix xs (words_sent (sites_at (run_of block inputs n) (sender_of block c)) c (unbounded_cut (run_of block inputs n) (sender_of block c)))) (sym none) tt
moved_prefix block is inputs n state past st l fed c (Some q) e =
    let is_sent : moved_out block state c ≡ (after_cycles q (at_reset q) past).sent c = ap (λ x. sent_of x c) (there block state past st (sender_of block c) q e) in
    let sites = sites_there block inputs n (sender_of block c) q e in
    subst (λ xs. IsPrefix xs (words_sent (sites_at (run_of block inputs n) (sender_of block c)) c (unbounded_cut (run_of block inputs n) (sender_of block c)))) (sym is_sent)
    (subst (λ ss. IsPrefix ((after_cycles q (at_reset q) past).sent c) (words_sent ss c (unbounded_cut (run_of block inputs n) (sender_of block c)))) (sym sites)
    (sends_prefix block is inputs n past l fed (sender_of block c) c q e))

-- where a test over sites finds one that receives from a channel
receives_here : (q : Pipeline) (c : ℕ) → receives_on c q.proc ≡ true → (i : ℕ) × (site : Site) × (slice_get q.proc.behavior.sites i ≡ Some site) × (site.sends ≡ false) × (site.chan ≡ c)
receives_here q c h =
    let r = one_passes (λ (site : Site). not site.sends && eqb site.chan c) q.proc.behavior.sites h in
    let t = parts r.1.sends (eqb r.1.chan c) r.3 in
    (r.0, r.1, r.2, t.0, eqb-eq r.1.chan c t.1)
  where
    parts : (s t : Bool) → (not s && t) ≡ true → (s ≡ false) × (t ≡ true)
    parts true t e = cc
    parts false t e = (refl, e)

    eqb-eq : (a d : ℕ) → eqb a d ≡ true → a ≡ d
    eqb-eq a d e = grind (arith, nat_tests)

receives_nowhere : (q : Pipeline) (c : ℕ) → receives_on c q.proc ≡ false → ReceivesNowhere q c
receives_nowhere q c h i site here sends chan =
    let t = none_passes (λ (x : Site). not x.sends && eqb x.chan c) q.proc.behavior.sites h i site here in
    clash site.sends (eqb site.chan c) sends (eq-eqb site.chan c chan) t
  where
    clash : (s t : Bool) → s ≡ false → t ≡ true → (not s && t) ≡ false → ⊥
    clash s t a b e = let x = rw (a, b) at e in cc

    eq-eqb : (a d : ℕ) → a ≡ d → eqb a d ≡ true
    eq-eqb a d e = grind (arith, nat_tests)

kinds : (k : Kind) → (k ≡ Input) ⊎ ((k ≡ Output) ⊎ (k ≡ Inner))
kinds Input = inl refl
kinds Output = inr (inl refl)
kinds Inner = inr (inr refl)

-- the inputs' words are all that was received from them in the end
abbrev AreInputs : Block → List (List Word) → State → Type 0
AreInputs block inputs state = (c : ℕ) (chan : Chan) → slice_get block.chans c ≡ Some chan → chan.kind ≡ Input → IsPrefix (moved_in block state c) (get_or inputs c [])

given_prefix : (words : List Word) (asserted : Bool) → IsPrefix (given_in words asserted) words
given_prefix [] true = tt
given_prefix (w ∷ ws) true = (refl, tt)
given_prefix words false = tt

-- a row keeps it
fed_next : (block : Block) → IsBlock block → (inputs : List (List Word)) (n : ℕ) (state : State) (past : List Ports) (row : Ports) → Stands block state past → length past ≤ n → IsFed block inputs n past
    → AreInputs block inputs (one_row block state row) → IsFed block inputs n (past ++ ports_in block state row ∷ [])
fed_next block is inputs n state past row st l fed ends p c q e = go (cases (receives_on c q.proc))
  where
    run : Run
    run = run_of block inputs n

    past' : List Ports
    past' = past ++ ports_in block state row ∷ []

    st' : Stands block (one_row block state row) past'
    st' = stands_next block state past row is st

    no_site : receives_on c q.proc ≡ false → IsPrefix ((after_cycles q (at_reset q) past').received c) (words_at run (unbounded_cut run) c)
    no_site h =
        let none = nothing_is_received_without_a_site q (is.legal p q e) past' c (receives_nowhere q c h) in
        subst (λ xs. IsPrefix xs (words_at run (unbounded_cut run) c)) (sym none) tt

    is_moved : p ≡ receiver_of block c → moved_in block (one_row block state row) c ≡ (after_cycles q (at_reset q) past').received c
    is_moved same = ap (λ x. received_of (slice_get (one_row block state row).machines x) c) (sym same) ∙ ap (λ x. received_of x c) (there block (one_row block state row) past' st' p q e)

    by_kind : (chan : Chan) → slice_get block.chans c ≡ Some chan → (chan.kind ≡ Output → ⊥) → p ≡ receiver_of block c → (chan.kind ≡ Input) ⊎ ((chan.kind ≡ Output) ⊎ (chan.kind ≡ Inner))
        → IsPrefix ((after_cycles q (at_reset q) past').received c) (words_at run (unbounded_cut run) c)
    by_kind chan here never same (inl k) =
        subst (IsPrefix ((after_cycles q (at_reset q) past').received c)) (sym (input_words run (unbounded_cut run) c chan here k))
        (subst (λ xs. IsPrefix xs (get_or inputs c [])) (is_moved same) (ends c chan here k))
    by_kind chan here never same (inr (inl k)) = absurd (never k)
    by_kind chan here never same (inr (inr k)) =
        subst (IsPrefix ((after_cycles q (at_reset q) past').received c)) (sym (inner_words run (unbounded_cut run) c chan here k))
        (IsPrefix-trans _ _ _ given_was_put (moved_prefix block is inputs n state past st l fed c (slice_get block.pipelines (sender_of block c)) refl))
      where
        given_was_put : IsPrefix ((after_cycles q (at_reset q) past').received c) (moved_out block state c)
        given_was_put =
            subst (λ xs. IsPrefix xs (moved_out block state c)) (sym (reads_next block state past row is st c chan here k) ∙ is_moved same)
            (subst (IsPrefix (moved_in block state c ++ given_in (state.queues c) (is_reader_ready block state (ports_in block state row) c))) (sym (st.queues c chan here k))
            (IsPrefix-append_both (moved_in block state c) _ _ (given_prefix (state.queues c) (is_reader_ready block state (ports_in block state row) c))))

    go : (receives_on c q.proc ≡ true) ⊎ (receives_on c q.proc ≡ false) → IsPrefix ((after_cycles q (at_reset q) past').received c) (words_at run (unbounded_cut run) c)
    go (inr h) = no_site h
    go (inl h) =
        let r = receives_here q c h in
        let source = is.sources p r.0 q r.1 e r.2 r.3 in
        let reader = is.receivers p r.0 q r.1 e r.2 r.3 in
        by_kind source.0 (ap (slice_get block.chans) (sym r.4) ∙ source.1) source.2 (reader ∙ ap (receiver_of block) r.4) (kinds source.0.kind)

-- what an input received grows
received_more : (machine : Option Machine) (ports : Ports) (c : ℕ) → IsPrefix (received_of machine c) (received_of (option_map (λ (m : Machine). machine_after ports m) machine) c)
received_more None ports c = tt
received_more (Some m) ports c = IsPrefix-append (m.since.received c) _

moved_more : (block : Block) (state : State) (row : Ports) (c : ℕ) → IsPrefix (moved_in block state c) (moved_in block (one_row block state row) c)
moved_more block state row c =
    subst (λ m. IsPrefix (moved_in block state c) (received_of m c)) (sym (slice_get-map (machine_after (ports_in block state row)) state.machines (receiver_of block c)))
    (received_more (slice_get state.machines (receiver_of block c)) (ports_in block state row) c)

moved_grow : (block : Block) (rows : List Ports) (state : State) (c : ℕ) → IsPrefix (moved_in block state c) (moved_in block (after_rows block state rows) c)
moved_grow block [] state c = IsPrefix-refl (moved_in block state c)
moved_grow block (row ∷ rows) state c = IsPrefix-trans _ _ _ (moved_more block state row c) (moved_grow block rows (one_row block state row) c)

-- after any rows
record Ends (block : Block) (inputs : List (List Word)) (n : ℕ) (state : State) : Type 0 where
  past : List Ports
  long : length past ≤ n
  stands : Stands block state past
  fed : IsFed block inputs n past

ends_after : (block : Block) → IsBlock block → (inputs : List (List Word)) (n : ℕ) (rows : List Ports) (state : State) (past : List Ports) → Stands block state past → length past + length rows ≤ n
    → IsFed block inputs n past → AreInputs block inputs (after_rows block state rows) → Ends block inputs n (after_rows block state rows)
ends_after block is inputs n [] state past st l fed ends = record { past = past; long = omega arith; stands = st; fed = fed }
ends_after block is inputs n (row ∷ rows) state past st l fed ends =
    let long = length-append past (ports_in block state row ∷ []) in
    ends_after block is inputs n rows (one_row block state row) (past ++ ports_in block state row ∷ []) (stands_next block state past row is st) (omega (arith, long))
    (fed_next block is inputs n state past row st (omega arith) fed
    (λ c chan here kind. IsPrefix-trans _ _ _ (moved_grow block rows (one_row block state row) c) (ends c chan here kind)))
    ends

-- the words that the outside sends are those that the inputs received
abbrev pub AreMoved : Block → List (List Word) → State → Type 0
AreMoved block inputs state = (c : ℕ) (chan : Chan) → slice_get block.chans c ≡ Some chan → chan.kind ≡ Input → get_or inputs c [] ≡ moved_in block state c

the_end : (block : Block) → IsBlock block → (rows : List Ports) (inputs : List (List Word)) (n : ℕ) → length rows ≤ n → AreMoved block inputs (after_rows block (reset_state block) rows)
    → Ends block inputs n (after_rows block (reset_state block) rows)
the_end block is rows inputs n l moved =
    ends_after block is inputs n rows (reset_state block) [] (stands_at_reset block) (omega arith)
    (λ p c q e. tt)
    (λ c chan here kind. subst (IsPrefix (moved_in block (after_rows block (reset_state block) rows) c)) (sym (moved c chan here kind)) (IsPrefix-refl (moved_in block (after_rows block (reset_state block) rows) c)))

outputs_are_prefixes : (block : Block) → IsBlock block → (rows : List Ports) (inputs : List (List Word)) (n : ℕ) → length rows ≤ n → AreMoved block inputs (after_rows block (reset_state block) rows)
    → (c : ℕ) (chan : Chan) → slice_get block.chans c ≡ Some chan → chan.kind ≡ Output
    → IsPrefix (moved_out block (after_rows block (reset_state block) rows) c) (words_at (run_of block inputs n) (unbounded_cut (run_of block inputs n)) c)
outputs_are_prefixes block is rows inputs n l moved c chan here kind =
    let state = after_rows block (reset_state block) rows in
    let end = the_end block is rows inputs n l moved in
    subst (IsPrefix (moved_out block state c)) (sym (output_words (run_of block inputs n) (unbounded_cut (run_of block inputs n)) c chan here kind))
    (moved_prefix block is inputs n state end.past end.stands end.long end.fed c (slice_get block.pipelines (sender_of block c)) refl)

none_counted : (sites : List Site) (c : ℕ) → count_received sites c [] ≡ 0
unfolding count_received
none_counted sites c = refl

received_by : (block : Block) → IsBlock block → (inputs : List (List Word)) (n : ℕ) (state : State) → Ends block inputs n state → (c : ℕ) (chan : Chan) → slice_get block.chans c ≡ Some chan → chan.kind ≡ Input
    → get_or inputs c [] ≡ moved_in block state c → (reader : Option Pipeline) → slice_get block.pipelines (receiver_of block c) ≡ reader
    → received_at (run_of block inputs n) (unbounded_cut (run_of block inputs n)) c ≡ length (moved_in block state c)
received_by block is inputs n state end c chan here kind moved None e =
    let run = run_of block inputs n in
    let r = receiver_of block c in
    let none : unbounded_cut run r ≡ [] = no_proc block inputs n r e in
    let machine = ap (λ ms. slice_get ms r) end.stands.machines ∙ slice_get-map (machine_of end.past) block.pipelines r ∙ ap (option_map (machine_of end.past)) e in
    at_reader run (unbounded_cut run) c ∙ ap (count_received (sites_at run r) c) none ∙ none_counted (sites_at run r) c ∙ sym (ap (λ m. length (received_of m c)) machine)
received_by block is inputs n state end c chan here kind moved (Some q) e =
    let run = run_of block inputs n in
    let r = receiver_of block c in
    let cut = unbounded_cut run in
    let received = (after_cycles q (at_reset q) end.past).received in
    let whole = settled block inputs n r q e in
    let sites = sites_there block inputs n r q e in
    let words = words_at run cut in
    let counted : received_at run cut c ≡ count_received q.proc.behavior.sites c (trace q.proc.behavior n q.proc.opening words) =
    at_reader run cut c ∙ ap (λ ss. count_received ss c (cut r)) sites ∙ ap (count_received q.proc.behavior.sites c) whole in
    let least = received_grow q.proc.behavior.sites c (trace q.proc.behavior n q.proc.opening received) (trace q.proc.behavior n q.proc.opening words)
    (traces_grow q.proc.behavior n q.proc.opening received words (λ ch. end.fed r ch q e)) in
    let own = received_words_are_the_traces q (is.legal r q e) end.past n c end.long in
    let most = only_words_are_received q.proc n words (trace q.proc.behavior n q.proc.opening words) (IsPrefix-refl (trace q.proc.behavior n q.proc.opening words)) c in
    let all : length (words c) ≡ length (moved_in block state c) = ap length (input_words run cut c chan here kind ∙ moved) in
    let mine : length (moved_in block state c) ≡ length (received c) = ap (λ m. length (received_of m c)) (there block state end.past end.stands r q e) in
    omega (arith, counted, least, own, most, all, mine)

inputs_are_received : (block : Block) → IsBlock block → (rows : List Ports) (inputs : List (List Word)) (n : ℕ) → length rows ≤ n → AreMoved block inputs (after_rows block (reset_state block) rows)
    → (c : ℕ) (chan : Chan) → slice_get block.chans c ≡ Some chan → chan.kind ≡ Input
    → received_at (run_of block inputs n) (unbounded_cut (run_of block inputs n)) c ≡ length (moved_in block (after_rows block (reset_state block) rows) c)
inputs_are_received block is rows inputs n l moved c chan here kind =
    received_by block is inputs n (after_rows block (reset_state block) rows) (the_end block is rows inputs n l moved) c chan here kind (moved c chan here kind) (slice_get block.pipelines (receiver_of block c)) refl

-- rows with resets among them
pub outputs_are_the_networks : (block : Block) → IsBlock block → (power : State) (rows : List InputRow) → HasReset rows → (inputs : List (List Word)) (n : ℕ) → length (since_reset [] rows) ≤ n
    → AreMoved block inputs (state_after block power rows) → (c : ℕ) (chan : Chan) → slice_get block.chans c ≡ Some chan → chan.kind ≡ Output
    → IsPrefix (moved_out block (state_after block power rows) c) (words_at (run_of block inputs n) (unbounded_cut (run_of block inputs n)) c)
outputs_are_the_networks block is power rows h inputs n l moved c chan here kind =
    let e = since_the_last_reset block power [] rows h in
    subst (λ s. IsPrefix (moved_out block s c) (words_at (run_of block inputs n) (unbounded_cut (run_of block inputs n)) c)) (sym e)
    (outputs_are_prefixes block is (since_reset [] rows) inputs n l (subst (AreMoved block inputs) e moved) c chan here kind)

pub inputs_are_the_networks : (block : Block) → IsBlock block → (power : State) (rows : List InputRow) → HasReset rows → (inputs : List (List Word)) (n : ℕ) → length (since_reset [] rows) ≤ n
    → AreMoved block inputs (state_after block power rows) → (c : ℕ) (chan : Chan) → slice_get block.chans c ≡ Some chan → chan.kind ≡ Input
    → received_at (run_of block inputs n) (unbounded_cut (run_of block inputs n)) c ≡ length (moved_in block (state_after block power rows) c)
inputs_are_the_networks block is power rows h inputs n l moved c chan here kind =
    let e = since_the_last_reset block power [] rows h in
    subst (λ s. received_at (run_of block inputs n) (unbounded_cut (run_of block inputs n)) c ≡ length (moved_in block s c)) (sym e)
    (inputs_are_received block is (since_reset [] rows) inputs n l (subst (AreMoved block inputs) e moved) c chan here kind)
