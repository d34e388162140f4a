-- The block of a package runs the package's network, and its module moves prefixes of the words there.
use Rattle.std.proofs.Common.{◌≡◌, ℕ, zero, suc, ◌+◌, ◌≤◌, false, List, [], ◌∷◌, ◌++◌, length, map, get_or, refl, sym, ap, ◌∙◌, subst, arith}
use Rattle.std.specs.Prelude.{slice_get, option_map, option_to_list, if◌then◌else◌, Some}
use Rattle.std.proofs.lemmas.Option.{slice_get-map}
use Rattle.base.specs.Lists.Prefix.{IsPrefix}
use Rattle.xb_bits.specs.Word.{Word}
use Rattle.net_core.specs.declared.net.Chan.{Chan}
use Rattle.net_core.specs.declared.net.Kind.{Kind}
use Rattle.net_core.specs.declared.net.Kind.TheVariants as kind
use Rattle.net_core.specs.Cuts.{Proc as NetProc, Run, Cut, sites_at, sender, words_sent, words_by, words_at, received_at, unbounded_cut, most_events, trace_of}
use Rattle.net_core.specs.WellFormed.{procs_of}
use Rattle.ir_tree.specs.declared.package.Channel.{Channel}
use Rattle.ir_tree.specs.declared.package.Ends.{Ends}
use Rattle.ir_tree.specs.declared.package.Ends.TheVariants as ends
use Rattle.ir_tree.specs.declared.package.Package.{Package}
use Rattle.ir_tree.specs.declared.package.Proc.{Proc}
use Rattle.ir_tree.specs.Activations.{activation}
use Rattle.ir_tree.specs.Constants.{constant_value}
use Rattle.ir_tree.specs.Networks.{chan_of, kind_of, head_of}
use Rattle.ir_tree.specs.Types.{ty_of}
use Rattle.block_stage.specs.Machine.Pipeline.{Pipeline}
use Rattle.block_build.specs.Block.{Block, IsBlock, run_of}
use Rattle.block_build.specs.Rows.{State, InputRow, HasReset, reset_state, after_row, state_after, since_reset, is_ready, offers, moved_in, moved_out}
use Rattle.block_verilog.specs.Outside.{input_row}
use Rattle.block_verilog.specs.Widths.{AreInputRows}
use Rattle.block_verilog.specs.Schedule.Pipelines.{AreLegal, pipelines_of, block_of}
use Rattle.block_verilog.specs.Modules.{AreScheduled}
use Rattle.pipe_schedule.specs.declared.schedule.Schedule.{Schedule}
use Rattle.vlog_tree.specs.declared.module.VModule.{VModule}
use Rattle.vlog_tree.specs.declared.row.Outs.{Outs}
use Rattle.vlog_tree.specs.declared.row.Row.{Row}
use Rattle.vlog_tree.specs.Rows.{Runs}
use Rattle.vlog_tree.specs.Value.{Values}
use Rattle.block_verilog.specs.Streams.Streams.{IsHardwareOf, SomeResets, rows_since, words_moved, package_run, words_given, inputs_from, MovesItsWords}
use Rattle.block_verilog.proofs.OnStreams.Moving.{IsMoved, IsMovedOn, RowLaws, all_moved}
use Rattle.block_verilog.proofs.OnStreams.OnRows.{resets_alike, since_long}

-- ---- one network

procs_same : (channels : List Channel) (clock : ℕ) (procs : List Proc) (schedules : List (List ℕ)) → AreLegal clock procs schedules
    → map (λ (q : Pipeline). q.proc) (pipelines_of channels procs schedules) ≡ procs_of (map head_of procs) (map (activation channels) procs)
procs_same channels clock [] [] legal = refl
procs_same channels clock [] (stages ∷ schedules) legal = absurd legal
procs_same channels clock (proc ∷ procs) [] legal = absurd legal
procs_same channels clock (proc ∷ procs) (stages ∷ schedules) legal =
    let first : NetProc = record { opening = constant_value (ty_of proc.state) proc.init; behavior = activation channels proc } in
    ap (λ ps. first ∷ ps) (procs_same channels clock procs schedules legal.1)

pub run_same : (ir : Package) (clock : ℕ) (schedules : List (List ℕ)) (depths : List ℕ) → AreLegal clock ir.procs schedules → (inputs : List (List Word)) (n : ℕ)
    → run_of (block_of ir schedules depths) inputs n ≡ package_run ir inputs n depths
run_same ir clock schedules depths legal inputs n =
    let with_procs : List NetProc → Run = λ ps. record { procs = ps; chans = map chan_of ir.channels; inputs = inputs; activations = n; depths = depths } in
    ap with_procs (procs_same ir.channels clock ir.procs schedules legal)

-- without a bound the depths don't count
words_alike : (ir : Package) (inputs : List (List Word)) (n : ℕ) (depths deep : List ℕ) (c : ℕ)
    → words_at (package_run ir inputs n depths) (unbounded_cut (package_run ir inputs n depths)) c ≡ words_at (package_run ir inputs n deep) (unbounded_cut (package_run ir inputs n deep)) c
unfolding words_at words_by unbounded_cut most_events trace_of
words_alike ir inputs n depths deep c = refl

received_alike : (ir : Package) (inputs : List (List Word)) (n : ℕ) (depths deep : List ℕ) (c : ℕ)
    → received_at (package_run ir inputs n depths) (unbounded_cut (package_run ir inputs n depths)) c ≡ received_at (package_run ir inputs n deep) (unbounded_cut (package_run ir inputs n deep)) c
unfolding received_at words_at words_by unbounded_cut most_events trace_of
received_alike ir inputs n depths deep c = refl

-- ---- the words of its inputs

inputs_at : (k : ℕ) (channels : List Channel) (words : ℕ → List Word) (c : ℕ) (channel : Channel) → slice_get channels c ≡ Some channel → get_or (inputs_from k channels words) c [] ≡ words_given channel.ends (words (k + c))
inputs_at k [] words c channel there = absurd (cc)
inputs_at k (x ∷ channels) words zero channel there =
    let same : x ≡ channel = cc in
    let none : k ≡ k + 0 = omega arith in
    ap (λ (y : Channel). words_given y.ends (words k)) same ∙ ap (λ n. words_given channel.ends (words n)) none
inputs_at k (x ∷ channels) words (suc c) channel there =
    let next : suc k + c ≡ k + suc c = omega arith in
    inputs_at (suc k) channels words c channel there ∙ ap (λ n. words_given channel.ends (words n)) next

is_input : (e : Ends) → kind_of e ≡ kind.Input → e ≡ ends.Input
is_input ends.Input h = refl
is_input ends.Output h = absurd (cc)
is_input (ends.Inner depth) h = absurd (cc)

pub map_there : {A B : Type 0} (f : A → B) (xs : List A) (i : ℕ) (y : B) → slice_get (map f xs) i ≡ Some y → (x : A) × (slice_get xs i ≡ Some x) × (f x ≡ y)
map_there f [] i y e = absurd (cc)
map_there f (x ∷ xs) zero y e = (x, refl, cc)
map_there f (x ∷ xs) (suc i) y e = map_there f xs i y e

pub chan_there : (channels : List Channel) (c : ℕ) (channel : Channel) → slice_get channels c ≡ Some channel → slice_get (map chan_of channels) c ≡ Some (chan_of channel)
chan_there channels c channel there = slice_get-map chan_of channels c ∙ ap (option_map chan_of) there

-- an input's words are all there from the start
words_kind : Run → Cut → ℕ → Kind → List Word
words_kind run cut c kind.Input = get_or run.inputs c []
words_kind run cut c kind.Output = words_sent (sites_at run (sender run c)) c (cut (sender run c))
words_kind run cut c kind.Inner = words_sent (sites_at run (sender run c)) c (cut (sender run c))

by_kind : (run : Run) (cut : Cut) (c : ℕ) (k : Kind)
    → (elim k as (λ _. List Word) [ kind.Input ↦ get_or run.inputs c [] | kind.Output ↦ words_sent (sites_at run (sender run c)) c (cut (sender run c)) | kind.Inner ↦ words_sent (sites_at run (sender run c)) c (cut (sender run c)) ])
    ≡ words_kind run cut c k
unfolding words_kind
by_kind run cut c kind.Input = refl
by_kind run cut c kind.Output = refl
by_kind run cut c kind.Inner = refl

input_words : (run : Run) (cut : Cut) (c : ℕ) (chan : Chan) → slice_get run.chans c ≡ Some chan → chan.kind ≡ kind.Input → words_at run cut c ≡ get_or run.inputs c []
unfolding words_at words_by words_kind
input_words run cut c chan e k = ap (words_by run cut c) e ∙ by_kind run cut c chan.kind ∙ ap (words_kind run cut c) k

-- ---- the law

abbrev pub OutputsLaw : Type 0
OutputsLaw =
    (block : Block) → IsBlock block → (power : State) (rows : List InputRow) → HasReset rows → (inputs : List (List Word)) (n : ℕ) → length (since_reset [] rows) ≤ n
    → let state = state_after block power rows in
    let run = run_of block inputs n in
    ((c : ℕ) (chan : Chan) → slice_get block.chans c ≡ Some chan → chan.kind ≡ kind.Input → get_or inputs c [] ≡ moved_in block state c)
    → (c : ℕ) (chan : Chan) → slice_get block.chans c ≡ Some chan → chan.kind ≡ kind.Output → IsPrefix (moved_out block state c) (words_at run (unbounded_cut run) c)

abbrev pub InputsLaw : Type 0
InputsLaw =
    (block : Block) → IsBlock block → (power : State) (rows : List InputRow) → HasReset rows → (inputs : List (List Word)) (n : ℕ) → length (since_reset [] rows) ≤ n
    → let state = state_after block power rows in
    let run = run_of block inputs n in
    ((c : ℕ) (chan : Chan) → slice_get block.chans c ≡ Some chan → chan.kind ≡ kind.Input → get_or inputs c [] ≡ moved_in block state c)
    → (c : ℕ) (chan : Chan) → slice_get block.chans c ≡ Some chan → chan.kind ≡ kind.Input → received_at run (unbounded_cut run) c ≡ length (moved_in block state c)

pub moves_its_words : OutputsLaw → InputsLaw → (ir : Package) (clock : ℕ) (schedules : List (List ℕ)) (depths : List ℕ) → AreLegal clock ir.procs schedules → let block = block_of ir schedules depths in IsBlock block
    → (power : State) (rows : List InputRow) → HasReset rows → (n : ℕ) (deep : List ℕ) → length (since_reset [] rows) ≤ n → (moved : ℕ → List Word)
    → ((c : ℕ) (channel : Channel) → slice_get ir.channels c ≡ Some channel → IsMoved block (state_after block power rows) c channel.ends (moved c)) → MovesItsWords ir n deep moved
moves_its_words outputs_law inputs_law ir clock schedules depths legal is power rows resets n deep few moved words = record {
  outputs = λ c channel there e.
      let law = outputs_law block is power rows resets inputs n few given c (chan_of channel) (chan_there ir.channels c channel there) (ap kind_of e) in
      let whole = subst (λ run. IsPrefix (moved_out block state c) (words_at run (unbounded_cut run) c)) same law in
      subst (IsPrefix (moved c)) (words_alike ir inputs n depths deep c) (subst (λ ws. IsPrefix ws (words_at (package_run ir inputs n depths) (unbounded_cut (package_run ir inputs n depths)) c)) (sym (moved_at_output c channel there e)) whole);
  inputs = λ c channel there e.
      let at = chan_there ir.channels c channel there in
      let run = package_run ir inputs n deep in
      let law = inputs_law block is power rows resets inputs n few given c (chan_of channel) at (ap kind_of e) in
      let whole = subst (λ r. received_at r (unbounded_cut r) c ≡ length (moved_in block state c)) same law in (
        input_words run (unbounded_cut run) c (chan_of channel) at (ap kind_of e) ∙ given_moved c channel there e,
        sym (received_alike ir inputs n depths deep c) ∙ whole ∙ ap length (sym (moved_at_input c channel there e)),
      );
}
  where
    block : Block
    block = block_of ir schedules depths

    state : State
    state = state_after block power rows

    inputs : List (List Word)
    inputs = inputs_from 0 ir.channels moved

    same : run_of block inputs n ≡ package_run ir inputs n depths
    same = run_same ir clock schedules depths legal inputs n

    moved_at_output : (c : ℕ) (channel : Channel) → slice_get ir.channels c ≡ Some channel → channel.ends ≡ ends.Output → moved c ≡ moved_out block state c
    moved_at_output c channel there e = subst (λ x. IsMoved block state c x (moved c)) e (words c channel there)

    moved_at_input : (c : ℕ) (channel : Channel) → slice_get ir.channels c ≡ Some channel → channel.ends ≡ ends.Input → moved c ≡ moved_in block state c
    moved_at_input c channel there e = subst (λ x. IsMoved block state c x (moved c)) e (words c channel there)

    given_moved : (c : ℕ) (channel : Channel) → slice_get ir.channels c ≡ Some channel → channel.ends ≡ ends.Input → get_or inputs c [] ≡ moved c
    given_moved c channel there e =
        let none : 0 + c ≡ c = omega arith in
        inputs_at 0 ir.channels moved c channel there ∙ ap (λ x. words_given x (moved (0 + c))) e ∙ ap moved none

    given : (c : ℕ) (chan : Chan) → slice_get block.chans c ≡ Some chan → chan.kind ≡ kind.Input → get_or inputs c [] ≡ moved_in block state c
    given c chan there k =
        let own = map_there chan_of ir.channels c chan there in
        let e = is_input (own.0).ends (ap (λ (x : Chan). x.kind) own.2 ∙ k) in
        given_moved c own.0 own.1 e ∙ moved_at_input c own.0 own.1 e

-- ---- of a module

-- the laws of words that move, of a block
abbrev pub OutMoves : Type 0
OutMoves =
    (block : Block) → IsBlock block → (power : State) (rows : List InputRow) → HasReset rows → (row : InputRow) → row.rst ≡ false
    → let state = state_after block power rows in
    (c : ℕ) (chan : Chan) → slice_get block.chans c ≡ Some chan → chan.kind ≡ kind.Output
    → moved_out block (after_row block state row) c ≡ moved_out block state c ++ (if row.ports.room c then option_to_list (offers block state row c) else [])

abbrev pub InMoves : Type 0
InMoves =
    (block : Block) → IsBlock block → (power : State) (rows : List InputRow) → HasReset rows → (row : InputRow) → row.rst ≡ false
    → let state = state_after block power rows in
    (c : ℕ) (chan : Chan) → slice_get block.chans c ≡ Some chan → chan.kind ≡ kind.Input
    → moved_in block (after_row block state row) c ≡ moved_in block state c ++ (if is_ready block state row c then option_to_list (row.ports.valid_word c) else [])

-- from whatever stood in the registers
abbrev pub at_power : Block → State
at_power block = reset_state block

row_laws : OutMoves → InMoves → (m : VModule) (ir : Package) (schedules : List (List ℕ)) (depths : List ℕ) (is : IsHardwareOf m ir schedules depths) → let block = block_of ir schedules depths in IsBlock block
    → RowLaws m ir.channels block (at_power block) is.made.drives is.made.ports
row_laws out_law in_law m ir schedules depths is legal rows row resets off c channel there = at channel.ends refl
  where
    block : Block
    block = block_of ir schedules depths

    state : State
    state = state_after block (at_power block) (map (input_row ir.channels) rows)

    at : (e : Ends) → channel.ends ≡ e → IsMovedOn block state (input_row ir.channels row) c channel.ends
    at ends.Input e = subst (IsMovedOn block state (input_row ir.channels row) c) (sym e) (in_law block legal (at_power block) (map (input_row ir.channels) rows) (resets_alike ir.channels rows resets) (input_row ir.channels row) off c (chan_of channel) (chan_there ir.channels c channel there) (ap kind_of e))
    at ends.Output e = subst (IsMovedOn block state (input_row ir.channels row) c) (sym e) (out_law block legal (at_power block) (map (input_row ir.channels) rows) (resets_alike ir.channels rows resets) (input_row ir.channels row) off c (chan_of channel) (chan_there ir.channels c channel there) (ap kind_of e))
    at (ends.Inner depth) e = subst (IsMovedOn block state (input_row ir.channels row) c) (sym e) tt

-- its words are the block's
pub module_moves : OutMoves → InMoves → (m : VModule) (ir : Package) (schedules : List (List ℕ)) (depths : List ℕ) → IsHardwareOf m ir schedules depths → let block = block_of ir schedules depths in IsBlock block
    → (rows : List Row) (outs : List Outs) (held : Values) → AreInputRows m rows → Runs m rows outs held → SomeResets rows
    → (c : ℕ) (channel : Channel) → slice_get ir.channels c ≡ Some channel → IsMoved block (state_after block (at_power block) (map (input_row ir.channels) rows)) c channel.ends (words_moved m ir.channels rows outs c)
module_moves out_law in_law m ir schedules depths is legal rows outs held fit run resets =
    let block = block_of ir schedules depths in
    (all_moved m ir.channels block (at_power block) is.made.drives is.made.ports (row_laws out_law in_law m ir schedules depths is legal) rows outs held fit run).words resets

pub module_moves_its_words : OutMoves → InMoves → OutputsLaw → InputsLaw → (m : VModule) (ir : Package) (schedules : List (List ℕ)) (depths : List ℕ) → IsHardwareOf m ir schedules depths → IsBlock (block_of ir schedules depths)
    → (rows : List Row) (outs : List Outs) (held : Values) → AreInputRows m rows → Runs m rows outs held → SomeResets rows
    → (activations : ℕ) (deep : List ℕ) → length (rows_since [] rows) ≤ activations → MovesItsWords ir activations deep (words_moved m ir.channels rows outs)
module_moves_its_words out_law in_law outputs_law inputs_law m ir schedules depths is legal rows outs held fit run resets activations deep few =
    let block = block_of ir schedules depths in
    let long = since_long ir.channels rows in
    moves_its_words outputs_law inputs_law ir is.clock schedules depths is.legal legal (at_power block) (map (input_row ir.channels) rows) (resets_alike ir.channels rows resets) activations deep (subst (λ k. k ≤ activations) (sym long) few)
    (words_moved m ir.channels rows outs) (module_moves out_law in_law m ir schedules depths is legal rows outs held fit run resets)

-- ---- schedules

pub scheduled_are_legal : (clock : ℕ) (procs : List Proc) (schedules : List Schedule) → AreScheduled clock procs schedules → AreLegal clock procs (map (λ (schedule : Schedule). schedule.stage) schedules)
scheduled_are_legal clock [] [] h = tt
scheduled_are_legal clock [] (schedule ∷ schedules) h = absurd h
scheduled_are_legal clock (proc ∷ procs) [] h = absurd h
scheduled_are_legal clock (proc ∷ procs) (schedule ∷ schedules) h = (h.0, scheduled_are_legal clock procs schedules h.3)
