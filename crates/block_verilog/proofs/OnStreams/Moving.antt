-- The words that a simulation counts as moved are those that the block moved.
use Rattle.std.proofs.Common.{◌≡◌, ℕ, ◌+◌, Bool, true, false, List, [], ◌∷◌, ◌++◌, length, map, get_or, refl, sym, ap, ap₂, ◌∙◌, subst, arith}
use Rattle.std.specs.Prelude.{slice_get, is_some, option_map, option_to_list, if◌then◌else◌, Option, Some, None}
use Rattle.std.proofs.lemmas.List.{append-nil, length-append}
use Rattle.std.proofs.lemmas.Option.{slice_get-map}
use Rattle.xb_bits.specs.Word.{Word}
use Rattle.ir_tree.specs.declared.package.Channel.{Channel}
use Rattle.ir_tree.specs.declared.package.Ends.{Ends}
use Rattle.ir_tree.specs.declared.package.Ends.TheVariants as ends
use Rattle.vlog_tree.specs.declared.module.VModule.{VModule}
use Rattle.vlog_tree.specs.declared.row.Drive.{Drive}
use Rattle.vlog_tree.specs.declared.row.Drive.TheVariants.{Offer, Ready}
use Rattle.vlog_tree.specs.declared.row.Outs.{Outs}
use Rattle.vlog_tree.specs.declared.row.Row.{Row}
use Rattle.vlog_tree.specs.declared.row.Shown.{Shown}
use Rattle.vlog_tree.specs.declared.row.Shown.TheVariants as shown
use Rattle.vlog_tree.specs.Meaning.{IsNow}
use Rattle.vlog_tree.specs.Rows.{Runs, start, cycle, given, is_one, outs_of}
use Rattle.vlog_tree.specs.Signals.{declared_port, channels_of}
use Rattle.vlog_tree.specs.Value.{Values, bit}
use Rattle.vlog_tree.proofs.Lemmas.Settling.{each_prefix, each_back}
use Rattle.cycle_sim.specs.Cycles.CycleText.{moved_at, moved_over, none_moved}
use Rattle.block_stage.specs.Machine.Pipeline.{Pipeline}
use Rattle.block_build.specs.Block.{Block, receiver_of}
use Rattle.block_build.specs.Rows.{State, InputRow, reset_machine, reset_state, sender_of, one_row, after_row, state_after, is_ready, offers, received_of, sent_of, moved_in, moved_out}
use Rattle.block_verilog.specs.Drives.{DrivesBlock, ChannelDriven}
use Rattle.block_verilog.specs.Outside.{PortGiven, drive_at, word_offered, room_given, input_row}
use Rattle.block_verilog.specs.Ports.{module_ports}
use Rattle.block_verilog.specs.Widths.{IsInputRow, AreInputRows}
use Rattle.block_verilog.proofs.Lemmas.Outside.{ports_given}
use Rattle.block_verilog.specs.Streams.Streams.{SomeResets, place_of, words_moved}
use Rattle.block_verilog.proofs.OnStreams.OnPlaces.{IsOuterEnd, IsShown, drive_there, shown_there, port_there, moved_there, moved_long, moved_more, shown_within}
use Rattle.block_verilog.proofs.OnStreams.OnRows.{map_long, state_next, resets_alike, resets_before}

-- ---- one row at a channel

pub one_bit : (b : Bool) → is_one (bit b) ≡ b
one_bit true = refl
one_bit false = refl

out_moves : (v : Values) (port : ℕ) (ready : Bool) (offer : Option Word) (words : List Word) → v (port + 1) ≡ bit (is_some offer) → ((w : Word) → offer ≡ Some w → v port ≡ w)
    → moved_at false (Ready ready) (shown.Output (v port) (is_one (v (port + 1)))) words ≡ words ++ (if ready then option_to_list offer else [])
out_moves v port ready offer words valid word =
    ap (λ b. moved_at false (Ready ready) (shown.Output (v port) b) words) (ap is_one valid ∙ one_bit (is_some offer)) ∙ at ready offer word
  where
    at : (r : Bool) (o : Option Word) → ((w : Word) → o ≡ Some w → v port ≡ w) → moved_at false (Ready r) (shown.Output (v port) (is_some o)) words ≡ words ++ (if r then option_to_list o else [])
    at true None h = sym (append-nil words)
    at true (Some w) h = ap (λ x. words ++ x ∷ []) (h w refl)
    at false None h = sym (append-nil words)
    at false (Some w) h = sym (append-nil words)

in_moves : (v : Values) (port : ℕ) (ready : Bool) (offer : Option Word) (words : List Word) → v (port + 2) ≡ bit ready
    → moved_at false (Offer offer) (shown.Input (is_one (v (port + 2)))) words ≡ words ++ (if ready then option_to_list offer else [])
in_moves v port ready offer words driven =
    ap (λ b. moved_at false (Offer offer) (shown.Input b) words) (ap is_one driven ∙ one_bit ready) ∙ at ready offer
  where
    at : (r : Bool) (o : Option Word) → moved_at false (Offer o) (shown.Input r) words ≡ words ++ (if r then option_to_list o else [])
    at true None = sym (append-nil words)
    at true (Some w) = refl
    at false None = sym (append-nil words)
    at false (Some w) = sym (append-nil words)

-- ---- and in the block

-- the words that a block moved at an end of a channel
abbrev pub IsMoved : Block → State → ℕ → Ends → List Word → Type 0
IsMoved block state c ends.Input words = words ≡ moved_in block state c
IsMoved block state c ends.Output words = words ≡ moved_out block state c
IsMoved block state c (ends.Inner depth) words = Unit {0}

-- what its law says of a row
abbrev pub IsMovedOn : Block → State → InputRow → ℕ → Ends → Type 0
IsMovedOn block state row c ends.Input = moved_in block (after_row block state row) c ≡ moved_in block state c ++ (if is_ready block state row c then option_to_list (row.ports.valid_word c) else [])
IsMovedOn block state row c ends.Output = moved_out block (after_row block state row) c ≡ moved_out block state c ++ (if row.ports.room c then option_to_list (offers block state row c) else [])
IsMovedOn block state row c (ends.Inner depth) = Unit {0}

none_received : (block : Block) (c : ℕ) → moved_in block (reset_state block) c ≡ []
none_received block c = ap (λ o. received_of o c) (slice_get-map reset_machine block.pipelines (receiver_of block c)) ∙ none (slice_get block.pipelines (receiver_of block c))
  where
    none : (o : Option Pipeline) → received_of (option_map reset_machine o) c ≡ []
    none None = refl
    none (Some q) = refl

none_sent : (block : Block) (c : ℕ) → moved_out block (reset_state block) c ≡ []
none_sent block c = ap (λ o. sent_of o c) (slice_get-map reset_machine block.pipelines (sender_of block c)) ∙ none (slice_get block.pipelines (sender_of block c))
  where
    none : (o : Option Pipeline) → sent_of (option_map reset_machine o) c ≡ []
    none None = refl
    none (Some q) = refl

at_reset : (block : Block) (state : State) (row : InputRow) → row.rst ≡ true → after_row block state row ≡ reset_state block
at_reset block state row e = ap (λ b. if b then reset_state block else one_row block state row.ports) e

-- what goes through a channel in a row
abbrev Goes : Bool → Option Drive → Option Shown → List Word → List Word → Type 0
Goes reset drive out words more = (d : Drive) (s : Shown) → drive ≡ Some d → out ≡ Some s → more ≡ moved_at reset d s words

moves_on : (e : Ends) (reset : Bool) (block : Block) (state : State) (row : InputRow) (c : ℕ) (words more : List Word) (v : Values) (channel : Channel) (port : ℕ) (drive : Option Drive) (out : Option Shown)
    → row.rst ≡ reset → Goes reset drive out words more → PortGiven v channel e port drive → IsShown v e port out → row.ports.valid_word c ≡ word_offered drive → row.ports.room c ≡ room_given drive
    → (reset ≡ false → ChannelDriven v e port (is_ready block state row c) (offers block state row c) × IsMovedOn block state row c e × IsMoved block state c e words) → IsMoved block (after_row block state row) c e more
moves_on ends.Input true block state row c words more v channel port drive out rst goes given is valid room known =
    goes (Offer given.0) _ given.1 is ∙ sym (ap (λ s. moved_in block s c) (at_reset block state row rst) ∙ none_received block c)
moves_on ends.Input false block state row c words more v channel port drive out rst goes given is valid room known =
    let k = known refl in
    goes (Offer given.0) _ given.1 is
    ∙ in_moves v port (is_ready block state row c) given.0 words k.0
    ∙ ap₂ (λ ws o. ws ++ (if is_ready block state row c then option_to_list o else [])) k.2 (sym (valid ∙ ap word_offered given.1))
    ∙ sym k.1
moves_on ends.Output true block state row c words more v channel port drive out rst goes given is valid room known =
    goes (Ready given.0) _ given.1 is ∙ sym (ap (λ s. moved_out block s c) (at_reset block state row rst) ∙ none_sent block c)
moves_on ends.Output false block state row c words more v channel port drive out rst goes given is valid room known =
    let k = known refl in
    goes (Ready given.0) _ given.1 is
    ∙ out_moves v port given.0 (offers block state row c) words k.0.0 k.0.1
    ∙ ap₂ (λ ws b. ws ++ (if b then option_to_list (offers block state row c) else [])) k.2 (sym (room ∙ ap room_given given.1))
    ∙ sym k.1
moves_on (ends.Inner depth) reset block state row c words more v channel port drive out rst goes given is valid room known = tt

-- ---- over rows

module _ (m : VModule) (channels : List Channel) (block : Block) (power : State) (drives : DrivesBlock m channels block) (are : map declared_port m.ports ≡ module_ports channels) where
  abbrev state : List Row → State
  state rows = state_after block power (map (input_row channels) rows)

  -- the block's laws, at rows of the module
  abbrev pub RowLaws : Type 0
  RowLaws = (rows : List Row) (row : Row) → SomeResets rows → row.reset ≡ false → (c : ℕ) (channel : Channel) → slice_get channels c ≡ Some channel → IsMovedOn block (state rows) (input_row channels row) c channel.ends

  pub record AllMoved (rows : List Row) (outs : List Outs) : Type 0 where
    pub rows_long : length outs ≡ length rows
    pub long : length (moved_over rows outs (none_moved m)) ≡ length (channels_of m)
    pub words : SomeResets rows → (c : ℕ) (channel : Channel) → slice_get channels c ≡ Some channel → IsMoved block (state rows) c channel.ends (words_moved m channels rows outs c)

  -- a row more
  module _ (laws : RowLaws) (rows : List Row) (outs : List Outs) (held values : Values) (row : Row) (run : Runs m rows outs held) (now : IsNow m held (given m row) values) (fit : AreInputRows m rows) (fits : IsInputRow m row) (before : AllMoved rows outs) where
    goes_through : (c : ℕ) (channel : Channel) → slice_get channels c ≡ Some channel → IsOuterEnd channel.ends
        → Goes row.reset (drive_at channels row.channels c) (slice_get (outs_of m values).channels (place_of channels c)) (words_moved m channels rows outs c) (words_moved m channels (rows ++ row ∷ []) (outs ++ outs_of m values ∷ []) c)
    goes_through c channel there outer d s drive out =
        let within = shown_within m values (place_of channels c) s out in
        let long = before.long in
        let all = moved_more rows outs row (outs_of m values) (none_moved m) before.rows_long in
        ap (λ moved. get_or moved (place_of channels c) []) all
        ∙ moved_there row.reset row.channels (outs_of m values).channels (moved_over rows outs (none_moved m)) (place_of channels c) d s (sym (drive_there channels row.channels c channel there outer) ∙ drive) out (omega (arith, within, long))

    words_more : SomeResets (rows ++ row ∷ []) → (c : ℕ) (channel : Channel) → slice_get channels c ≡ Some channel → IsMoved block (state (rows ++ row ∷ [])) c channel.ends (words_moved m channels (rows ++ row ∷ []) (outs ++ outs_of m values ∷ []) c)
    words_more resets c channel there =
        subst (λ s. IsMoved block s c channel.ends (words_moved m channels (rows ++ row ∷ []) (outs ++ outs_of m values ∷ []) c)) (sym (state_next block power channels rows row)) (at channel.ends refl)
      where
        outer : IsOuterEnd channel.ends → IsMoved block (after_row block (state rows) (input_row channels row)) c channel.ends (words_moved m channels (rows ++ row ∷ []) (outs ++ outs_of m values ∷ []) c)
        outer is =
            let port = port_there 2 channels c channel there in
            moves_on channel.ends row.reset block (state rows) (input_row channels row) c (words_moved m channels rows outs c) (words_moved m channels (rows ++ row ∷ []) (outs ++ outs_of m values ∷ []) c) values channel port.0
            (drive_at channels row.channels c) (slice_get (outs_of m values).channels (place_of channels c)) refl (goes_through c channel there is) (ports_given m row held values channels are fits.fits now c channel port.0 there port.1)
            (shown_there m values channels are c channel port.0 there port.1) refl refl (λ off.
            let reset = resets_before rows row resets off in (
              drives.behind_reset power rows outs held fit run (resets_alike channels rows reset) row values fits now c channel port.0 there port.1,
              laws rows row reset off c channel there,
              before.words reset c channel there,
            ))

        at : (e : Ends) → channel.ends ≡ e → IsMoved block (after_row block (state rows) (input_row channels row)) c channel.ends (words_moved m channels (rows ++ row ∷ []) (outs ++ outs_of m values ∷ []) c)
        at (ends.Inner depth) e = subst (λ x. IsMoved block (after_row block (state rows) (input_row channels row)) c x (words_moved m channels (rows ++ row ∷ []) (outs ++ outs_of m values ∷ []) c)) (sym e) tt
        at ends.Input e = outer (subst IsOuterEnd (sym e) tt)
        at ends.Output e = outer (subst IsOuterEnd (sym e) tt)

    all_more : AllMoved (rows ++ row ∷ []) (outs ++ outs_of m values ∷ [])
    all_more =
        let more = length-append rows (row ∷ []) in
        let shown_more = length-append outs (outs_of m values ∷ []) in
        let same = before.rows_long in
        record {
          rows_long = omega (arith, more, shown_more, same);
          long = ap length (moved_more rows outs row (outs_of m values) (none_moved m) before.rows_long) ∙ moved_long row.reset row.channels (outs_of m values).channels (moved_over rows outs (none_moved m)) ∙ before.long;
          words = words_more;
        }

  pub all_moved : RowLaws → (rows : List Row) (outs : List Outs) (held : Values) → AreInputRows m rows → Runs m rows outs held → AllMoved rows outs
  all_moved laws _ _ _ fit start = record { rows_long = refl; long = map_long _ (channels_of m); words = λ resets c channel there. absurd (let never : false ≡ true = resets in cc) }
  all_moved laws _ _ _ fit (cycle rows outs held values row run now) =
      let front = each_prefix (IsInputRow m) rows (row ∷ []) fit in
      let last = each_back (IsInputRow m) rows (row ∷ []) fit in
      all_more laws rows outs held values row run now front last.0 (all_moved laws rows outs held front run)
