-- Words that are offered stand until they are taken, and rows that reset drive nothing.
use Rattle.std.proofs.Common.{◌≡◌, ℕ, ◌+◌, Bool, true, false, List, [], ◌∷◌, ◌++◌, map, refl, sym, ap, ap₂, ◌∙◌, subst}
use Rattle.std.specs.Prelude.{slice_get, is_some, Option, Some, None}
use Rattle.xb_bits.specs.Word.{Word}
use Rattle.net_core.specs.declared.net.Chan.{Chan}
use Rattle.net_core.specs.declared.net.Kind.TheVariants as kind
use Rattle.ir_tree.specs.declared.package.Channel.{Channel}
use Rattle.ir_tree.specs.declared.package.Ends.{Ends}
use Rattle.ir_tree.specs.declared.package.Ends.TheVariants as ends
use Rattle.ir_tree.specs.declared.package.Package.{Package}
use Rattle.ir_tree.specs.Networks.{chan_of, kind_of}
use Rattle.vlog_tree.specs.declared.module.VModule.{VModule}
use Rattle.vlog_tree.specs.declared.row.Drive.TheVariants.{Ready}
use Rattle.vlog_tree.specs.declared.row.Outs.{Outs}
use Rattle.vlog_tree.specs.declared.row.Row.{Row}
use Rattle.vlog_tree.specs.declared.row.Shown.{Shown}
use Rattle.vlog_tree.specs.declared.row.Shown.TheVariants as shown
use Rattle.vlog_tree.specs.Rows.{Runs, is_one}
use Rattle.vlog_tree.specs.Value.{Values, bit}
use Rattle.vlog_tree.proofs.Lemmas.Settling.{each_prefix, each_back}
use Rattle.block_build.specs.Block.{Block, IsBlock}
use Rattle.block_build.specs.Rows.{State, InputRow, HasReset, reset_state, state_after, after_row, is_ready, offers}
use Rattle.block_verilog.specs.Drives.{ChannelDriven}
use Rattle.block_verilog.specs.Outside.{drive_at, room_given, input_row}
use Rattle.block_verilog.specs.Widths.{IsInputRow, AreInputRows}
use Rattle.block_verilog.specs.Schedule.Pipelines.{block_of}
use Rattle.block_verilog.specs.Streams.Streams.{IsHardwareOf, SomeResets, place_of}
use Rattle.block_verilog.proofs.OnStreams.Moving.{one_bit}
use Rattle.block_verilog.proofs.OnStreams.OnNetworks.{chan_there}
use Rattle.block_verilog.proofs.OnStreams.OnPlaces.{IsShown, IsOuterEnd, drive_there, shown_there, port_there}
use Rattle.block_verilog.specs.Modules.{IsModuleOf}
use Rattle.block_verilog.proofs.OnStreams.OnRows.{LastRow, last_row, two_more, state_next, resets_alike, resets_before, resets_more}

-- what a module shows at a channel in its last row, beside what the block drives there
record LastShown (m : VModule) (ir : Package) (block : Block) (power : State) (rows : List Row) (row : Row) (now : Outs) (c : ℕ) (e : Ends) : Type 0 where
  pub values : Values
  pub port : ℕ
  pub shown_is : IsShown values e port (slice_get now.channels (place_of ir.channels c))
  pub driven : let state = state_after block power (map (input_row ir.channels) rows) in ChannelDriven values e port (is_ready block state (input_row ir.channels row) c) (offers block state (input_row ir.channels row) c)

last_shown : (m : VModule) (ir : Package) (schedules : List (List ℕ)) (depths : List ℕ) → IsHardwareOf m ir schedules depths → (power : State) (rows : List Row) (row : Row) (outs : List Outs) (now : Outs) (held : Values)
    → AreInputRows m (rows ++ row ∷ []) → LastRow m rows row outs now held → SomeResets rows → (c : ℕ) (channel : Channel) → slice_get ir.channels c ≡ Some channel
    → LastShown m ir (block_of ir schedules depths) power rows row now c channel.ends
last_shown m ir schedules depths is power rows row outs now held fit last resets c channel there =
    let port = port_there 2 ir.channels c channel there in
    let front = each_prefix (IsInputRow m) rows (row ∷ []) fit in
    let own = each_back (IsInputRow m) rows (row ∷ []) fit in
    record {
      values = last.values;
      port = port.0;
      shown_is = subst (λ o. IsShown last.values channel.ends port.0 (slice_get o.channels (place_of ir.channels c))) (sym last.shown) (shown_there m last.values ir.channels is.made.ports c channel port.0 there port.1);
      driven = is.made.drives.behind_reset power rows outs last.before front last.runs (resets_alike ir.channels rows resets) row last.values own.0 last.is_now c channel port.0 there port.1;
    }

-- ---- rows that reset

-- what it shows in a row that resets, whatever its registers hold
record LastReset (m : VModule) (ir : Package) (now : Outs) (c : ℕ) (e : Ends) : Type 0 where
  pub values : Values
  pub port : ℕ
  pub shown_is : IsShown values e port (slice_get now.channels (place_of ir.channels c))
  pub driven : ChannelDriven values e port false None

last_reset : (m : VModule) (ir : Package) (schedules : List (List ℕ)) (depths : List ℕ) → IsModuleOf m ir schedules depths → (rows : List Row) (row : Row) (outs : List Outs) (now : Outs) (held : Values)
    → AreInputRows m (rows ++ row ∷ []) → LastRow m rows row outs now held → row.reset ≡ true → (c : ℕ) (channel : Channel) → slice_get ir.channels c ≡ Some channel → LastReset m ir now c channel.ends
last_reset m ir schedules depths is rows row outs now held fit last on c channel there =
    let port = port_there 2 ir.channels c channel there in
    let front = each_prefix (IsInputRow m) rows (row ∷ []) fit in
    let own = each_back (IsInputRow m) rows (row ∷ []) fit in
    record {
      values = last.values;
      port = port.0;
      shown_is = subst (λ o. IsShown last.values channel.ends port.0 (slice_get o.channels (place_of ir.channels c))) (sym last.shown) (shown_there m last.values ir.channels is.ports c channel port.0 there port.1);
      driven = is.drives.in_reset rows outs last.before front last.runs row last.values own.0 last.is_now on c channel port.0 there port.1;
    }

pub input_is_not_ready : (m : VModule) (ir : Package) (schedules : List (List ℕ)) (depths : List ℕ) → IsModuleOf m ir schedules depths
    → (rows : List Row) (row : Row) (outs : List Outs) (now : Outs) (held : Values) → AreInputRows m (rows ++ row ∷ []) → Runs m (rows ++ row ∷ []) (outs ++ now ∷ []) held → row.reset ≡ true
    → (c : ℕ) (channel : Channel) → slice_get ir.channels c ≡ Some channel → channel.ends ≡ ends.Input → slice_get now.channels (place_of ir.channels c) ≡ Some (shown.Input false)
input_is_not_ready m ir schedules depths is rows row outs now held fit run on c channel there e =
    let last = subst (LastReset m ir now c) e (last_reset m ir schedules depths is rows row outs now held fit (last_row m rows row outs now held run) on c channel there) in
    last.shown_is ∙ ap (λ b. Some (shown.Input b)) (ap is_one last.driven ∙ one_bit false)

pub output_is_not_valid : (m : VModule) (ir : Package) (schedules : List (List ℕ)) (depths : List ℕ) → IsModuleOf m ir schedules depths
    → (rows : List Row) (row : Row) (outs : List Outs) (now : Outs) (held : Values) → AreInputRows m (rows ++ row ∷ []) → Runs m (rows ++ row ∷ []) (outs ++ now ∷ []) held → row.reset ≡ true
    → (c : ℕ) (channel : Channel) → slice_get ir.channels c ≡ Some channel → channel.ends ≡ ends.Output → (w : Word) × (slice_get now.channels (place_of ir.channels c) ≡ Some (shown.Output w false))
output_is_not_valid m ir schedules depths is rows row outs now held fit run on c channel there e =
    let last = subst (LastReset m ir now c) e (last_reset m ir schedules depths is rows row outs now held fit (last_row m rows row outs now held run) on c channel there) in
    (last.values last.port, last.shown_is ∙ ap (λ b. Some (shown.Output (last.values last.port) b)) (ap is_one last.driven.0 ∙ one_bit false))

-- ---- what stands

abbrev pub StandsLaw : Type 0
StandsLaw =
    (block : Block) → IsBlock block → (power : State) (rows : List InputRow) → HasReset rows → let state = state_after block power rows in
    (row next : InputRow) (c : ℕ) (chan : Chan) (w : Word) → slice_get block.chans c ≡ Some chan → chan.kind ≡ kind.Output
    → offers block state row c ≡ Some w → row.ports.room c ≡ false → next.rst ≡ false → offers block (after_row block state row) next c ≡ Some w

-- a word that is shown is the one that the block offers
offer_shown : (v : Values) (port : ℕ) (s : Option Shown) (offer : Option Word) (w : Word) → IsShown v ends.Output port s → v (port + 1) ≡ bit (is_some offer) → ((x : Word) → offer ≡ Some x → v port ≡ x) → s ≡ Some (shown.Output w true) → offer ≡ Some w
offer_shown v port s offer w is valid word at =
    let both : Some (shown.Output (v port) (is_one (v (port + 1)))) ≡ Some (shown.Output w true) = sym is ∙ at in
    let same : v port ≡ w = cc in
    let one : is_one (v (port + 1)) ≡ true = cc in
    there offer word (sym (ap is_one valid ∙ one_bit (is_some offer)) ∙ one) same
  where
    there : (o : Option Word) → ((x : Word) → o ≡ Some x → v port ≡ x) → is_some o ≡ true → v port ≡ w → o ≡ Some w
    there None h e d = absurd (let never : false ≡ true = e in cc)
    there (Some x) h e d = ap Some (sym (h x refl) ∙ d)

-- and one that it offers is shown
shown_offer : (v : Values) (port : ℕ) (s : Option Shown) (offer : Option Word) (w : Word) → IsShown v ends.Output port s → v (port + 1) ≡ bit (is_some offer) → ((x : Word) → offer ≡ Some x → v port ≡ x) → offer ≡ Some w → s ≡ Some (shown.Output w true)
shown_offer v port s offer w is valid word e = is ∙ ap₂ (λ x b. Some (shown.Output x b)) (word w e) (ap is_one valid ∙ one_bit (is_some offer) ∙ ap is_some e)

word_stands_on : StandsLaw → (m : VModule) (ir : Package) (schedules : List (List ℕ)) (depths : List ℕ) → IsHardwareOf m ir schedules depths → IsBlock (block_of ir schedules depths)
    → (rows : List Row) (row next : Row) (outs : List Outs) (now later : Outs) (held : Values) → AreInputRows m (rows ++ row ∷ next ∷ []) → Runs m (rows ++ row ∷ next ∷ []) (outs ++ now ∷ later ∷ []) held → SomeResets rows → next.reset ≡ false
    → (c : ℕ) (channel : Channel) (w : Word) → slice_get ir.channels c ≡ Some channel → channel.ends ≡ ends.Output
    → slice_get row.channels (place_of ir.channels c) ≡ Some (Ready false) → slice_get now.channels (place_of ir.channels c) ≡ Some (shown.Output w true) → slice_get later.channels (place_of ir.channels c) ≡ Some (shown.Output w true)
word_stands_on law m ir schedules depths is legal rows row next outs now later held fit run resets off c channel w there e refused offered =
    let fit' = subst (AreInputRows m) (two_more rows row next) fit in
    let run' = subst (λ os. Runs m ((rows ++ row ∷ []) ++ next ∷ []) os held) (two_more outs now later) (subst (λ rs. Runs m rs (outs ++ now ∷ later ∷ []) held) (two_more rows row next) run) in
    let last = last_row m (rows ++ row ∷ []) next (outs ++ now ∷ []) later held run' in
    let before = last_row m rows row outs now last.before last.runs in
    let front = each_prefix (IsInputRow m) (rows ++ row ∷ []) (next ∷ []) fit' in
    let first = at_output (λ x. LastShown m ir block power rows row now c x) (last_shown m ir schedules depths is power rows row outs now last.before front before resets c channel there) in
    let second = at_output (λ x. LastShown m ir block power (rows ++ row ∷ []) next later c x) (last_shown m ir schedules depths is power (rows ++ row ∷ []) next (outs ++ now ∷ []) later held fit' last (resets_more rows row resets) c channel there) in
    let offer = offer_shown first.values first.port (slice_get now.channels (place_of ir.channels c)) _ w first.shown_is first.driven.0 first.driven.1 offered in
    let room : room_given (drive_at ir.channels row.channels c) ≡ false = ap room_given (drive_there ir.channels row.channels c channel there (subst IsOuterEnd (sym e) tt) ∙ refused) in
    let stands = law block legal power (map (input_row ir.channels) rows) (resets_alike ir.channels rows resets) (input_row ir.channels row) (input_row ir.channels next) c (chan_of channel) w (chan_there ir.channels c channel there) (ap kind_of e) offer room off in
    let later_offer = ap (λ s. offers block s (input_row ir.channels next) c) (state_next block power ir.channels rows row) ∙ stands in
    shown_offer second.values second.port (slice_get later.channels (place_of ir.channels c)) _ w second.shown_is second.driven.0 second.driven.1 later_offer
  where
    block : Block
    block = block_of ir schedules depths

    power : State
    power = reset_state block

    at_output : (P : Ends → Type 0) → P channel.ends → P ends.Output
    at_output P h = subst P e h

-- the row with the offer doesn't reset, so that one before it does
pub word_stands : StandsLaw → (m : VModule) (ir : Package) (schedules : List (List ℕ)) (depths : List ℕ) → IsHardwareOf m ir schedules depths → IsBlock (block_of ir schedules depths)
    → (rows : List Row) (row next : Row) (outs : List Outs) (now later : Outs) (held : Values) → AreInputRows m (rows ++ row ∷ next ∷ []) → Runs m (rows ++ row ∷ next ∷ []) (outs ++ now ∷ later ∷ []) held → SomeResets (rows ++ row ∷ next ∷ []) → next.reset ≡ false
    → (c : ℕ) (channel : Channel) (w : Word) → slice_get ir.channels c ≡ Some channel → channel.ends ≡ ends.Output
    → slice_get row.channels (place_of ir.channels c) ≡ Some (Ready false) → slice_get now.channels (place_of ir.channels c) ≡ Some (shown.Output w true) → slice_get later.channels (place_of ir.channels c) ≡ Some (shown.Output w true)
word_stands law m ir schedules depths is legal rows row next outs now later held fit run resets off c channel w there e refused offered = by_reset row.reset refl
  where
    reset_now : SomeResets (rows ++ row ∷ [])
    reset_now = resets_before (rows ++ row ∷ []) next (subst SomeResets (two_more rows row next) resets) off

    by_reset : (b : Bool) → row.reset ≡ b → slice_get later.channels (place_of ir.channels c) ≡ Some (shown.Output w true)
    by_reset false quiet = word_stands_on law m ir schedules depths is legal rows row next outs now later held fit run (resets_before rows row reset_now quiet) off c channel w there e refused offered
    by_reset true on =
        let fit' = subst (AreInputRows m) (two_more rows row next) fit in
        let run' = subst (λ os. Runs m ((rows ++ row ∷ []) ++ next ∷ []) os held) (two_more outs now later) (subst (λ rs. Runs m rs (outs ++ now ∷ later ∷ []) held) (two_more rows row next) run) in
        let last = last_row m (rows ++ row ∷ []) next (outs ++ now ∷ []) later held run' in
        let front = each_prefix (IsInputRow m) (rows ++ row ∷ []) (next ∷ []) fit' in
        let none = output_is_not_valid m ir schedules depths is.made rows row outs now last.before front last.runs on c channel there e in
        absurd (clash none.0 (sym none.1 ∙ offered))
      where
        clash : (x : Word) → Some (shown.Output x false) ≡ Some (shown.Output w true) → ⊥
        clash x f = cc
