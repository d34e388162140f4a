-- A module whose wires and registers are a block's in each row drives what the block does.
use Rattle.std.proofs.Common.{◌≡◌, ℕ, zero, suc, ◌<◌, ◌≤◌, Bool, true, false, List, [], ◌∷◌, ◌++◌, length, map, refl, sym, ap, ap₂, ◌∙◌, subst, ◌⊎◌, inl, inr, arith}
use Rattle.std.specs.Prelude.{◌==◌, if◌then◌else◌, not, slice_get, is_some, Option, Some, None}
use Rattle.std.proofs.lemmas.Bool.{cases_lt, eq-eqb, ne_eqb}
use Rattle.std.proofs.lemmas.List.{length-append}
use Rattle.xb_bits.specs.Word.{Word}
use Rattle.ir_tree.specs.declared.package.Channel.{Channel}
use Rattle.ir_tree.specs.declared.package.Ends.{Ends}
use Rattle.ir_tree.specs.declared.package.Ends.TheVariants as ends
use Rattle.vlog_tree.specs.declared.expression.Atom.{Atom}
use Rattle.vlog_tree.specs.declared.module.VModule.{VModule}
use Rattle.vlog_tree.specs.declared.row.Outs.{Outs}
use Rattle.vlog_tree.specs.declared.row.Row.{Row}
use Rattle.vlog_tree.specs.Meaning.{IsNow, registers_next}
use Rattle.vlog_tree.specs.Rows.{Runs, start, cycle, given, zeros}
use Rattle.vlog_tree.specs.Value.{Values, bit, atom_value}
use Rattle.vlog_tree.proofs.Lemmas.Settling.{each_prefix, each_back}
use Rattle.net_core.specs.declared.net.Site.{Site}
use Rattle.block_build.specs.Block.{Block, IsBlock, receiver_of}
use Rattle.block_build.specs.Rows.{State, InputRow, HasReset, state_after, sender_of, is_ready, offers}
use Rattle.block_build.specs.declared.netlist.fifos.ChannelEnds.{ChannelEnds}
use Rattle.block_build.specs.Netlist.Blocks.{BlockNets, ChannelNets, PipelineNets, SomeMade, ReaderMade, WriterMade, BlockMade, BlockRow, BlockNext, ChannelShown, rows_before}
use Rattle.block_build.specs.Netlist.Ends.{some_wires, some_net, all_sites, end_requests}
use Rattle.block_build.specs.Netlist.Holding.{PipelineMade}
use Rattle.block_build.specs.Netlist.Order.{CarriesWord}
use Rattle.block_build.specs.Netlist.Stages.{StageNets, AreStages}
use Rattle.block_build.specs.Netlist.Wires.{AreWired}
use Rattle.vlog_tree.specs.Signals.{declared_widths}
use Rattle.block_verilog.specs.Drives.{ChannelDriven, DrivesBlock}
use Rattle.block_verilog.specs.Outside.{input_row, PortDriven}
use Rattle.block_verilog.specs.Ports.{ports_from}
use Rattle.block_verilog.specs.Widths.{IsInputRow, AreInputRows}

-- the law of netlists
abbrev pub NetlistsDrive : Type 0
NetlistsDrive =
    (block : Block) → IsBlock block → (power : State) (nets : BlockNets) (run : Atom) (row : ℕ → InputRow) (v : ℕ → Values) (n : ℕ)
    → ((k : ℕ) → k ≤ n → BlockRow (v k) run block nets (row k)) → ((k : ℕ) → k < n → BlockNext (v k) (v (suc k)) block nets (row k).rst)
    → HasReset (rows_before row n) → (c : ℕ)
    → let state = state_after block power (rows_before row n) in
    ChannelShown (v n) (nets.ends c) (is_ready block state (row n) c) (offers block state (row n) c)

-- the law of stages in reset
abbrev pub NothingIsAsserted : Type 0
NothingIsAsserted =
    (v : Values) (run : Atom) (stages : List StageNets) → AreStages v run stages → atom_value v run ≡ bit false
    → (sites : List Site) (chan : ℕ) (sends : Bool) (sent : ℕ → Atom) (k : ℕ) (zeros : Atom) → let requests = end_requests sites chan sends sent 0 (all_sites stages) in
    AreWired v k (some_wires k zeros requests) → atom_value v zeros ≡ bit false → atom_value v (some_net k zeros requests) ≡ bit false

-- what is to be shown of a module: it has the block's wires in each row, its registers go on as the block's, and its ports are driven
pub record IsNetlistOf (m : VModule) (channels : List Channel) (block : Block) (nets : BlockNets) (run : Atom) : Type 0 where
  pub row : (held values : Values) (row : Row) → IsInputRow m row → ((s : ℕ) → CarriesWord (declared_widths m) held s) → IsNow m held (given m row) values → BlockRow values run block nets (input_row channels row)
  pub next : (held values values' : Values) (row row' : Row) → IsInputRow m row → IsInputRow m row' → ((s : ℕ) → CarriesWord (declared_widths m) held s)
      → IsNow m held (given m row) values → IsNow m (registers_next m values held) (given m row') values' → BlockNext values values' block nets row.reset
  pub ports : (held values : Values) (row : Row) → IsNow m held (given m row) values → (c : ℕ) (channel : Channel) (port : ℕ) → slice_get channels c ≡ Some channel → slice_get (ports_from 2 channels) c ≡ Some port
      → PortDriven values channel.ends port (record { ready = (nets.ends c).ready; offered = (nets.ends c).offered; word = (nets.ends c).offered_word })
  -- registers carry numbers of their widths over rows
  pub carry : (rows : List Row) (outs : List Outs) (held : Values) → AreInputRows m rows → Runs m rows outs held → (s : ℕ) → CarriesWord (declared_widths m) held s

-- ---- one more

abbrev with_one : {A : Type 0} → ℕ → A → (ℕ → A) → ℕ → A
with_one n x f k = if n == k then x else f k

one_here : {A : Type 0} (n : ℕ) (x : A) (f : ℕ → A) → with_one n x f n ≡ x
one_here n x f = ap (λ b. if b then x else f n) (eq-eqb n n refl)

one_before : {A : Type 0} (n : ℕ) (x : A) (f : ℕ → A) (k : ℕ) → k < n → with_one n x f k ≡ f k
one_before n x f k l = ap (λ b. if b then x else f k) (ne_eqb n k (λ e. absurd (omega (arith, l, e))))

before_alike : (f g : ℕ → InputRow) (n : ℕ) → ((k : ℕ) → k < n → f k ≡ g k) → rows_before f n ≡ rows_before g n
before_alike f g zero h = refl
before_alike f g (suc n) h = ap₂ (λ rows row. rows ++ row ∷ []) (before_alike f g n (λ k l. h k (omega (arith, l)))) (h n (omega arith))

map_behind : {A B : Type 0} (f : A → B) (xs : List A) (x : A) → map f (xs ++ x ∷ []) ≡ map f xs ++ f x ∷ []
map_behind f [] x = refl
map_behind f (y ∷ xs) x = ap (λ ys. f y ∷ ys) (map_behind f xs x)

-- ---- the rows of a run

module _ (m : VModule) (channels : List Channel) (block : Block) (nets : BlockNets) (run : Atom) where
  record History (rows : List Row) (held : Values) : Type 0 where
    pub values : ℕ → Values
    pub row : ℕ → Row
    pub rows_are : rows_before (λ k. input_row channels (row k)) (length rows) ≡ map (input_row channels) rows
    pub made : (k : ℕ) → k < length rows → BlockRow (values k) run block nets (input_row channels (row k))
    pub nexts : (k : ℕ) → suc k < length rows → BlockNext (values k) (values (suc k)) block nets (row k).reset
    pub last : (k : ℕ) → suc k ≡ length rows → (values' : Values) (row' : Row) → IsInputRow m row' → IsNow m held (given m row') values' → BlockNext (values k) values' block nets (row k).reset

  -- with a row more
  module _ (is : IsNetlistOf m channels block nets run) (rows : List Row) (held : Values) (h : History rows held) (carried : (s : ℕ) → CarriesWord (declared_widths m) held s) (new : Row) (v : Values) (fits : IsInputRow m new) (now : IsNow m held (given m new) v) where
    abbrev values_more : ℕ → Values
    values_more = with_one (length rows) v h.values

    abbrev row_more : ℕ → Row
    row_more = with_one (length rows) new h.row

    more_rows : rows_before (λ k. input_row channels (row_more k)) (length rows) ≡ map (input_row channels) rows
    more_rows = before_alike (λ k. input_row channels (row_more k)) (λ k. input_row channels (h.row k)) (length rows) (λ k l. ap (input_row channels) (one_before (length rows) new h.row k l)) ∙ h.rows_are

    here : BlockRow (values_more (length rows)) run block nets (input_row channels (row_more (length rows)))
    here =
        subst (λ w. BlockRow w run block nets (input_row channels (row_more (length rows)))) (sym (one_here (length rows) v h.values))
        (subst (λ r. BlockRow v run block nets (input_row channels r)) (sym (one_here (length rows) new h.row)) (is.row held v new fits carried now))

    made_more : (k : ℕ) → k ≤ length rows → BlockRow (values_more k) run block nets (input_row channels (row_more k))
    made_more k l = at (cases_lt k (length rows))
      where
        at : (k < length rows) ⊎ (length rows ≤ k) → BlockRow (values_more k) run block nets (input_row channels (row_more k))
        at (inl less) =
            subst (λ w. BlockRow w run block nets (input_row channels (row_more k))) (sym (one_before (length rows) v h.values k less))
            (subst (λ r. BlockRow (h.values k) run block nets (input_row channels r)) (sym (one_before (length rows) new h.row k less)) (h.made k less))
        at (inr past) = let e : length rows ≡ k = omega (arith, l, past) in subst (λ i. BlockRow (values_more i) run block nets (input_row channels (row_more i))) e here

    nexts_more : (k : ℕ) → k < length rows → BlockNext (values_more k) (values_more (suc k)) block nets (row_more k).reset
    nexts_more k l =
        subst (λ w. BlockNext w (values_more (suc k)) block nets (row_more k).reset) (sym (one_before (length rows) v h.values k l))
        (subst (λ (r : Row). BlockNext (h.values k) (values_more (suc k)) block nets r.reset) (sym (one_before (length rows) new h.row k l)) (at (cases_lt (suc k) (length rows))))
      where
        at : (suc k < length rows) ⊎ (length rows ≤ suc k) → BlockNext (h.values k) (values_more (suc k)) block nets (h.row k).reset
        at (inl less) = subst (λ w. BlockNext (h.values k) w block nets (h.row k).reset) (sym (one_before (length rows) v h.values (suc k) less)) (h.nexts k less)
        at (inr past) =
            let e : suc k ≡ length rows = omega (arith, l, past) in
            subst (λ i. BlockNext (h.values k) (values_more i) block nets (h.row k).reset) (sym e)
            (subst (λ w. BlockNext (h.values k) w block nets (h.row k).reset) (sym (one_here (length rows) v h.values)) (h.last k e v new fits now))

    history_more : History (rows ++ new ∷ []) (registers_next m v held)
    history_more =
        let long : length (rows ++ new ∷ []) ≡ suc (length rows) = (let l = length-append rows (new ∷ []) in omega (arith, l)) in
        record {
          values = values_more;
          row = row_more;
          rows_are = ap (rows_before (λ k. input_row channels (row_more k))) long ∙ ap₂ (λ rs r. rs ++ input_row channels r ∷ []) more_rows (one_here (length rows) new h.row) ∙ sym (map_behind (input_row channels) rows new);
          made = λ k l. made_more k (omega (arith, l, long));
          nexts = λ k l. nexts_more k (omega (arith, l, long));
          last = λ k e values' row' fits' now'.
              let same : length rows ≡ k = omega (arith, e, long) in
              subst (λ i. BlockNext (values_more i) values' block nets (row_more i).reset) same
              (subst (λ w. BlockNext w values' block nets (row_more (length rows)).reset) (sym (one_here (length rows) v h.values))
              (subst (λ (r : Row). BlockNext v values' block nets r.reset) (sym (one_here (length rows) new h.row)) (is.next held v values' new row' fits fits' carried now now')));
        }

    -- what is shown in it
    shown_in_row : NetlistsDrive → IsBlock block → (power : State) → HasReset (map (input_row channels) rows) → (c : ℕ)
        → let state = state_after block power (map (input_row channels) rows) in
        ChannelShown v (nets.ends c) (is_ready block state (input_row channels new) c) (offers block state (input_row channels new) c)
    shown_in_row law legal power reset c =
        let shown = law block legal power nets run (λ k. input_row channels (row_more k)) values_more (length rows) made_more nexts_more (subst HasReset (sym more_rows) reset) c in
        subst (λ rs. ChannelShown v (nets.ends c) (is_ready block (state_after block power rs) (input_row channels new) c) (offers block (state_after block power rs) (input_row channels new) c)) more_rows
        (subst (λ r. ChannelShown v (nets.ends c) (is_ready block (state_after block power (rows_before (λ k. input_row channels (row_more k)) (length rows))) (input_row channels r) c) (offers block (state_after block power (rows_before (λ k. input_row channels (row_more k)) (length rows))) (input_row channels r) c)) (one_here (length rows) new h.row)
        (subst (λ w. ChannelShown w (nets.ends c) (is_ready block (state_after block power (rows_before (λ k. input_row channels (row_more k)) (length rows))) (input_row channels (row_more (length rows))) c) (offers block (state_after block power (rows_before (λ k. input_row channels (row_more k)) (length rows))) (input_row channels (row_more (length rows))) c)) (one_here (length rows) v h.values) shown))

  no_rows : History [] (zeros m)
  no_rows = record {
    values = λ k. zeros m;
    row = λ k. record { reset = false; channels = [] };
    rows_are = refl;
    made = λ k l. absurd (omega (arith, l));
    nexts = λ k l. absurd (omega (arith, l));
    last = λ k e values' row' fits' now'. absurd (omega (arith, e));
  }

  history_of : IsNetlistOf m channels block nets run → (rows : List Row) (outs : List Outs) (held : Values) → AreInputRows m rows → Runs m rows outs held → History rows held
  history_of is _ _ _ are start = no_rows
  history_of is _ _ _ are (cycle rows outs held values row run' now) =
      let before = each_prefix (IsInputRow m) rows (row ∷ []) are in
      let last = each_back (IsInputRow m) rows (row ∷ []) are in
      history_more is rows held (history_of is rows outs held before run') (is.carry rows outs held before run') row values last.0 now

driven_by : (v : Values) (e : Ends) (port : ℕ) (end : ChannelEnds) (ready : Bool) (offer : Option Word) → PortDriven v e port end → atom_value v end.ready ≡ bit ready → atom_value v end.offered ≡ bit (is_some offer)
    → ((w : Word) → offer ≡ Some w → atom_value v end.word ≡ w) → ChannelDriven v e port ready offer
driven_by v ends.Input port end ready offer driven r o w = driven ∙ r
driven_by v ends.Output port end ready offer driven r o w = (driven.1 ∙ o, λ x e. driven.0 ∙ w x e)
driven_by v (ends.Inner depth) port end ready offer driven r o w = tt

-- ---- in reset

-- by these values nothing stands at a channel's sides
record NothingShown (v : Values) (end : ChannelNets) : Type 0 where
  pub ready : atom_value v end.ready ≡ bit false
  pub offered : atom_value v end.offered ≡ bit false

some_in_reset : NothingIsAsserted → (v : Values) (run : Atom) (channels : List Channel) (one : PipelineNets) → PipelineMade v run channels one.proc one.nets one.stage one.carried one.pipeline one.stages → atom_value v run ≡ bit false
    → (chan : ℕ) (sends : Bool) (signal : Atom) → SomeMade v one chan sends signal → atom_value v signal ≡ bit false
some_in_reset law v run channels one made off chan sends signal some =
    ap (atom_value v) some.is ∙ law v run one.stages made.control.now off one.pipeline.proc.behavior.sites chan sends one.nets.sent some.from some.zeros some.wired some.none

nothing_in_reset : NothingIsAsserted → (v : Values) (run : Atom) (block : Block) (nets : BlockNets) → BlockMade v run block nets → atom_value v run ≡ bit false → (c : ℕ) → NothingShown v (nets.ends c)
nothing_in_reset law v run block nets made off c = record {
  ready = at_reader (slice_get nets.pipelines (receiver_of block c)) refl (made.readers c);
  offered = at_writer (slice_get nets.pipelines (sender_of block c)) refl (made.writers c);
}
  where
    at_reader : (o : Option PipelineNets) → slice_get nets.pipelines (receiver_of block c) ≡ o → ReaderMade v c (nets.ends c) o → atom_value v (nets.ends c).ready ≡ bit false
    at_reader None there none = none
    at_reader (Some one) there some = some_in_reset law v run nets.channels one (made.made (receiver_of block c) one there) off c false (nets.ends c).ready some

    at_writer : (o : Option PipelineNets) → slice_get nets.pipelines (sender_of block c) ≡ o → WriterMade v c (nets.ends c) o → atom_value v (nets.ends c).offered ≡ bit false
    at_writer None there none = none
    at_writer (Some one) there some = some_in_reset law v run nets.channels one (made.made (sender_of block c) one there) off c true (nets.ends c).offered some.0

no_word : (v : Values) (a : Atom) (w : Word) → None ≡ Some w → atom_value v a ≡ w
no_word v a w e = absurd (cc)

pub netlist_drives : NetlistsDrive → NothingIsAsserted → (m : VModule) (channels : List Channel) (block : Block) (nets : BlockNets) (run : Atom) → IsBlock block → IsNetlistOf m channels block nets run → DrivesBlock m channels block
netlist_drives law nothing_law m channels block nets run legal is = record {
  behind_reset = λ power rows outs held are runs reset row values fits now c channel port there at.
      let history = history_of m channels block nets run is rows outs held are runs in
      let shown = shown_in_row m channels block nets run is rows held history (is.carry rows outs held are runs) row values fits now law legal power reset c in
      driven_by values channel.ends port (record { ready = (nets.ends c).ready; offered = (nets.ends c).offered; word = (nets.ends c).offered_word }) _ _ (is.ports held values row now c channel port there at) shown.ready shown.offered shown.word;
  in_reset = λ rows outs held are runs row values fits now on c channel port there at.
      let made = is.row held values row fits (is.carry rows outs held are runs) now in
      let none = nothing_in_reset nothing_law values run block nets made.made (made.runs ∙ ap (λ b. bit (not b)) on) c in
      driven_by values channel.ends port (record { ready = (nets.ends c).ready; offered = (nets.ends c).offered; word = (nets.ends c).offered_word }) false None (is.ports held values row now c channel port there at) none.ready none.offered
      (no_word values (nets.ends c).offered_word);
}
