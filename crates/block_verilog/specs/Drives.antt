-- A module that drives at its ports what a block does.
use Rattle.std.specs.Prelude.{◌≡◌, ℕ, ◌+◌, map, slice_get, is_some, Bool, true, false, List, Option, Some, None}
use Rattle.xb_bits.specs.Word.{Word}
use Rattle.ir_tree.specs.declared.package.Channel.{Channel}
use Rattle.ir_tree.specs.declared.package.Ends.{Ends}
use Rattle.ir_tree.specs.declared.package.Ends.TheVariants as ends
use Rattle.vlog_tree.specs.declared.module.VModule.{VModule}
use Rattle.vlog_tree.specs.declared.row.Outs.{Outs}
use Rattle.vlog_tree.specs.declared.row.Row.{Row}
use Rattle.vlog_tree.specs.Meaning.{IsNow}
use Rattle.vlog_tree.specs.Rows.{Runs, given}
use Rattle.vlog_tree.specs.Value.{Values, bit}
use Rattle.block_build.specs.Block.{Block}
use Rattle.block_build.specs.Rows.{State, HasReset, state_after, is_ready, offers}
use Rattle.block_verilog.specs.Outside.{input_row}
use Rattle.block_verilog.specs.Ports.{ports_from}
use Rattle.block_verilog.specs.Widths.{IsInputRow, AreInputRows}

-- at the ports of a channel, the first of which has this number: at an input whether it is ready for a word, at an output whether one
-- is valid, and which
abbrev pub ChannelDriven : Values → Ends → ℕ → Bool → Option Word → Type 0
ChannelDriven v ends.Input port ready offer = v (port + 2) ≡ bit ready
ChannelDriven v ends.Output port ready offer = (v (port + 1) ≡ bit (is_some offer)) × ((w : Word) → offer ≡ Some w → v port ≡ w)
ChannelDriven v (ends.Inner depth) port ready offer = Unit {0}

-- in each row behind one with reset, whatever the block's registers held at first; and in each row that resets, whatever the module's own
-- hold, that nothing is ready and no word valid
pub record DrivesBlock (m : VModule) (channels : List Channel) (block : Block) : Type 0 where
  pub behind_reset : (power : State) (rows : List Row) (outs : List Outs) (held : Values) → AreInputRows m rows → Runs m rows outs held → HasReset (map (input_row channels) rows)
      → (row : Row) (values : Values) → IsInputRow m row → IsNow m held (given m row) values
      → (c : ℕ) (channel : Channel) (port : ℕ) → slice_get channels c ≡ Some channel → slice_get (ports_from 2 channels) c ≡ Some port
      → let state = state_after block power (map (input_row channels) rows) in
      ChannelDriven values channel.ends port (is_ready block state (input_row channels row) c) (offers block state (input_row channels row) c)
  pub in_reset : (rows : List Row) (outs : List Outs) (held : Values) → AreInputRows m rows → Runs m rows outs held
      → (row : Row) (values : Values) → IsInputRow m row → IsNow m held (given m row) values → row.reset ≡ true
      → (c : ℕ) (channel : Channel) (port : ℕ) → slice_get channels c ≡ Some channel → slice_get (ports_from 2 channels) c ≡ Some port
      → ChannelDriven values channel.ends port false None
