-- What a block does in the rows of a simulation: clock cycles, in each of which it may be reset.
use Rattle.std.specs.Prelude.{◌≡◌, ℕ, true, false, not, Bool, ◌&&◌, List, [], ◌∷◌, ◌++◌, map, slice_get, get_or, if◌then◌else◌, ◌==◌, Option, Some, None}
use Rattle.std.specs.List.{list_any}
use Rattle.xb_bits.specs.Word.{Word}
use Rattle.net_core.specs.declared.net.Chan.{Chan}
use Rattle.net_core.specs.declared.net.Kind.{Kind}
use Rattle.net_core.specs.declared.net.Kind.TheVariants.{Input, Output, Inner}
use Rattle.net_core.specs.declared.event.Event.{Event}
use Rattle.net_core.specs.Cuts.{words_sent, count_received, sites_at, sender}
use Rattle.block_stage.specs.Machine.Pipeline.{Pipeline}
use Rattle.block_stage.specs.Machine.Cycle.{Ports, Registers, asserted_in}
use Rattle.block_stage.specs.Machine.Since.{Since, at_reset, one_more}
use Rattle.block_stage.specs.Fifo.Fifo.{next_word, has_room, after_cycle}
use Rattle.block_build.specs.Block.{Block, run_of, receiver_of}

-- a proc's pipeline, with its registers and what has gone through its ports since reset
pub record Machine : Type 0 where
  pub pipeline : Pipeline
  pub since : Since

-- the machines by the numbers of their procs, and the words in the FIFO of each inner channel
pub record State : Type 0 where
  pub machines : List Machine
  pub queues : ℕ → List Word

abbrev pub reset_machine : Pipeline → Machine
reset_machine q = record { pipeline = q; since = at_reset q }

abbrev pub reset_state : Block → State
reset_state block = record { machines = map reset_machine block.pipelines; queues = λ c. [] }

-- what a pipeline finds at a channel, by the channel's kind: at an input and an output what stands at the block's own
-- ports, at an inner channel what its FIFO shows
abbrev pub valid_word_by : Kind → Option Word → List Word → Option Word
valid_word_by Input outside queue = outside
valid_word_by Output outside queue = None
valid_word_by Inner outside queue = next_word queue

abbrev pub room_by : Kind → ℕ → Bool → List Word → Bool
room_by Input depth outside queue = false
room_by Output depth outside queue = outside
room_by Inner depth outside queue = has_room depth queue

abbrev pub valid_word_at : Option Chan → Option Word → List Word → Option Word
valid_word_at None outside queue = None
valid_word_at (Some chan) outside queue = valid_word_by chan.kind outside queue

abbrev pub room_at : Option Chan → ℕ → Bool → List Word → Bool
room_at None depth outside queue = false
room_at (Some chan) depth outside queue = room_by chan.kind depth outside queue

abbrev pub depth_of : Block → ℕ → ℕ
depth_of block c = get_or block.depths c 0

-- in a cycle with this at the block's own ports
abbrev pub ports_in : Block → State → Ports → Ports
ports_in block state row = record {
  valid_word = λ c. valid_word_at (slice_get block.chans c) (row.valid_word c) (state.queues c);
  room = λ c. room_at (slice_get block.chans c) (depth_of block c) (row.room c) (state.queues c);
}

abbrev pub asserts : Option Machine → Ports → List Event
asserts None ports = []
asserts (Some machine) ports = asserted_in machine.pipeline machine.since.contents ports

abbrev pub asserted_at : State → Ports → ℕ → List Event
asserted_at state ports p = asserts (slice_get state.machines p) ports

-- the proc that sends on a channel
abbrev pub sender_of : Block → ℕ → ℕ
sender_of block c = sender (run_of block [] 0) c

-- whether a FIFO's reader is ready for a word, and what its writer has valid
abbrev pub is_reader_ready : Block → State → Ports → ℕ → Bool
is_reader_ready block state ports c =
    not (count_received (sites_at (run_of block [] 0) (receiver_of block c)) c (asserted_at state ports (receiver_of block c)) == 0)

abbrev pub valid_data : Block → State → Ports → ℕ → Option Word
valid_data block state ports c = next_word (words_sent (sites_at (run_of block [] 0) (sender_of block c)) c (asserted_at state ports (sender_of block c)))

abbrev pub machine_after : Ports → Machine → Machine
machine_after ports machine = record { pipeline = machine.pipeline; since = one_more machine.pipeline machine.since ports }

-- all by what stood before the cycle
abbrev pub one_row : Block → State → Ports → State
one_row block state row =
    let ports = ports_in block state row in
    record {
      machines = map (machine_after ports) state.machines;
      queues = λ c. after_cycle (depth_of block c) (state.queues c) (is_reader_ready block state ports c) (valid_data block state ports c);
    }

-- after these rows without reset
abbrev pub after_rows : Block → State → List Ports → State
after_rows block state [] = state
after_rows block state (row ∷ more) = after_rows block (one_row block state row) more

-- a row: whether it resets, and what stands at the block's own ports
pub record InputRow : Type 0 where
  pub rst : Bool
  pub ports : Ports

-- in a row with reset no stage acts, whatever stands in the registers
abbrev pub acting : Bool → Registers → Registers
acting rst c = record { full = λ j. not rst && c.full j; state = c.state; stage_regs = c.stage_regs; done = c.done; kept = c.kept }

abbrev pub asks_if : Bool → Option Machine → Ports → List Event
asks_if rst None ports = []
asks_if rst (Some machine) ports = asserted_in machine.pipeline (acting rst machine.since.contents) ports

-- what a proc asserts in a row
abbrev pub asserted_in_row : Block → State → InputRow → ℕ → List Event
asserted_in_row block state row p = asks_if row.rst (slice_get state.machines p) (ports_in block state row.ports)

-- what the block drives: whether it is ready for a word of an input, and its valid word at an output
abbrev pub is_ready : Block → State → InputRow → ℕ → Bool
is_ready block state row c =
    not (count_received (sites_at (run_of block [] 0) (receiver_of block c)) c (asserted_in_row block state row (receiver_of block c)) == 0)

abbrev pub offers : Block → State → InputRow → ℕ → Option Word
offers block state row c = next_word (words_sent (sites_at (run_of block [] 0) (sender_of block c)) c (asserted_in_row block state row (sender_of block c)))

abbrev pub after_row : Block → State → InputRow → State
after_row block state row = if row.rst then reset_state block else one_row block state row.ports

-- after these rows more, whatever stood in the registers before
abbrev pub state_after : Block → State → List InputRow → State
state_after block state [] = state
state_after block state (row ∷ more) = state_after block (after_row block state row) more

-- some row resets
abbrev pub HasReset : List InputRow → Type 0
HasReset rows = list_any (λ (row : InputRow). row.rst) rows ≡ true

-- what stood at the block's ports since the last reset, or since these rows where there was none
abbrev pub since_reset : List Ports → List InputRow → List Ports
since_reset before [] = before
since_reset before (row ∷ more) = since_reset (if row.rst then [] else before ++ row.ports ∷ []) more

-- the words that went through the block's own ports since reset: those received from an input, those sent on an output
abbrev pub received_of : Option Machine → ℕ → List Word
received_of None c = []
received_of (Some machine) c = machine.since.received c

abbrev pub sent_of : Option Machine → ℕ → List Word
sent_of None c = []
sent_of (Some machine) c = machine.since.sent c

abbrev pub moved_in : Block → State → ℕ → List Word
moved_in block state c = received_of (slice_get state.machines (receiver_of block c)) c

abbrev pub moved_out : Block → State → ℕ → List Word
moved_out block state c = sent_of (slice_get state.machines (sender_of block c)) c
