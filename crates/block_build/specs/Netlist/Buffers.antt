-- The signals of a FIFO's registers and wires, by where they stand.
use Rattle.std.specs.Prelude.{ℕ, zero, suc, ◌+◌, ◌-◌, ◌*◌, ◌^◌, min, List, [], ◌∷◌}
use Rattle.vlog_tree.specs.declared.expression.Atom.{Atom}
use Rattle.block_build.specs.declared.netlist.fifos.ChannelEnds.{ChannelEnds}
use Rattle.block_build.specs.declared.netlist.fifos.ChannelView.{ChannelView}
use Rattle.block_build.specs.declared.netlist.fifos.Fifo.{Fifo}
use Rattle.block_build.specs.declared.netlist.fifos.Flow.{Flow}
use Rattle.block_build.specs.Netlist.Fifos.{FifoNets, slot_net}
use Rattle.block_build.specs.Netlist.Gates.{net}
use Rattle.block_build.specs.Netlist.Literals.{literal_atom}

-- a slot; behind the last one it is the last
abbrev pub fifo_slot : Fifo → ℕ → Atom
fifo_slot fifo x = net (min (fifo.slots + min x (fifo.depth - 1)) (2 ^ 32 - 1))

-- its signals, where the wires that say what is in it stand from one on, and those by which it goes on from another
abbrev pub fifo_nets : Fifo → ChannelEnds → ℕ → ℕ → FifoNets
fifo_nets fifo ends first goes = record {
  count_width = fifo.count_width;
  width = fifo.width;
  count = fifo.count;
  slot = fifo_slot fifo;
  asserted = ends.ready;
  offers = ends.offered;
  word = ends.word;
  number = literal_atom fifo.count_width;
  depth = fifo.depth;
  first = first;
  goes = goes;
  next = λ x. goes + 6 + 4 * x;
}

-- what is found at it
abbrev pub view_at : Fifo → ℕ → ChannelView
view_at fifo k = record { valid = net k; word = fifo_slot fifo 0; room = net (suc k) }

-- what it gives and takes
abbrev pub flow_at : ℕ → Flow
flow_at k = record { gives = net k; takes = net (suc k); between = net (suc (suc (suc k))); count = net (suc (suc (suc (suc (suc k))))) }

-- what its slots hold next, from one on
abbrev pub slots_next : FifoNets → ℕ → ℕ → List Atom
slots_next fifo x zero = []
slots_next fifo x (suc n) = net (slot_net fifo x) ∷ slots_next fifo (suc x) n
