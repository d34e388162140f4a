-- The wires of a FIFO that is a row of registers and a count.
use Rattle.std.specs.Prelude.{◌≡◌, ℕ, Bool, suc, ◌<◌, ◌≤◌, ◌^◌, List, [], ◌∷◌, is_some, Option, Some}
use Rattle.xb_bits.specs.Word.{Word, word}
use Rattle.vlog_tree.specs.declared.expression.Atom.{Atom}
use Rattle.vlog_tree.specs.declared.expression.Binary.TheVariants as binary
use Rattle.vlog_tree.specs.Value.{Values, bit, atom_value}
use Rattle.block_stage.specs.Fifo.Row.{Row, has_word, has_room, gives, takes, between, row_after}
use Rattle.block_build.specs.Netlist.Wires.{Wire, AreWired}
use Rattle.block_build.specs.Netlist.Gates.{net, and_gate, choice_gate, binary_gate}

-- a FIFO: the width of its count; its registers, of which the one behind the last slot is any signal; whether its reader is ready,
-- whether its writer has valid a word, and which; the numbers 0, 1 and its depth as wide as the count, and those of the slots; the
-- number of the first of the wires that say what is in it; that of the first of those by which its count goes on, which read what its
-- reader and its writer do; and for each slot that of the first of those by which it goes on
pub record FifoNets : Type 0 where
  pub count_width : ℕ
  pub width : ℕ
  pub count : Atom
  pub slot : ℕ → Atom
  pub asserted : Atom
  pub offers : Atom
  pub word : Atom
  pub number : ℕ → Atom
  pub depth : ℕ
  pub first : ℕ
  pub goes : ℕ
  pub next : ℕ → ℕ

abbrev pub there_net : FifoNets → ℕ
there_net fifo = fifo.first

abbrev pub room_net : FifoNets → ℕ
room_net fifo = suc fifo.first

abbrev pub gives_net : FifoNets → ℕ
gives_net fifo = fifo.goes

abbrev pub takes_net : FifoNets → ℕ
takes_net fifo = suc fifo.goes

abbrev pub between_net : FifoNets → ℕ
between_net fifo = suc (suc (suc fifo.goes))

abbrev pub count_net : FifoNets → ℕ
count_net fifo = suc (suc (suc (suc (suc fifo.goes))))

-- a word is there; there is room
abbrev pub view_wires : FifoNets → List Wire
view_wires fifo =
    binary_gate 1 binary.NotEqual fifo.count (fifo.number 0)
    ∷ binary_gate 1 binary.NotEqual fifo.count (fifo.number fifo.depth)
    ∷ []

-- it gives a word; it takes one; the count less one; the count behind what it gives; one more; and the count that it has next
abbrev pub count_wires : FifoNets → List Wire
count_wires fifo =
    and_gate fifo.asserted (net (there_net fifo))
    ∷ and_gate fifo.offers (net (room_net fifo))
    ∷ binary_gate fifo.count_width binary.Subtract fifo.count (fifo.number 1)
    ∷ choice_gate fifo.count_width (net (gives_net fifo)) (net (suc (takes_net fifo))) fifo.count
    ∷ binary_gate fifo.count_width binary.Add (net (between_net fifo)) (fifo.number 1)
    ∷ choice_gate fifo.count_width (net (takes_net fifo)) (net (suc (between_net fifo))) (net (between_net fifo))
    ∷ []

-- slot x is the next free one; the word comes in there; the slot's word behind what is given; and the one that it has next
abbrev pub slot_wires : FifoNets → ℕ → List Wire
slot_wires fifo x =
    binary_gate 1 binary.Equal (net (between_net fifo)) (fifo.number x)
    ∷ and_gate (net (takes_net fifo)) (net (fifo.next x))
    ∷ choice_gate fifo.width (net (gives_net fifo)) (fifo.slot (suc x)) (fifo.slot x)
    ∷ choice_gate fifo.width (net (suc (fifo.next x))) fifo.word (net (suc (suc (fifo.next x))))
    ∷ []

abbrev pub slot_net : FifoNets → ℕ → ℕ
slot_net fifo x = suc (suc (suc (fifo.next x)))

pub record IsFifo (v : Values) (fifo : FifoNets) : Type 0 where
  pub view : AreWired v fifo.first (view_wires fifo)
  pub count : AreWired v fifo.goes (count_wires fifo)
  pub slots : (x : ℕ) → x < fifo.depth → AreWired v (fifo.next x) (slot_wires fifo x)

-- what it reads: its registers hold this row, of at most as many words as slots, and the count is wide enough
pub record FifoHeld (v : Values) (fifo : FifoNets) (row : Row Word) (valid_data : Option Word) : Type 0 where
  pub wide : fifo.depth < 2 ^ fifo.count_width
  pub one : 1 < 2 ^ fifo.count_width
  pub numbers : (x : ℕ) → x ≤ fifo.depth → atom_value v (fifo.number x) ≡ word fifo.count_width x
  pub number_one : atom_value v (fifo.number 1) ≡ word fifo.count_width 1
  pub few : row.count ≤ fifo.depth
  pub count : atom_value v fifo.count ≡ word fifo.count_width row.count
  pub slots : (x : ℕ) → x ≤ fifo.depth → atom_value v (fifo.slot x) ≡ row.slot x
  pub offers : atom_value v fifo.offers ≡ bit (is_some valid_data)
  pub offered_word : (w : Word) → valid_data ≡ Some w → atom_value v fifo.word ≡ w

-- what its wires say of the count
pub record CountShown (v : Values) (fifo : FifoNets) (row : Row Word) (asserted : Bool) (valid_data : Option Word) : Type 0 where
  pub there : v (there_net fifo) ≡ bit (has_word row)
  pub room : v (room_net fifo) ≡ bit (has_room fifo.depth row)
  pub given : v (gives_net fifo) ≡ bit (gives row asserted)
  pub taken : v (takes_net fifo) ≡ bit (takes fifo.depth row valid_data)
  pub left : v (between_net fifo) ≡ word fifo.count_width (between row asserted)
  pub count : v (count_net fifo) ≡ word fifo.count_width (row_after fifo.depth row asserted valid_data).count
