-- The wires of a receive: the word that it has, and the one that its register holds next.
use Rattle.std.specs.Prelude.{◌≡◌, ℕ, true, [], ◌∷◌, Option, Some, None}
use Rattle.xb_bits.specs.Word.{Word}
use Rattle.vlog_tree.specs.declared.expression.Atom.{Atom}
use Rattle.vlog_tree.specs.Value.{Values, atom_value}
use Rattle.block_stage.specs.declared.machine.logic.Step.{Step}
use Rattle.block_stage.specs.declared.machine.logic.Step.TheVariants.{Pass, Recall, Take, Put, AwaitWord, AwaitRoom}
use Rattle.block_stage.specs.Machine.Cycle.{Ports, Registers}
use Rattle.block_build.specs.Netlist.Wires.{AreWired}
use Rattle.block_build.specs.Netlist.Gates.{net, choice_gate}
use Rattle.block_build.specs.Netlist.Handshakes.{SiteNets, go_net}

-- a receive: its site; the register of the word that it keeps; its channel's word; how wide that is; and the numbers of its wires
pub record ReceiveNets : Type 0 where
  pub site : SiteNets
  pub kept : Atom
  pub word : Atom
  pub width : ℕ
  pub has : ℕ
  pub keeps : ℕ

-- where it is done it has the word that it keeps, else its channel's; and it keeps that in the cycle in which it goes
pub record ReceiveWired (v : Values) (receive : ReceiveNets) : Type 0 where
  pub has : AreWired v receive.has (choice_gate receive.width receive.site.done receive.kept receive.word ∷ [])
  pub keeps : AreWired v receive.keeps (choice_gate receive.width (net (go_net receive.site)) receive.word receive.kept ∷ [])

-- what it reads is right: the register where the site is done, the channel's word where one is there
pub record WordsHeld (v : Values) (c : Registers) (ports : Ports) (chan i : ℕ) (receive : ReceiveNets) : Type 0 where
  pub kept : c.done i ≡ true → atom_value v receive.kept ≡ c.kept i
  pub word : (w : Word) → ports.valid_word chan ≡ Some w → atom_value v receive.word ≡ w

-- the word with which an activation goes past a receive
abbrev pub received_by : Step → Option Word
received_by Pass = None
received_by (Recall w) = Some w
received_by (Take w) = Some w
received_by (Put w) = None
received_by AwaitWord = None
received_by (AwaitRoom w) = None
