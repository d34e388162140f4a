-- What an activation does at a stage's sites, by the words that stand on a netlist's signals: whether or not it comes so far, a
-- receive's signal has some word, and nodes have their values by it.
use Rattle.std.specs.Prelude.{◌≡◌, ℕ, zero, suc, Bool, List, [], ◌∷◌, ◌++◌, Some}
use Rattle.xb_bits.specs.Word.{Word}
use Rattle.xb_value.specs.declared.value.Value.{Value}
use Rattle.net_core.specs.declared.net.Site.{Site}
use Rattle.net_core.specs.Behavior.{Behavior, Turn, Skip, Receive, Give, chan_at}
use Rattle.block_stage.specs.Machine.Cycle.{Ports, step_of}
use Rattle.vlog_tree.specs.Value.{Values, bit, atom_value}
use Rattle.block_build.specs.Netlist.Handshakes.{SiteNets}
use Rattle.block_build.specs.Netlist.Walks.{TurnIs}
use Rattle.block_build.specs.Netlist.Receives.{received_by}

-- the words received by then behind a site, at which one that receives gets this
abbrev pub grown : Turn → Word → List Word → List Word
grown Skip w got = got
grown Receive w got = got ++ w ∷ []
grown (Give u) w got = got

-- at so many sites from index i on a proc does what these turns say, where those that receive get these words
abbrev pub DoesTurns : Behavior → Value → (ℕ → Turn) → (ℕ → Word) → List Word → ℕ → ℕ → Type 0
DoesTurns b s turns words got i zero = Unit {0}
DoesTurns b s turns words got i (suc n) = (b.turn s got i ≡ turns i) × DoesTurns b s turns words (grown (turns i) (words i) got) (suc i) n

-- the signals of the sites from index i on say what these turns are; and the word of one that receives is what the machine
-- receives there where it goes past it
abbrev pub AreTurns : Values → List Site → (ℕ → Turn) → (ℕ → Word) → (ℕ → Bool) → (ℕ → Word) → Ports → ℕ → List SiteNets → Type 0
AreTurns v all turns words done kept ports i [] = Unit {0}
AreTurns v all turns words done kept ports i (site ∷ sites) =
    (atom_value v site.done ≡ bit (done i))
    × TurnIs v site (ports.valid_word (chan_at all i)) (ports.room (chan_at all i)) (turns i)
    × ((w : Word) → received_by (step_of (turns i) (done i) (kept i) (ports.valid_word (chan_at all i)) (ports.room (chan_at all i))) ≡ Some w → words i ≡ w)
    × AreTurns v all turns words done kept ports (suc i) sites
