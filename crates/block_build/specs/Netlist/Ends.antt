-- The wires of an end of a channel, at which several sites may stand: whether one of them is asserted, and the word of that one.
use Rattle.std.specs.Prelude.{◌≡◌, ℕ, zero, suc, Bool, false, not, ◌&&◌, ◌||◌, List, [], ◌∷◌, ◌++◌, if◌then◌else◌, ◌==◌}
use Rattle.xb_bits.specs.Word.{Word}
use Rattle.net_core.specs.declared.net.Site.{Site}
use Rattle.net_core.specs.Behavior.{chan_at}
use Rattle.vlog_tree.specs.declared.expression.Atom.{Atom}
use Rattle.vlog_tree.specs.Value.{Values, bit, atom_value}
use Rattle.block_build.specs.Netlist.Wires.{Wire}
use Rattle.block_build.specs.Netlist.Gates.{net, or_gate, choice_gate}
use Rattle.block_build.specs.Netlist.Handshakes.{SiteNets, assert_net}
use Rattle.block_build.specs.Netlist.Stages.{StageNets}

-- whether a site is asserted, and the word that it sends
pub record RequestNets : Type 0 where
  pub ask : Atom
  pub word : Atom

pub record RequestValues : Type 0 where
  pub ask : Bool
  pub word : Word

abbrev pub RequestsAre : Values → List RequestNets → List RequestValues → Type 0
RequestsAre v [] [] = Unit {0}
RequestsAre v [] (said ∷ saids) = ⊥
RequestsAre v (nets ∷ rest) [] = ⊥
RequestsAre v (nets ∷ rest) (said ∷ saids) = (atom_value v nets.ask ≡ bit said.ask) × (atom_value v nets.word ≡ said.word) × RequestsAre v rest saids

-- one of them is asserted, or one was so far
abbrev pub some_wires : ℕ → Atom → List RequestNets → List Wire
some_wires k so_far [] = []
some_wires k so_far (nets ∷ rest) = or_gate so_far nets.ask ∷ some_wires (suc k) (net k) rest

abbrev pub some_net : ℕ → Atom → List RequestNets → Atom
some_net k so_far [] = so_far
some_net k so_far (nets ∷ rest) = some_net (suc k) (net k) rest

abbrev pub some_asserted : Bool → List RequestValues → Bool
some_asserted so_far [] = so_far
some_asserted so_far (said ∷ saids) = some_asserted (so_far || said.ask) saids

-- the word of the last that is asserted, or this
abbrev pub word_wires : ℕ → ℕ → Atom → List RequestNets → List Wire
word_wires width k so_far [] = []
word_wires width k so_far (nets ∷ rest) = choice_gate width nets.ask nets.word so_far ∷ word_wires width (suc k) (net k) rest

abbrev pub word_net : ℕ → Atom → List RequestNets → Atom
word_net k so_far [] = so_far
word_net k so_far (nets ∷ rest) = word_net (suc k) (net k) rest

abbrev pub asserted_word : Word → List RequestValues → Word
asserted_word so_far [] = so_far
asserted_word so_far (said ∷ saids) = asserted_word (if said.ask then said.word else so_far) saids

-- ---- the ends of a pipeline's channels

-- the site with an index sends
abbrev pub sends_at : List Site → ℕ → Bool
sends_at [] i = false
sends_at (site ∷ sites) zero = site.sends
sends_at (site ∷ sites) (suc i) = sends_at sites i

-- it stands at this end of a channel
abbrev pub is_end_of : List Site → ℕ → Bool → ℕ → Bool
is_end_of sites chan sends i = (chan_at sites i == chan) && (if sends then sends_at sites i else not (sends_at sites i))

-- all sites, those of earlier stages first
abbrev pub all_sites : List StageNets → List SiteNets
all_sites [] = []
all_sites (stage ∷ more) = stage.sites ++ all_sites more

-- the wires of those from index i on that stand at an end: whether they are asserted, and the word that they send
abbrev pub end_requests : List Site → ℕ → Bool → (ℕ → Atom) → ℕ → List SiteNets → List RequestNets
end_requests sites chan sends sent i [] = []
end_requests sites chan sends sent i (site ∷ more) =
    let rest = end_requests sites chan sends sent (suc i) more in
    if is_end_of sites chan sends i then record { ask = net (assert_net site); word = sent i } ∷ rest else rest
