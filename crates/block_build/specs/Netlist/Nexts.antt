-- What the registers of a pipeline hold next: the wires, put one behind another in the registers' order.
use Rattle.std.specs.Prelude.{◌≡◌, ℕ, zero, suc, Bool, true, false, ◌+◌, ◌-◌, List, [], ◌∷◌, ◌++◌, get_or, length, if◌then◌else◌}
use Rattle.vlog_tree.specs.declared.expression.Atom.{Atom}
use Rattle.vlog_tree.specs.Value.{Values}
use Rattle.ir_tree.specs.declared.node.Attributes.{Attributes}
use Rattle.ir_tree.specs.declared.node.Attributes.TheVariants as attributes
use Rattle.ir_tree.specs.declared.node.Node.{Node}
use Rattle.ir_tree.specs.Types.{ty_of}
use Rattle.block_build.specs.declared.netlist.places.Place.{Place}
use Rattle.block_build.specs.declared.netlist.sites.Handshake.{Handshake}
use Rattle.block_build.specs.declared.netlist.sites.Site.{Site}
use Rattle.block_build.specs.Netlist.Choices.{choice_wires}
use Rattle.block_build.specs.Netlist.Gates.{net, not_gate, and_gate, or_gate, choice_gate}
use Rattle.block_build.specs.Netlist.Leaves.{leaf_widths}
use Rattle.block_build.specs.Netlist.Literals.{literal_atom}
use Rattle.block_build.specs.Netlist.Places.{place_at}
use Rattle.block_build.specs.Netlist.Wires.{Wire, AreWired}

-- whether a stage moves; one that isn't there doesn't
abbrev pub move_of : List Atom → ℕ → Atom
move_of moves stage = get_or moves stage (literal_atom 1 0)

-- ---- sites

-- a site is done next where it is or goes, unless its stage moves: from wire k on
abbrev pub done_next_wires : ℕ → Atom → Atom → Atom → List Wire
done_next_wires k done goes moves = or_gate done goes ∷ not_gate moves ∷ and_gate (net k) (net (suc k)) ∷ []

-- a receive that goes keeps its channel's word
abbrev pub kept_wires : Site → Atom → List Wire
kept_wires site goes = if site.sends then [] else choice_gate site.width goes site.word site.kept ∷ []

abbrev pub kept_nets : ℕ → Site → List Atom
kept_nets k site = if site.sends then [] else net k ∷ []

abbrev pub site_next_wires : ℕ → Site → Atom → Atom → List Wire
site_next_wires k site goes moves = done_next_wires k site.done goes moves ++ kept_wires site goes

-- what its registers hold next
abbrev pub site_next_nets : ℕ → Site → List Atom
site_next_nets k site = net (suc (suc k)) ∷ kept_nets (suc (suc (suc k))) site

abbrev pub site_next_count : Site → ℕ
site_next_count site = if site.sends then 3 else 4

-- of all sites, with their handshakes
abbrev pub sites_next_wires : ℕ → List Atom → List Site → List Handshake → List Wire
sites_next_wires k moves [] shaken = []
sites_next_wires k moves (site ∷ sites) [] = []
sites_next_wires k moves (site ∷ sites) (handshake ∷ shaken) =
    site_next_wires k site handshake.goes (move_of moves site.stage) ++ sites_next_wires (k + site_next_count site) moves sites shaken

abbrev pub sites_next_nets : ℕ → List Site → List Handshake → List Atom
sites_next_nets k [] shaken = []
sites_next_nets k (site ∷ sites) [] = []
sites_next_nets k (site ∷ sites) (handshake ∷ shaken) = site_next_nets k site ++ sites_next_nets (k + site_next_count site) sites shaken

-- the number of the first of those of the site with an index, where those of the first stand from a wire on
abbrev pub done_at : ℕ → List Site → ℕ → ℕ
done_at k [] i = k
done_at k (site ∷ sites) zero = k
done_at k (site ∷ sites) (suc i) = done_at (k + site_next_count site) sites i

-- of receives from an index on, whose handshakes stand from wire k on: each that goes keeps its channel's word
abbrev pub KeepWords : Values → (ℕ → ℕ) → ℕ → ℕ → List Site → Type 0
KeepWords v done k i [] = Unit {0}
KeepWords v done k i (site ∷ sites) =
    (site.sends ≡ false → AreWired v (suc (suc (suc (done i)))) (choice_gate site.width (net (suc (suc (suc k)))) site.word site.kept ∷ [])) × KeepWords v done (k + 7) (suc i) sites

-- ---- copies

-- the copies of a value in so many stages behind a stage: each takes what stands in the stage before, where that moves
abbrev pub copies_wires : List ℕ → Place → List Atom → ℕ → ℕ → List Wire
copies_wires ws place moves j zero = []
copies_wires ws place moves j (suc n) = choice_wires (move_of moves j) ws (place_at j place) (place_at (suc j) place) ++ copies_wires ws place moves (suc j) n

-- a literal is the same in all stages
abbrev pub is_literal : Attributes → Bool
is_literal attributes.None = false
is_literal (attributes.StartAndWidth start width) = false
is_literal (attributes.Width width) = false
is_literal (attributes.NewBitCount width) = false
is_literal (attributes.Cases cases default) = false
is_literal (attributes.Index i) = false
is_literal (attributes.Indices i) = false
is_literal (attributes.Value c) = true
is_literal (attributes.Channel predicate c) = false

-- those of a node's value up to the stage in which it is last read: a literal has none
abbrev pub node_copies : List Atom → Node → Place → ℕ → List Wire
node_copies moves n place last = if is_literal n.attributes then [] else copies_wires (leaf_widths (ty_of n.ty)) place moves place.stage (last - place.stage)

-- of all nodes, which stand there and are last read in these stages
abbrev pub nodes_copies : List Atom → List Node → List Place → List ℕ → List Wire
nodes_copies moves [] places lasts = []
nodes_copies moves (n ∷ nodes) [] lasts = []
nodes_copies moves (n ∷ nodes) (place ∷ places) [] = []
nodes_copies moves (n ∷ nodes) (place ∷ places) (last ∷ lasts) = node_copies moves n place last ++ nodes_copies moves nodes places lasts
