-- The wires of a pipeline's stages: which of them act, which move, and the bits that their registers hold next.
use Rattle.std.specs.Prelude.{◌≡◌, ℕ, zero, suc, ◌-◌, true, List, [], ◌∷◌, length}
use Rattle.vlog_tree.specs.declared.expression.Atom.{Atom}
use Rattle.vlog_tree.specs.Value.{Values, bit, atom_value}
use Rattle.block_stage.specs.Machine.Pipeline.{Pipeline, first}
use Rattle.block_stage.specs.Machine.Cycle.{Ports, Registers, circuit, brought}
use Rattle.block_stage.specs.Machine.Circuits.{stage_by, moves_by}
use Rattle.block_build.specs.Netlist.Wires.{Wire, AreWired}
use Rattle.block_build.specs.Netlist.Gates.{net, not_gate, and_gate, or_gate}
use Rattle.block_build.specs.Netlist.Handshakes.{SiteNets, go_net, AreSites, chain_ready}
use Rattle.block_build.specs.Netlist.Walks.{AreRead, ShowWalk, ShowNothing}

-- a stage: the register that says whether it holds an activation; the number of the wire that says that it acts, which it
-- doesn't in reset; its sites; the number of the first wire of those that say that it moves, of which the final stage has none;
-- and that of the first of those by which its bit goes on
pub record StageNets : Type 0 where
  pub full : Atom
  pub first : ℕ
  pub sites : List SiteNets
  pub moving : ℕ
  pub next : ℕ

-- it holds an activation that stalls at no site
abbrev pub passed : StageNets → Atom
passed stage = chain_ready (net stage.first) stage.sites

-- it moves, where these stages stand behind it: all of them from the final one back by wires
abbrev pub move_net : StageNets → List StageNets → Atom
move_net stage [] = passed stage
move_net stage (behind ∷ more) = net (suc (suc stage.moving))

abbrev pub move_wires : StageNets → StageNets → List StageNets → List Wire
move_wires stage behind more =
    not_gate behind.full ∷ or_gate (net stage.moving) (move_net behind more) ∷ and_gate (passed stage) (net (suc stage.moving)) ∷ []

abbrev pub AreMoving : Values → StageNets → List StageNets → Type 0
AreMoving v stage [] = Unit {0}
AreMoving v stage (behind ∷ more) = AreWired v stage.moving (move_wires stage behind more)

-- all stages from one on, where `run` says that there is no reset
abbrev pub AreStages : Values → Atom → List StageNets → Type 0
AreStages v run [] = Unit {0}
AreStages v run (stage ∷ more) =
    AreWired v stage.first (and_gate run stage.full ∷ [])
    × AreSites v (net stage.first) stage.sites
    × AreMoving v stage more
    × AreStages v run more

-- the stage of a number moves
abbrev pub move_at : List StageNets → ℕ → Atom
move_at [] j = net 0
move_at (stage ∷ more) zero = move_net stage more
move_at (stage ∷ more) (suc j) = move_at more j

-- a stage holds an activation next where one comes in, or where it keeps its own
abbrev pub keep_wires : ℕ → Atom → Atom → Atom → List Wire
keep_wires k comes full moves = not_gate moves ∷ and_gate full (net k) ∷ or_gate comes (net (suc k)) ∷ []

-- a site is done next where it is or goes, unless its stage moves
abbrev pub done_wires : ℕ → SiteNets → Atom → List Wire
done_wires k site moves = or_gate site.done (net (go_net site)) ∷ not_gate moves ∷ and_gate (net k) (net (suc k)) ∷ []

abbrev pub AreDone : Values → Atom → List SiteNets → Type 0
AreDone v moves [] = Unit {0}
AreDone v moves (site ∷ sites) = AreWired v site.next (done_wires site.next site moves) × AreDone v moves sites

-- of all stages from one on, into which one comes where this says so
abbrev pub AreNext : Values → Atom → List StageNets → Type 0
AreNext v comes [] = Unit {0}
AreNext v comes (stage ∷ more) =
    AreWired v stage.next (keep_wires stage.next comes stage.full (move_net stage more))
    × AreDone v (move_net stage more) stage.sites
    × AreNext v (move_net stage more) more

-- the control of a pipeline: into stage 0 an activation comes where one leaves the stage in which it gives the turn back
pub record IsControl (v : Values) (run : Atom) (q : Pipeline) (stages : List StageNets) : Type 0 where
  pub count : length stages ≡ q.stages
  pub now : AreStages v run stages
  pub next : AreNext v (move_at stages q.last) stages

-- ---- what it reads of the registers

-- a stage's registers hold what the machine's do, and the signals that its sites' wires read are right as far as its activation
-- comes
pub record StageHeld (v : Values) (q : Pipeline) (c : Registers) (ports : Ports) (j : ℕ) (stage : StageNets) : Type 0 where
  pub full : atom_value v stage.full ≡ bit (c.full j)
  pub count : length stage.sites ≡ first q (suc j) - first q j
  pub read : c.full j ≡ true → AreRead v q.proc.behavior c.done c.kept ports (brought c j).state (brought c j).got (first q j) stage.sites

abbrev pub AreHeld : Values → Pipeline → Registers → Ports → ℕ → List StageNets → Type 0
AreHeld v q c ports j [] = Unit {0}
AreHeld v q c ports j (stage ∷ more) = StageHeld v q c ports j stage × AreHeld v q c ports (suc j) more

-- whatever stands in a stage without an activation, the done bits are bits
abbrev pub AreDoneBits : Values → Registers → ℕ → List SiteNets → Type 0
AreDoneBits v c i [] = Unit {0}
AreDoneBits v c i (site ∷ sites) = (atom_value v site.done ≡ bit (c.done i)) × AreDoneBits v c (suc i) sites

abbrev pub AreAllDoneBits : Values → Pipeline → Registers → ℕ → List StageNets → Type 0
AreAllDoneBits v q c j [] = Unit {0}
AreAllDoneBits v q c j (stage ∷ more) = AreDoneBits v c (first q j) stage.sites × AreAllDoneBits v q c (suc j) more

-- ---- what it shows of the machine

-- which sites are asserted and which go, and which stages move
abbrev pub ShowStages : Values → Pipeline → Registers → Ports → ℕ → List StageNets → Type 0
ShowStages v q c ports j [] = Unit {0}
ShowStages v q c ports j (stage ∷ more) =
    ShowWalk v (first q j) stage.sites (stage_by circuit q c ports j)
    × (atom_value v (move_net stage more) ≡ bit (moves_by circuit q c ports j))
    × ShowStages v q c ports (suc j) more

-- in reset none
abbrev pub ShowReset : Values → List StageNets → Type 0
ShowReset v [] = Unit {0}
ShowReset v (stage ∷ more) = ShowNothing v stage.sites × ShowReset v more

-- the bits that registers hold next
abbrev pub ShowDone : Values → Registers → ℕ → List SiteNets → Type 0
ShowDone v next i [] = Unit {0}
ShowDone v next i (site ∷ sites) = (v (suc (suc site.next)) ≡ bit (next.done i)) × ShowDone v next (suc i) sites

abbrev pub ShowNext : Values → Pipeline → Registers → ℕ → List StageNets → Type 0
ShowNext v q next j [] = Unit {0}
ShowNext v q next j (stage ∷ more) =
    (v (suc (suc stage.next)) ≡ bit (next.full j)) × ShowDone v next (first q j) stage.sites × ShowNext v q next (suc j) more
