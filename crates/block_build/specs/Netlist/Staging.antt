-- The wires of a pipeline's stages, put one behind another: first those that say which of them act and what their sites do; then, from
-- the last stage back, those that say which move; and at the end those of what their registers hold next.
use Rattle.std.specs.Prelude.{◌≡◌, ℕ, zero, suc, ◌+◌, ◌-◌, ◌*◌, ◌^◌, ◌==◌, min, take, drop, length, if◌then◌else◌, List, [], ◌∷◌, slice_get, Option, Some, None}
use Rattle.vlog_tree.specs.declared.expression.Atom.{Atom}
use Rattle.vlog_tree.specs.Value.{Values}
use Rattle.block_build.specs.declared.netlist.sites.Handshake.{Handshake}
use Rattle.block_build.specs.declared.netlist.sites.Site.{Site}
use Rattle.block_build.specs.declared.netlist.wires.WireList.{WireList}
use Rattle.block_build.specs.Netlist.Added.{next_number, Puts}
use Rattle.block_build.specs.Netlist.Gates.{net, not_gate, and_gate, or_gate}
use Rattle.block_build.specs.Netlist.Handshakes.{SiteNets, AreSites}
use Rattle.block_build.specs.Netlist.Sites.{handshake_at, nets_from}
use Rattle.block_build.specs.Netlist.Nexts.{KeepWords}
use Rattle.block_build.specs.Netlist.Stages.{StageNets, move_net, keep_wires, AreMoving, AreDone}
use Rattle.block_build.specs.Netlist.Wires.{AreWired}

-- the full bit of a stage, where those of all stages stand from a register on
abbrev pub full_bit : ℕ → ℕ → Atom
full_bit full stage = net (min (full + stage) (2 ^ 32 - 1))

-- how many of the first sites stand in a stage
abbrev pub leading_sites : ℕ → List Site → ℕ
leading_sites stage [] = 0
leading_sites stage (site ∷ sites) = if site.stage == stage then suc (leading_sites stage sites) else 0

-- the numbers of wires that are put later: for each stage that of the first of those by which it moves, and of the first of those by which
-- its bit goes on; and for each site that of the first of those by which its done bit goes on
pub record Later : Type 0 where
  pub moving : ℕ → ℕ
  pub next : ℕ → ℕ
  pub done : ℕ → ℕ

-- a stage whose first wire has this number, and whose sites have the indices from one on
abbrev pub stage_nets : ℕ → Later → ℕ → ℕ → ℕ → List Site → StageNets
stage_nets full later k i stage sites = record {
  full = full_bit full stage;
  first = k;
  sites = nets_from (suc k) later.done i sites;
  moving = later.moving stage;
  next = later.next stage;
}

-- so many stages from one on, of whose sites these are the first
abbrev pub stages_from : ℕ → Later → ℕ → ℕ → ℕ → ℕ → List Site → List StageNets
stages_from full later k i stage zero sites = []
stages_from full later k i stage (suc n) sites =
    stage_nets full later k i stage (take (leading_sites stage sites) sites)
    ∷ stages_from full later (suc k + 7 * leading_sites stage sites) (i + leading_sites stage sites) (suc stage) n (drop (leading_sites stage sites) sites)

-- ---- which act

-- whether a stage acts, and what its sites do
abbrev pub IsActing : Values → Atom → StageNets → Type 0
IsActing v run stage = AreWired v stage.first (and_gate run stage.full ∷ []) × AreSites v (net stage.first) stage.sites

abbrev pub AreActing : Values → Atom → List StageNets → Type 0
AreActing v run [] = Unit {0}
AreActing v run (stage ∷ more) = IsActing v run stage × AreActing v run more

-- the handshake of a site
abbrev pub shaken_at : SiteNets → Handshake
shaken_at site = handshake_at site.first

-- ---- which move

abbrev pub AreAllMoving : Values → List StageNets → Type 0
AreAllMoving v [] = Unit {0}
AreAllMoving v (stage ∷ more) = AreMoving v stage more × AreAllMoving v more

abbrev pub move_nets : List StageNets → List Atom
move_nets [] = []
move_nets (stage ∷ more) = move_net stage more ∷ move_nets more

-- a stage that passes all its sites moves, where the one behind it is free or moves, if there is one
abbrev pub IsMove : WireList → WireList → Atom → Atom → Option Atom → Atom → Type 0
IsMove old new full passed None own = (own ≡ passed) × (new ≡ old)
IsMove old new full passed (Some behind) own =
    (own ≡ net (suc (suc (next_number old))))
    × Puts old new (not_gate full ∷ or_gate (net (next_number old)) behind ∷ and_gate passed (net (suc (next_number old))) ∷ [])

-- all stages, whose full bits stand from a register on, and whose wires by which they move from this one on, those of the last but one
-- first
pub record MoveFrom (full k : ℕ) (stages : List StageNets) : Type 0 where
  pub full_are : (j : ℕ) (one : StageNets) → slice_get stages j ≡ Some one → one.full ≡ full_bit full j
  pub moving : (j : ℕ) (one : StageNets) → slice_get stages j ≡ Some one → one.moving ≡ k + 3 * (length stages - 2 - j)

-- ---- what their bits are next

-- a stage holds an activation where one comes in, or where it keeps its own
abbrev pub FullBitsGoOn : Values → Atom → List StageNets → Type 0
FullBitsGoOn v comes [] = Unit {0}
FullBitsGoOn v comes (stage ∷ more) = AreWired v stage.next (keep_wires stage.next comes stage.full (move_net stage more)) × FullBitsGoOn v (move_net stage more) more

abbrev pub kept_net : StageNets → Atom
kept_net stage = net (suc (suc stage.next))

-- all stages, whose full bits stand from a register on, and whose wires by which these go on from this one on
pub record KeepFrom (full k : ℕ) (stages : List StageNets) : Type 0 where
  pub full_are : (j : ℕ) (one : StageNets) → slice_get stages j ≡ Some one → one.full ≡ full_bit full j
  pub next : (j : ℕ) (one : StageNets) → slice_get stages j ≡ Some one → one.next ≡ k + 3 * j

-- the done bits of all stages' sites go on by their wires
abbrev pub AreAllDone : Values → List StageNets → Type 0
AreAllDone v [] = Unit {0}
AreAllDone v (stage ∷ more) = AreDone v (move_net stage more) stage.sites × AreAllDone v more

-- and so do the words of receives, of stages whose sites are the first of these
abbrev pub AllKeepWords : Values → (ℕ → ℕ) → ℕ → ℕ → ℕ → ℕ → List Site → Type 0
AllKeepWords v done k i stage zero sites = Unit {0}
AllKeepWords v done k i stage (suc n) sites =
    KeepWords v done (suc k) i (take (leading_sites stage sites) sites)
    × AllKeepWords v done (suc k + 7 * leading_sites stage sites) (i + leading_sites stage sites) (suc stage) n (drop (leading_sites stage sites) sites)
