-- The wires of a pipeline's stages show the machine's cycle.
use Rattle.std.proofs.Common.{◌≡◌, ℕ, zero, suc, ◌+◌, ◌-◌, ◌<◌, ◌≤◌, List, [], ◌∷◌, length, refl, sym, ap, ◌∙◌, subst, arith, true, false, Bool, None}
use Rattle.std.specs.Prelude.{◌&&◌, ◌||◌, not, is_some}
use Rattle.std.specs.List.{list_any}
use Rattle.vlog_tree.specs.declared.expression.Atom.{Atom}
use Rattle.vlog_tree.specs.Value.{Values, bit, atom_value}
use Rattle.block_stage.specs.Machine.Pipeline.{Pipeline, IsPipeline, first}
use Rattle.block_stage.specs.Machine.Cycle.{Ports, Registers, Walk, circuit, brought, stopped, walk_by, if_full, is_at, moves_through}
use Rattle.block_stage.specs.Machine.Circuits.{stage_by, moves_by, cycle_by}
use Rattle.block_stage.proofs.Lemmas.Machine.{stage_at, first_grows}
use Rattle.block_build.specs.Netlist.Wires.{AreWired}
use Rattle.block_build.specs.Netlist.Gates.{net, and_gate}
use Rattle.block_build.specs.Netlist.Handshakes.{SiteNets, AreSites, go_net}
use Rattle.block_build.specs.Netlist.Walks.{ShowWalk, goes_at}
use Rattle.block_build.specs.Netlist.Stages.{StageNets, passed, move_net, AreStages, move_at, keep_wires, done_wires, AreDone, AreNext, IsControl, StageHeld, AreHeld, AreDoneBits, AreAllDoneBits, ShowStages, ShowReset, ShowDone, ShowNext}
use Rattle.block_build.proofs.OnNetlist.OnGates.{complement, conjunction, disjunction, nothing}
use Rattle.block_build.proofs.OnNetlist.OnHandshakes.{chain_is_quiet, quiet_shown, chain_shows_the_walk}

-- a stage's sites, and whether it passes
record StageShown (v : Values) (q : Pipeline) (c : Registers) (ports : Ports) (j : ℕ) (stage : StageNets) : Type 0 where
  sites : ShowWalk v (first q j) stage.sites (stage_by circuit q c ports j)
  passes : atom_value v (passed stage) ≡ bit (c.full j && not (is_some (stage_by circuit q c ports j).stall))

abbrev whole_walk : Pipeline → Registers → Ports → ℕ → ℕ → Walk
whole_walk q c ports j n = walk_by circuit q.proc.behavior c.done c.kept ports (brought c j).state (brought c j).got (first q j) n

stage_shown_by : (v : Values) (run : Atom) (q : Pipeline) (c : Registers) (ports : Ports) (j : ℕ) (stage : StageNets)
    → AreWired v stage.first (and_gate run stage.full ∷ []) → AreSites v (net stage.first) stage.sites → atom_value v run ≡ bit true → StageHeld v q c ports j stage
    → (t : Bool) → c.full j ≡ t
    → ShowWalk v (first q j) stage.sites (if_full t (first q j) (whole_walk q c ports j (first q (suc j) - first q j)))
    × (atom_value v (passed stage) ≡ bit (t && not (is_some (if_full t (first q j) (whole_walk q c ports j (first q (suc j) - first q j))).stall)))
stage_shown_by v run q c ports j stage wire sites r stage_regs true f =
    let acts = conjunction (v stage.first) (atom_value v run) (atom_value v stage.full) true true wire.0 r (stage_regs.full ∙ ap bit f) in
    subst (λ n. ShowWalk v (first q j) stage.sites (whole_walk q c ports j n) × (atom_value v (passed stage) ≡ bit (not (is_some (whole_walk q c ports j n).stall)))) stage_regs.count
    (chain_shows_the_walk v q.proc.behavior c.done c.kept ports (brought c j).state stage.sites (brought c j).got (first q j) (net stage.first) sites acts (stage_regs.read f))
stage_shown_by v run q c ports j stage wire sites r stage_regs false f =
    let idle = conjunction (v stage.first) (atom_value v run) (atom_value v stage.full) true false wire.0 r (stage_regs.full ∙ ap bit f) in
    let quiet = chain_is_quiet v (net stage.first) stage.sites sites idle in
    (quiet_shown v (first q j) stage.sites (stopped (first q j) [] None) (λ m l. (refl, refl)) quiet.0, quiet.1)

stage_shown : (v : Values) (run : Atom) (q : Pipeline) (c : Registers) (ports : Ports) (j : ℕ) (stage : StageNets)
    → AreWired v stage.first (and_gate run stage.full ∷ []) → AreSites v (net stage.first) stage.sites → atom_value v run ≡ bit true → StageHeld v q c ports j stage
    → StageShown v q c ports j stage
stage_shown v run q c ports j stage wire sites r stage_regs =
    let s = stage_shown_by v run q c ports j stage wire sites r stage_regs (c.full j) refl in
    record { sites = s.0; passes = s.1 }

-- which stages move, from the final one back
stage_moves : (v : Values) (run : Atom) (q : Pipeline) (c : Registers) (ports : Ports) (more : List StageNets) (j : ℕ) (stage : StageNets)
    → AreStages v run (stage ∷ more) → atom_value v run ≡ bit true → AreHeld v q c ports j (stage ∷ more)
    → atom_value v (move_net stage more) ≡ bit (moves_through circuit c.full (stage_by circuit q c ports) (length more) j)
stage_moves v run q c ports [] j stage wired r stage_regs = (stage_shown v run q c ports j stage wired.0 wired.1 r stage_regs.0).passes
stage_moves v run q c ports (behind ∷ more) j stage wired r stage_regs =
    let here = (stage_shown v run q c ports j stage wired.0 wired.1 r stage_regs.0).passes in
    let next = stage_moves v run q c ports more (suc j) behind wired.3 r stage_regs.1 in
    let w = wired.2 in
    let free = complement (v stage.moving) _ (c.full (suc j)) w.0 stage_regs.1.0.full in
    let clear = disjunction (v (suc stage.moving)) _ _ (not (c.full (suc j))) (moves_through circuit c.full (stage_by circuit q c ports) (length more) (suc j)) w.1.0 free next in
    conjunction (v (suc (suc stage.moving))) _ _ (c.full j && not (is_some (stage_by circuit q c ports j).stall)) _ w.1.1.0 here clear

moves_of : (q : Pipeline) (c : Registers) (ports : Ports) (j n : ℕ) → q.stages - suc j ≡ n → moves_through circuit c.full (stage_by circuit q c ports) n j ≡ moves_by circuit q c ports j
moves_of q c ports j n e = ap (λ k. moves_through circuit c.full (stage_by circuit q c ports) k j) (sym e)

-- all stages from one on
stages_shown : (v : Values) (run : Atom) (q : Pipeline) (c : Registers) (ports : Ports) (stages : List StageNets) (j : ℕ) → j + length stages ≡ q.stages
    → AreStages v run stages → atom_value v run ≡ bit true → AreHeld v q c ports j stages → ShowStages v q c ports j stages
stages_shown v run q c ports [] j e wired r stage_regs = tt
stages_shown v run q c ports (stage ∷ more) j e wired r stage_regs = (
  (stage_shown v run q c ports j stage wired.0 wired.1 r stage_regs.0).sites,
  stage_moves v run q c ports more j stage wired r stage_regs ∙ ap bit (moves_of q c ports j (length more) (omega arith)),
  stages_shown v run q c ports more (suc j) (omega arith) wired.3 r stage_regs.1,
)

pub control_shows_the_cycle : (v : Values) (run : Atom) (q : Pipeline) (stages : List StageNets) (c : Registers) (ports : Ports) → IsControl v run q stages
    → atom_value v run ≡ bit true → AreHeld v q c ports 0 stages → ShowStages v q c ports 0 stages
control_shows_the_cycle v run q stages c ports is r stage_regs =
    let n = is.count in stages_shown v run q c ports stages 0 (omega arith) is.now r stage_regs

-- in reset, whatever stands in the registers
pub nothing_shows_in_reset : (v : Values) (run : Atom) (stages : List StageNets) → AreStages v run stages → atom_value v run ≡ bit false → ShowReset v stages
nothing_shows_in_reset v run [] wired r = tt
nothing_shows_in_reset v run (stage ∷ more) wired r =
    let idle = nothing (v stage.first) (atom_value v run) (atom_value v stage.full) wired.0.0 r in
    ((chain_is_quiet v (net stage.first) stage.sites wired.1 idle).0, nothing_shows_in_reset v run more wired.3 r)

-- the bits that registers hold next
keep_bit : (v : Values) (k : ℕ) (comes full moves : Atom) (x y z : Bool) → AreWired v k (keep_wires k comes full moves)
    → atom_value v comes ≡ bit x → atom_value v full ≡ bit y → atom_value v moves ≡ bit z → v (suc (suc k)) ≡ bit (x || (y && not z))
keep_bit v k comes full moves x y z h ex ey ez =
    let stays = complement (v k) _ z h.0 ez in
    let kept = conjunction (v (suc k)) _ _ y (not z) h.1.0 ey stays in
    disjunction (v (suc (suc k))) _ _ x (y && not z) h.1.1.0 ex kept

done_bit : (v : Values) (k : ℕ) (site : SiteNets) (moves : Atom) (x y z : Bool) → AreWired v k (done_wires k site moves)
    → atom_value v site.done ≡ bit x → v (go_net site) ≡ bit y → atom_value v moves ≡ bit z → v (suc (suc k)) ≡ bit ((x || y) && not z)
done_bit v k site moves x y z h ex ey ez =
    let either = disjunction (v k) _ _ x y h.0 ex ey in
    let stays = complement (v (suc k)) _ z h.1.0 ez in
    conjunction (v (suc (suc k))) _ _ (x || y) (not z) h.1.1.0 either stays

dones_shown : (v : Values) (q : Pipeline) → IsPipeline q → (c : Registers) (ports : Ports) (j : ℕ) (moves : Atom) (sites : List SiteNets) (i : ℕ) → first q j ≤ i → i + length sites ≤ first q (suc j)
    → AreDone v moves sites → AreDoneBits v c i sites → ShowWalk v i sites (stage_by circuit q c ports j) → atom_value v moves ≡ bit (moves_by circuit q c ports j)
    → ShowDone v (cycle_by circuit q c ports) i sites
dones_shown v q is c ports j moves [] i l r wired bits shown m = tt
dones_shown v q is c ports j moves (site ∷ sites) i l r wired bits shown m =
    let at = stage_at q is i j l (omega arith) in
    let here = done_bit v site.next site moves (c.done i) (goes_at i (stage_by circuit q c ports j)) (moves_by circuit q c ports j) wired.0 bits.0 shown.1 m in (
      here ∙ ap (λ k. bit ((c.done i || list_any (is_at i) (stage_by circuit q c ports k).transfers) && not (moves_by circuit q c ports k))) (sym at),
      dones_shown v q is c ports j moves sites (suc i) (omega arith) (omega arith) wired.1 bits.1 shown.2 m,
    )

-- of all stages behind one
nexts_shown : (v : Values) (q : Pipeline) → IsPipeline q → (c : Registers) (ports : Ports) (stages : List StageNets) (j : ℕ) (comes : Atom)
    → AreNext v comes stages → atom_value v comes ≡ bit (moves_by circuit q c ports j) → AreHeld v q c ports (suc j) stages → AreAllDoneBits v q c (suc j) stages → ShowStages v q c ports (suc j) stages
    → ShowNext v q (cycle_by circuit q c ports) (suc j) stages
nexts_shown v q is c ports [] j comes wired e stage_regs bits shown = tt
nexts_shown v q is c ports (stage ∷ more) j comes wired e stage_regs bits shown =
    let n = stage_regs.0.count in
    let g = first_grows q is (suc j) (suc (suc j)) (omega arith) in (
      keep_bit v stage.next comes stage.full (move_net stage more) (moves_by circuit q c ports j) (c.full (suc j)) (moves_by circuit q c ports (suc j)) wired.0 e stage_regs.0.full shown.1,
      dones_shown v q is c ports (suc j) (move_net stage more) stage.sites (first q (suc j)) (omega arith) (omega (arith, n, g)) wired.1 bits.0 shown.0 shown.1,
      nexts_shown v q is c ports more (suc j) (move_net stage more) wired.2 shown.1 stage_regs.1 bits.1 shown.2,
    )

-- what the move of a stage says
pub move_shown : (v : Values) (q : Pipeline) (c : Registers) (ports : Ports) (stages : List StageNets) (j k : ℕ) → k < length stages → ShowStages v q c ports j stages
    → atom_value v (move_at stages k) ≡ bit (moves_by circuit q c ports (k + j))
move_shown v q c ports [] j k l shown = absurd (omega (arith, l))
move_shown v q c ports (stage ∷ more) j zero l shown = let e : zero + j ≡ j = omega arith in shown.1 ∙ ap (λ i. bit (moves_by circuit q c ports i)) (sym e)
move_shown v q c ports (stage ∷ more) j (suc k) l shown =
    let e : k + suc j ≡ suc k + j = omega arith in
    move_shown v q c ports more (suc j) k (omega arith) shown.2 ∙ ap (λ i. bit (moves_by circuit q c ports i)) e

pub control_shows_the_next_bits : (v : Values) (run : Atom) (q : Pipeline) → IsPipeline q → (stages : List StageNets) (c : Registers) (ports : Ports) → IsControl v run q stages
    → atom_value v run ≡ bit true → AreHeld v q c ports 0 stages → AreAllDoneBits v q c 0 stages → ShowNext v q (cycle_by circuit q c ports) 0 stages
control_shows_the_next_bits v run q is stages c ports control r stage_regs bits =
    go stages control.count control.next stage_regs bits (control_shows_the_cycle v run q stages c ports control r stage_regs)
  where
    go : (all : List StageNets) → length all ≡ q.stages → AreNext v (move_at all q.last) all → AreHeld v q c ports 0 all → AreAllDoneBits v q c 0 all → ShowStages v q c ports 0 all
        → ShowNext v q (cycle_by circuit q c ports) 0 all
    go [] n wired stage_regs bits shown = tt
    go (stage ∷ more) n wired stage_regs bits shown =
        let last = is.last in
        let zero_on : q.last + 0 ≡ q.last = omega arith in
        let ends = move_shown v q c ports (stage ∷ more) 0 q.last (omega arith) shown ∙ ap (λ i. bit (moves_by circuit q c ports i)) zero_on in
        let count = stage_regs.0.count in
        let g = first_grows q is 0 1 (omega arith) in (
          keep_bit v stage.next (move_at (stage ∷ more) q.last) stage.full (move_net stage more) (moves_by circuit q c ports q.last) (c.full 0) (moves_by circuit q c ports 0) wired.0 ends stage_regs.0.full shown.1,
          dones_shown v q is c ports 0 (move_net stage more) stage.sites (first q 0) (omega arith) (omega (arith, count, g)) wired.1 bits.0 shown.0 shown.1,
          nexts_shown v q is c ports more 0 (move_net stage more) wired.2 shown.1 stage_regs.1 bits.1 shown.2,
        )
