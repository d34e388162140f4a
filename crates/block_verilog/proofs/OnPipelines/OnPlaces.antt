-- How many signals a proc's values have in each stage.
use Rattle.std.proofs.Common.{◌≡◌, ℕ, zero, suc, ◌+◌, ◌-◌, ◌*◌, ◌<◌, ◌≤◌, List, [], ◌∷◌, length, Bool, true, false, cond, Some, refl, sym, ap, ◌∙◌, arith}
use Rattle.std.specs.Prelude.{slice_get, nat_le, ◌||◌}
use Rattle.std.proofs.lemmas.Bool.Decides.{nat_tests}
use Rattle.ir_tree.specs.declared.node.Node.{Node}
use Rattle.ir_tree.specs.declared.node.Operand.{Operand}
use Rattle.ir_tree.specs.declared.node.Operand.TheVariants as operand
use Rattle.ir_tree.specs.Types.{ty_of}
use Rattle.ir_tree.specs.Rules.Fitting.{type_in, type_or, types_behind}
use Rattle.vlog_tree.specs.Value.{Values}
use Rattle.block_build.specs.declared.netlist.fifos.ChannelView.{ChannelView}
use Rattle.block_build.specs.declared.netlist.places.Place.{Place}
use Rattle.block_build.specs.Netlist.Leaves.{leaf_widths, nets}
use Rattle.block_build.specs.Netlist.Nexts.{is_literal}
use Rattle.block_build.specs.Netlist.Nodes.{IsEarlier}
use Rattle.block_build.specs.Netlist.Places.{place_at, optional_at, shown_at}
use Rattle.block_verilog.specs.Signals.Nodes.{place_of, NodesMade}
use Rattle.block_verilog.specs.Signals.Registers.{stage_at, copies_from, state_place}
use Rattle.block_verilog.specs.Pipelines.Nets.{ProcParts}
use Rattle.block_verilog.proofs.OnPipelines.OnTaken.{nets_long}

pub place_long : (j : ℕ) (place : Place) → length (place_at j place) ≡ length place.own
place_long j place = go (nat_le j place.stage || place.constant)
  where
    go : (t : Bool) → length (cond t place.own (nets (place.copies + (j - place.stage - 1) * length place.own) (length place.own))) ≡ length place.own
    go true = refl
    go false = nets_long (place.copies + (j - place.stage - 1) * length place.own) (length place.own)

-- behind the stage in which it comes to be a value stands in copies, a literal where it is
pub place_behind : (j : ℕ) (place : Place) → place.stage ≤ j → place.constant ≡ false → place_at (suc j) place ≡ nets (place.copies + (j - place.stage) * length place.own) (length place.own)
place_behind j place l is =
    let late : nat_le (suc j) place.stage ≡ false = grind (arith, nat_tests, l) in
    let one : suc j - place.stage - 1 ≡ j - place.stage = omega (arith, l) in
    ap (λ t. cond (t || place.constant) place.own (nets (place.copies + (suc j - place.stage - 1) * length place.own) (length place.own))) late
    ∙ ap (λ t. cond t place.own (nets (place.copies + (suc j - place.stage - 1) * length place.own) (length place.own))) is
    ∙ ap (λ n. nets (place.copies + n * length place.own) (length place.own)) one

pub place_constant : (j : ℕ) (place : Place) → place.constant ≡ true → place_at j place ≡ place.own
place_constant j place is = ap (λ t. cond (nat_le j place.stage || t) place.own (nets (place.copies + (j - place.stage - 1) * length place.own) (length place.own))) is ∙ go (nat_le j place.stage)
  where
    go : (t : Bool) → cond (t || true) place.own (nets (place.copies + (j - place.stage - 1) * length place.own) (length place.own)) ≡ place.own
    go true = refl
    go false = refl

-- in the first stage it is where it comes to be
pub place_first : (place : Place) → place_at 0 place ≡ place.own
place_first place =
    let soon : nat_le 0 place.stage ≡ true = grind (arith, nat_tests) in
    ap (λ t. cond (t || place.constant) place.own (nets (place.copies + (0 - place.stage - 1) * length place.own) (length place.own))) soon

there_at : {A : Type 0} (xs : List A) (i : ℕ) → i < length xs → (x : A) × (slice_get xs i ≡ Some x)
there_at [] i l = absurd (omega (arith, l))
there_at (x ∷ xs) zero l = (x, refl)
there_at (x ∷ xs) (suc i) l = there_at xs i (omega (arith, l))

-- a node's place
pub record IsPlaced (v : Values) (views : List ChannelView) (parts : ProcParts) (k : ℕ) (n : Node) (place : Place) : Type 0 where
  pub at : slice_get parts.made.nodes.places.nodes k ≡ Some place
  pub stage : place.stage ≡ stage_at parts.scheduled.stages k
  pub copies : place.copies ≡ copies_from parts.layout.registers k
  pub constant : place.constant ≡ is_literal n.attributes
  pub long : length place.own ≡ length (leaf_widths (ty_of n.ty))

pub node_placed : (v : Values) (views : List ChannelView) (parts : ProcParts) → NodesMade v parts.scheduled.channels parts.scheduled.proc parts.scheduled.stages parts.layout.registers views parts.made.nodes
    → (k : ℕ) (n : Node) → slice_get parts.scheduled.proc.nodes k ≡ Some n → (place : Place) × IsPlaced v views parts k n place
node_placed v views parts all k n there =
    let m = all.each k n there in (
      place_of m.own (stage_at parts.scheduled.stages k) (copies_from parts.layout.registers k) (is_literal n.attributes),
      record { at = m.place; stage = refl; copies = refl; constant = refl; long = m.count },
    )

pub shown_place : (v : Values) (views : List ChannelView) (parts : ProcParts) (k : ℕ) (n : Node) (place : Place) → IsPlaced v views parts k n place → (j : ℕ) → shown_at parts.made.nodes.places j (operand.Node k) ≡ place_at j place
shown_place v views parts k n place p j = ap (optional_at j) p.at

-- each operand has as many signals as there are numbers in its type
pub shown_long : (v : Values) (views : List ChannelView) (parts : ProcParts) → NodesMade v parts.scheduled.channels parts.scheduled.proc parts.scheduled.stages parts.layout.registers views parts.made.nodes
    → (j : ℕ) (o : Operand) → IsEarlier (length parts.scheduled.proc.nodes) o
    → length (shown_at parts.made.nodes.places j o) ≡ length (leaf_widths (ty_of (type_in (types_behind parts.scheduled.proc.state parts.scheduled.proc.nodes) o)))
shown_long v views parts all j operand.State early =
    ap (λ p. length (place_at j p)) all.state ∙ place_long j (state_place parts.scheduled.proc.state parts.layout.registers)
    ∙ nets_long parts.layout.registers.state (length (leaf_widths (ty_of parts.scheduled.proc.state)))
shown_long v views parts all j (operand.Node k) early =
    let x = there_at parts.scheduled.proc.nodes k early in
    let p = node_placed v views parts all k x.0 x.1 in
    ap length (shown_place v views parts k x.0 p.0 p.1 j) ∙ place_long j p.0 ∙ p.1.long
    ∙ ap (λ o. length (leaf_widths (ty_of (type_or (types_behind parts.scheduled.proc.state parts.scheduled.proc.nodes).missing o)))) (sym x.1)
