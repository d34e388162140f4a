-- What a legal schedule says of a proc's operands.
use Rattle.std.proofs.Common.{◌≡◌, ℕ, zero, suc, ◌≤◌, List, [], ◌∷◌, ◌++◌, length, get_or, Option, Some, None, refl, sym, ap, ◌∙◌, subst, arith}
use Rattle.std.specs.Prelude.{slice_get, option_map, Contains}
use Rattle.std.specs.List.{AllByRecursion}
use Rattle.std.proofs.lemmas.List.{length-map}
use Rattle.std.proofs.lemmas.Option.{get_or_from_slice_get, slice_get-map}
use Rattle.ir_tree.specs.declared.node.Attributes.{Attributes}
use Rattle.ir_tree.specs.declared.node.Attributes.TheVariants as attributes
use Rattle.ir_tree.specs.declared.node.Node.{Node}
use Rattle.ir_tree.specs.declared.node.Operand.{Operand}
use Rattle.ir_tree.specs.declared.node.Operand.TheVariants as operand
use Rattle.ir_tree.specs.declared.package.Proc.{Proc}
use Rattle.pipe_schedule.specs.Legal.{IsLegalAt, operand_stage, turn_stage}
use Rattle.pipe_schedule.specs.Timed.{TimedNode, nodes_among, if_there, operands_in, timed_node, timed_nodes, timed_proc, node_at, no_node}
use Rattle.block_build.specs.Netlist.LastReads.{stage_by}
use Rattle.block_build.specs.Netlist.Nodes.{optional_read, attributes_read, operands_read, ReadEarlierNodes, AreStaged}
use Rattle.block_verilog.specs.Signals.Registers.{stage_at, stage_of}
use Rattle.block_verilog.specs.Schedule.Pipelines.{site_stages}
use Rattle.block_verilog.proofs.OnPipelines.OnFound.{site_stage_is}

-- ---- stages, in the words of schedules

pub stage_is : (stages : List ℕ) (k : ℕ) → stage_at stages k ≡ get_or stages k 0
stage_is [] zero = refl
stage_is [] (suc k) = refl
stage_is (stage ∷ stages) zero = refl
stage_is (stage ∷ stages) (suc k) = stage_is stages k

pub stage_of_operand : (stages : List ℕ) (o : Operand) → stage_of stages o ≡ operand_stage stages o
stage_of_operand stages operand.State = refl
stage_of_operand stages (operand.Node k) = stage_is stages k

pub stages_same : (stages : List ℕ) → stage_of stages ≡ stage_by stages
stages_same stages = λ d o. same o d
  where
    same : (o : Operand) → stage_of stages o ≡ stage_by stages o
    same operand.State = refl
    same (operand.Node k) = stage_is stages k

-- ---- operands

optional_same : (o : Option Operand) → if_there o ≡ optional_read o
optional_same None = refl
optional_same (Some o) = refl

reads_same : (a : Attributes) → operands_in a ≡ attributes_read a
reads_same attributes.None = refl
reads_same (attributes.StartAndWidth start width) = refl
reads_same (attributes.Width width) = refl
reads_same (attributes.NewBitCount width) = refl
reads_same (attributes.Cases cases default) = ap (λ os. cases ++ os) (optional_same default)
reads_same (attributes.Index i) = refl
reads_same (attributes.Indices i) = refl
reads_same (attributes.Value c) = refl
reads_same (attributes.Channel predicate c) = optional_same predicate

contains_more : (x y : ℕ) (xs : List ℕ) → Contains xs y → Contains (x ∷ xs) y
contains_more x y xs (k, l, e) = (suc k, omega (arith, l), e)

no_later : (stages : List ℕ) (k : ℕ) (os : List Operand) → ((j : ℕ) → Contains (nodes_among os) j → get_or stages j 0 ≤ get_or stages k 0) → AllByRecursion (λ o. stage_of stages o ≤ stage_of stages (operand.Node k)) os
no_later stages k [] h = tt
no_later stages k (operand.State ∷ os) h = (omega arith, no_later stages k os h)
no_later stages k (operand.Node j ∷ os) h =
    let here = h j (0, omega arith, refl) in
    let own = stage_is stages j in
    let at = stage_is stages k in
    (omega (arith, here, own, at), no_later stages k os (λ i c. h i (contains_more j i (nodes_among os) c)))

timed_is : (proc : Proc) (k : ℕ) (n : Node) → slice_get proc.nodes k ≡ Some n → node_at (timed_nodes proc) k ≡ timed_node proc.state proc.nodes n
timed_is proc k n there =
    get_or_from_slice_get (timed_nodes proc) k (timed_node proc.state proc.nodes n) no_node
    (slice_get-map (timed_node proc.state proc.nodes) proc.nodes k ∙ ap (option_map (timed_node proc.state proc.nodes)) there)

operands_stand : (proc : Proc) (clock : ℕ) (stages : List ℕ) → IsLegalAt (timed_nodes proc) clock stages → (k : ℕ) (n : Node) → slice_get proc.nodes k ≡ Some n
    → AllByRecursion (λ o. stage_of stages o ≤ stage_of stages (operand.Node k)) (operands_read n)
operands_stand proc clock stages l k n there =
    subst (λ os. AllByRecursion (λ o. stage_of stages o ≤ stage_of stages (operand.Node k)) (n.operands ++ os)) (reads_same n.attributes)
    (no_later stages k (n.operands ++ operands_in n.attributes)
    (λ j c. l.operands k j (subst (λ (t : TimedNode). Contains t.sources j) (sym (timed_is proc k n there)) c)))

pub stages_long : (proc : Proc) (clock : ℕ) (stages : List ℕ) → IsLegalAt (timed_nodes proc) clock stages → length stages ≡ length proc.nodes
stages_long proc clock stages l = l.count ∙ length-map proc.nodes (timed_node proc.state proc.nodes)

pub are_staged : (proc : Proc) (clock : ℕ) (stages : List ℕ) → IsLegalAt (timed_nodes proc) clock stages → ReadEarlierNodes proc.nodes → AreStaged proc.nodes (stage_of stages) (λ i. get_or (site_stages proc.nodes stages) i 0)
are_staged proc clock stages l early = record {
  state = refl;
  earlier = early;
  operands = operands_stand proc clock stages l;
  sites = λ k n there. site_stage_is proc.nodes stages k n (stages_long proc clock stages l) there;
}

-- the next state is there when an activation gives the turn back
pub next_is_early : (proc : Proc) (stages : List ℕ) → stage_of stages proc.next ≤ turn_stage (timed_proc proc) stages
next_is_early proc stages = let e = stage_of_operand stages proc.next in omega (arith, e)
