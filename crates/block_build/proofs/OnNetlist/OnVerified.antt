-- What rules say of a proc that a netlist is made of.
use Rattle.std.proofs.Common.{◌≡◌, ℕ, zero, suc, ◌+◌, ◌-◌, List, [], ◌∷◌, ◌++◌, length, IsTrue, sym, subst, arith, Option, Some, None}
use Rattle.std.specs.Prelude.{slice_get, not, get_or, ◌&&◌}
use Rattle.std.specs.List.{AllByRecursion}
use Rattle.std.proofs.lemmas.Bool.Decides.{nat_tests}
use Rattle.xb_span.specs.declared.span.Span.{Span}
use Rattle.xb_span.specs.Spans.{nowhere}
use Rattle.ir_tree.specs.declared.ir_type.IrType.{IrType}
use Rattle.ir_tree.specs.declared.node.Attributes.{Attributes}
use Rattle.ir_tree.specs.declared.node.Attributes.TheVariants as attributes
use Rattle.ir_tree.specs.declared.node.Node.{Node}
use Rattle.ir_tree.specs.declared.node.Operand.{Operand}
use Rattle.ir_tree.specs.declared.node.Operand.TheVariants as operand
use Rattle.ir_tree.specs.declared.package.Channel.{Channel}
use Rattle.ir_tree.specs.declared.package.Package.{Package}
use Rattle.ir_tree.specs.declared.package.Proc.{Proc}
use Rattle.ir_tree.specs.Rules.Fitting.{type_in, types_behind}
use Rattle.ir_tree.specs.Rules.Lines.{Seen, see, node_checks, is_named, is_id_after, is_there, are_there, is_there_if, attributes_there}
use Rattle.ir_tree.specs.Rules.Typed.Typed.{none_broken}
use Rattle.ir_tree.specs.Rules.Verified.{IsVerified, nodes_checks}
use Rattle.ir_tree.specs.NodeTypes.Types.{same_type}
use Rattle.ir_tree.proofs.Lemmas.Rules.Typed.{verified_proc}
use Rattle.ir_tree.proofs.Lemmas.Rules.Typed.Checked.{both_true, not_not_true, parts_not}
use Rattle.ir_tree.proofs.Lemmas.Rules.Typed.Tests.{same_is}
use Rattle.block_build.specs.Netlist.Nodes.{optional_read, attributes_read, operands_read, IsEarlier, ReadEarlierNodes}

one_earlier : (k : ℕ) (o : Operand) → IsTrue (is_there k o) → IsEarlier k o
one_earlier k operand.State h = tt
one_earlier k (operand.Node i) h = grind (arith, nat_tests, h)

all_earlier : (k : ℕ) (os : List Operand) → IsTrue (are_there k os) → AllByRecursion (IsEarlier k) os
all_earlier k [] h = tt
all_earlier k (o ∷ os) h = let both = both_true (is_there k o) (are_there k os) h in (one_earlier k o both.0, all_earlier k os both.1)

optional_earlier : (k : ℕ) (o : Option Operand) → IsTrue (is_there_if k o) → AllByRecursion (IsEarlier k) (optional_read o)
optional_earlier k None h = tt
optional_earlier k (Some o) h = (one_earlier k o h, tt)

joined : (k : ℕ) (xs ys : List Operand) → AllByRecursion (IsEarlier k) xs → AllByRecursion (IsEarlier k) ys → AllByRecursion (IsEarlier k) (xs ++ ys)
joined k [] ys a b = b
joined k (x ∷ xs) ys a b = (a.0, joined k xs ys a.1 b)

attributes_earlier : (k : ℕ) (a : Attributes) → IsTrue (attributes_there k a) → AllByRecursion (IsEarlier k) (attributes_read a)
attributes_earlier k attributes.None h = tt
attributes_earlier k (attributes.StartAndWidth start width) h = tt
attributes_earlier k (attributes.Width width) h = tt
attributes_earlier k (attributes.NewBitCount width) h = tt
attributes_earlier k (attributes.Cases cases default) h =
    let both = both_true (are_there k cases) (is_there_if k default) h in joined k cases (optional_read default) (all_earlier k cases both.0) (optional_earlier k default both.1)
attributes_earlier k (attributes.Index i) h = tt
attributes_earlier k (attributes.Indices i) h = (one_earlier k i h, tt)
attributes_earlier k (attributes.Value c) h = tt
attributes_earlier k (attributes.Channel predicate c) h = optional_earlier k predicate h

node_earlier : (channels : List Channel) (state : IrType) (before : List Node) (span : Span) (i : ℕ) (seen : Seen) (n : Node) → IsTrue (none_broken (node_checks channels state before span i seen n)) → AllByRecursion (IsEarlier i) (operands_read n)
node_earlier channels state before span i seen n h =
    let a = both_true (not (not (is_named (slice_get before (i - 1)) i n))) _ h in
    let named = both_true (is_id_after (slice_get before (i - 1)) n.id) (are_there i n.operands && attributes_there i n.attributes) (not_not_true (is_named (slice_get before (i - 1)) i n) a.0) in
    let both = both_true (are_there i n.operands) (attributes_there i n.attributes) named.1 in
    joined i n.operands (attributes_read n.attributes) (all_earlier i n.operands both.0) (attributes_earlier i n.attributes both.1)

nodes_earlier : (channels : List Channel) (state : IrType) (spans : List Span) (nodes before : List Node) (i : ℕ) (seen : Seen) → IsTrue (none_broken (nodes_checks channels state spans before i seen nodes))
    → (k : ℕ) (n : Node) → slice_get nodes k ≡ Some n → AllByRecursion (IsEarlier (i + k)) (operands_read n)
nodes_earlier channels state spans [] before i seen h k n e = absurd (cc)
nodes_earlier channels state spans (x ∷ nodes) before i seen h zero n e =
    let same : x ≡ n = cc in
    let at : i ≡ i + 0 = omega arith in
    let parts = parts_not (node_checks channels state before (get_or spans i nowhere) i seen x) (nodes_checks channels state spans (before ++ x ∷ []) (suc i) (see i x seen) nodes) h in
    subst (λ y. AllByRecursion (IsEarlier (i + 0)) (operands_read y)) same (subst (λ j. AllByRecursion (IsEarlier j) (operands_read x)) at (node_earlier channels state before (get_or spans i nowhere) i seen x parts.0))
nodes_earlier channels state spans (x ∷ nodes) before i seen h (suc k) n e =
    let at : suc i + k ≡ i + suc k = omega arith in
    let parts = parts_not (node_checks channels state before (get_or spans i nowhere) i seen x) (nodes_checks channels state spans (before ++ x ∷ []) (suc i) (see i x seen) nodes) h in
    subst (λ j. AllByRecursion (IsEarlier j) (operands_read n)) at (nodes_earlier channels state spans nodes (before ++ x ∷ []) (suc i) (see i x seen) parts.1 k n e)

-- nodes read nodes before them alone
pub verified_nodes_read_earlier : (ir : Package) (p : ℕ) (proc : Proc) → IsVerified ir → slice_get ir.procs p ≡ Some proc → ReadEarlierNodes proc.nodes
verified_nodes_read_earlier ir p proc h e k n there =
    let v = verified_proc ir h p proc e in
    let at : 0 + k ≡ k = omega arith in
    subst (λ j. AllByRecursion (IsEarlier j) (operands_read n)) at (nodes_earlier ir.channels proc.state v.spans proc.nodes [] 0 v.seen v.nodes k n there)

-- the next state is the state or a node, of the state's type
pub verified_next_is_there : (ir : Package) (p : ℕ) (proc : Proc) → IsVerified ir → slice_get ir.procs p ≡ Some proc → IsEarlier (length proc.nodes) proc.next
verified_next_is_there ir p proc h e =
    let v = verified_proc ir h p proc e in
    let a = both_true (not (not (is_there (length proc.nodes) proc.next))) _ v.next in
    one_earlier (length proc.nodes) proc.next (not_not_true (is_there (length proc.nodes) proc.next) a.0)

pub verified_next_is_typed : (ir : Package) (p : ℕ) (proc : Proc) → IsVerified ir → slice_get ir.procs p ≡ Some proc → type_in (types_behind proc.state proc.nodes) proc.next ≡ proc.state
verified_next_is_typed ir p proc h e =
    let v = verified_proc ir h p proc e in
    let a = both_true (not (not (is_there (length proc.nodes) proc.next))) _ v.next in
    let b = both_true (not (not (same_type proc.state (type_in (types_behind proc.state proc.nodes) proc.next)))) _ a.1 in
    sym (same_is proc.state (type_in (types_behind proc.state proc.nodes) proc.next) (not_not_true _ b.0))
