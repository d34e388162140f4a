-- A literal's signals carry its value in every cycle.
use Rattle.std.proofs.Common.{◌≡◌, ℕ, List, [], ◌∷◌, ◌++◌, length, map, true, IsTrue, ◌&&◌, Some, refl, sym, ap, ◌∙◌, subst, arith}
use Rattle.std.specs.Prelude.{slice_get}
use Rattle.std.specs.List.{AllByRecursion}
use Rattle.std.proofs.lemmas.Bool.Decides.{nat_tests}
use Rattle.xb_bits.specs.Word.{Word}
use Rattle.xb_value.specs.declared.value.Value.{Value}
use Rattle.delay_model.specs.declared.op.Op.{Op}
use Rattle.delay_model.specs.declared.op.Op.TheVariants as op
use Rattle.delay_model.specs.Signatures.{is_met, count_of}
use Rattle.ir_tree.specs.declared.node.Attributes.{Attributes}
use Rattle.ir_tree.specs.declared.node.Attributes.TheVariants as attributes
use Rattle.ir_tree.specs.declared.node.Node.{Node}
use Rattle.ir_tree.specs.declared.node.Operand.{Operand}
use Rattle.ir_tree.specs.declared.node.Operand.TheVariants as operand
use Rattle.ir_tree.specs.declared.node.Role.TheVariants as role
use Rattle.ir_tree.specs.declared.package.Channel.{Channel}
use Rattle.ir_tree.specs.declared.package.Proc.{Proc}
use Rattle.ir_tree.specs.NodeValues.{operand_value, role_by, role_of}
use Rattle.ir_tree.specs.Rules.Fitting as fitting
use Rattle.ir_tree.specs.Rules.Fitting.{Types, node_fits, types_fit}
use Rattle.ir_tree.proofs.Lemmas.Rules.Typed.Checked.{both_true}
use Rattle.vlog_tree.specs.Value.{Values, atom_value}
use Rattle.block_build.specs.Netlist.Leaves.{ShowsValue}
use Rattle.block_build.specs.Netlist.Nexts.{is_literal}
use Rattle.block_build.specs.Netlist.Nodes.{attributes_read, operands_read, site_index, word_nets, IsHeard, HaveOperandTypes, ProcNets, NodesShow}

-- it reads nothing, and is no site
record IsAlone (n : Node) : Type 0 where
  reads : operands_read n ≡ []
  pure : role_of n ≡ role.Pure

no_operands : (o : Op) (os : List Operand) → IsTrue (fitting.is_literal o) → IsTrue (is_met (count_of o) (length os)) → os ≡ []
no_operands op.Literal [] is met = refl
no_operands op.Literal (x ∷ os) is met = absurd (grind (arith, nat_tests, met))
no_operands _ os is met = absurd (cc)

alone_by : (channels : List Channel) (z : Types) (n : Node) (a : Attributes) → n.attributes ≡ a → is_literal a ≡ true → IsTrue (is_met (count_of n.op) (length n.operands) && types_fit channels z n a) → IsAlone n
alone_by channels z n (attributes.Value c) e is fit =
    let both = both_true (is_met (count_of n.op) (length n.operands)) (fitting.is_literal n.op) fit in
    let none = no_operands n.op n.operands both.1 both.0 in
    record { reads = ap (λ os. os ++ attributes_read n.attributes) none ∙ ap attributes_read e; pure = ap (role_by n.op) e }
alone_by channels z n _ e is fit = absurd (cc)

literal_alone : (channels : List Channel) (z : Types) (n : Node) → is_literal n.attributes ≡ true → IsTrue (node_fits channels z n) → IsAlone n
literal_alone channels z n is fit = alone_by channels z n n.attributes refl is fit

pub literal_kept : (channels : List Channel) (proc : Proc) (nets : ProcNets) (stage : Operand → ℕ) (v next : Values) → NodesShow v channels proc nets stage → NodesShow next channels proc nets stage
    → (k : ℕ) (n : Node) → slice_get proc.nodes k ≡ Some n → (z : Types) → IsTrue (node_fits channels z n) → is_literal n.attributes ≡ true
    → (s : Value) (values : List Value) (words : ℕ → Word) → HaveOperandTypes proc.state proc.nodes s values
    → map (atom_value next) (nets.shown (stage (operand.Node k)) (operand.Node k)) ≡ map (atom_value v) (nets.shown (stage (operand.Node k)) (operand.Node k))
literal_kept channels proc nets stage v next shows shows_next k n there z fit is s values words typed =
    let alone = literal_alone channels z n is fit in
    shows_next k n there s values words typed (reads next alone) (heard next alone) ∙ sym (shows k n there s values words typed (reads v alone) (heard v alone))
  where
    reads : (u : Values) → IsAlone n → AllByRecursion (λ o. ShowsValue u (nets.shown (stage (operand.Node k)) o) (operand_value s values o)) (operands_read n)
    reads u alone = subst (AllByRecursion (λ o. ShowsValue u (nets.shown (stage (operand.Node k)) o) (operand_value s values o))) (sym alone.reads) tt

    heard : (u : Values) → IsAlone n → IsHeard u channels (word_nets nets) words (site_index proc.nodes k) (role_of n)
    heard u alone = subst (IsHeard u channels (word_nets nets) words (site_index proc.nodes k)) (sym alone.pure) tt
