-- All nodes of a stage are shown where what they read of earlier stages is, and the words of its receives stand on their signals.
use Rattle.std.proofs.Common.{◌≡◌, ℕ, zero, suc, ◌<◌, ◌≤◌, List, [], ◌∷◌, refl, sym, ◌∙◌, subst, arith, Some, inl, inr}
use Rattle.std.specs.Prelude.{slice_get, ◌⊎◌}
use Rattle.std.specs.List.{AllByRecursion}
use Rattle.std.proofs.lemmas.Bool.{cases_lt}
use Rattle.xb_bits.specs.Word.{Word}
use Rattle.xb_value.specs.declared.value.Value.{Value}
use Rattle.ir_tree.specs.declared.node.Node.{Node}
use Rattle.ir_tree.specs.declared.node.Operand.{Operand}
use Rattle.ir_tree.specs.declared.node.Operand.TheVariants as operand
use Rattle.ir_tree.specs.declared.package.Channel.{Channel}
use Rattle.ir_tree.specs.declared.package.Proc.{Proc}
use Rattle.ir_tree.specs.NodeValues.{operand_value, node_values}
use Rattle.vlog_tree.specs.Value.{Values}
use Rattle.block_build.specs.Netlist.Leaves.{ShowsValue}
use Rattle.block_build.specs.Netlist.Procs.{setting_by}
use Rattle.block_build.specs.Netlist.Nodes.{operands_read, IsEarlier, value_by_words, AreStaged, HaveOperandTypes, ProcNets, NodesShow, ShowEarlier, AreHeard}
use Rattle.block_build.proofs.OnNetlist.OnNodeValues.{node_equation}

-- what stands before something that is there is there
there_before : (nodes : List Node) (k i : ℕ) (n : Node) → slice_get nodes k ≡ Some n → i < k → (m : Node) × (slice_get nodes i ≡ Some m)
there_before [] k i n e l = absurd (cc)
there_before (x ∷ nodes) zero i n e l = absurd (omega (arith, l))
there_before (x ∷ nodes) (suc k) zero n e l = (x, refl)
there_before (x ∷ nodes) (suc k) (suc i) n e l = there_before nodes k i n e (omega (arith, l))

-- of one list of operands
abbrev ShownIn : Values → List Channel → Proc → ProcNets → ℕ → Value → (ℕ → Word) → Operand → Type 0
ShownIn v channels proc nets j s words o = ShowsValue v (nets.shown j o) (value_by_words channels proc.nodes s words o)

operands_shown : (v : Values) (channels : List Channel) (proc : Proc) (nets : ProcNets) (stage : Operand → ℕ) (j k : ℕ) (n : Node) (s : Value) (words : ℕ → Word) → stage operand.State ≡ 0
    → slice_get proc.nodes k ≡ Some n → (j ≡ 0 → ShownIn v channels proc nets j s words operand.State)
    → ((i : ℕ) (m : Node) → i < k → slice_get proc.nodes i ≡ Some m → stage (operand.Node i) ≡ j → ShownIn v channels proc nets j s words (operand.Node i))
    → (os : List Operand) → AllByRecursion (IsEarlier k) os → AllByRecursion (λ o. stage o ≤ j) os → AllByRecursion (λ o. stage o < j → ShownIn v channels proc nets j s words o) os
    → AllByRecursion (ShownIn v channels proc nets j s words) os
operands_shown v channels proc nets stage j k n s words zero_stage e state ih [] before early shown = tt
operands_shown v channels proc nets stage j k n s words zero_stage e state ih (o ∷ os) before early shown =
    (here o before.0 early.0 shown.0, operands_shown v channels proc nets stage j k n s words zero_stage e state ih os before.1 early.1 shown.1)
  where
    own : (o : Operand) → IsEarlier k o → stage o ≡ j → ShownIn v channels proc nets j s words o
    own operand.State before is = state (sym is ∙ zero_stage)
    own (operand.Node i) before is = let t = there_before proc.nodes k i n e before in ih i t.0 before t.1 is

    here : (o : Operand) → IsEarlier k o → stage o ≤ j → (stage o < j → ShownIn v channels proc nets j s words o) → ShownIn v channels proc nets j s words o
    here o before early shown = go (cases_lt (stage o) j)
      where
        go : (stage o < j) ⊎ (j ≤ stage o) → ShownIn v channels proc nets j s words o
        go (inl l) = shown l
        go (inr l) = own o before (omega (arith, l, early))

nodes_shown_below : (v : Values) (channels : List Channel) (proc : Proc) (nets : ProcNets) (stage : Operand → ℕ) (site_stage : ℕ → ℕ) (j : ℕ) (s : Value) (words : ℕ → Word) → AreStaged proc.nodes stage site_stage
    → NodesShow v channels proc nets stage → HaveOperandTypes proc.state proc.nodes s (node_values (setting_by channels s words) proc.nodes) → (j ≡ 0 → ShownIn v channels proc nets j s words operand.State)
    → ShowEarlier v channels proc nets stage j s words → AreHeard v channels proc nets stage j words
    → (bound k : ℕ) (n : Node) → k < bound → slice_get proc.nodes k ≡ Some n → stage (operand.Node k) ≡ j → ShownIn v channels proc nets j s words (operand.Node k)
nodes_shown_below v channels proc nets stage site_stage j s words staged made typed state earlier heard zero k n l e is = absurd (omega (arith, l))
nodes_shown_below v channels proc nets stage site_stage j s words staged made typed state earlier heard (suc bound) k n l e is =
    let operands = operands_shown v channels proc nets stage j k n s words staged.state e state
    (λ i m less there in_stage. nodes_shown_below v channels proc nets stage site_stage j s words staged made typed state earlier heard bound i m (omega (arith, less, l)) there in_stage)
    (operands_read n) (staged.earlier k n e) (subst (λ b. AllByRecursion (λ o. stage o ≤ b) (operands_read n)) is (staged.operands k n e)) (earlier k n e is) in
    let at : AllByRecursion (λ o. ShowsValue v (nets.shown (stage (operand.Node k)) o) (operand_value s (node_values (setting_by channels s words) proc.nodes) o)) (operands_read n) =
    subst (λ b. AllByRecursion (λ o. ShowsValue v (nets.shown b o) (operand_value s (node_values (setting_by channels s words) proc.nodes) o)) (operands_read n)) (sym is) operands in
    let shown = made k n e s (node_values (setting_by channels s words) proc.nodes) words typed at (heard k n e is) in
    subst (λ b. ShowsValue v (nets.shown b (operand.Node k)) (value_by_words channels proc.nodes s words (operand.Node k))) is
    (subst (ShowsValue v (nets.shown (stage (operand.Node k)) (operand.Node k))) (sym (node_equation channels proc.nodes s words staged.earlier k n e)) shown)

pub nodes_are_shown : (v : Values) (channels : List Channel) (proc : Proc) (nets : ProcNets) (stage : Operand → ℕ) (site_stage : ℕ → ℕ) (j : ℕ) (s : Value) (words : ℕ → Word) → AreStaged proc.nodes stage site_stage
    → NodesShow v channels proc nets stage → HaveOperandTypes proc.state proc.nodes s (node_values (setting_by channels s words) proc.nodes) → (j ≡ 0 → ShowsValue v (nets.shown j operand.State) s)
    → ShowEarlier v channels proc nets stage j s words → AreHeard v channels proc nets stage j words
    → (k : ℕ) (n : Node) → slice_get proc.nodes k ≡ Some n → stage (operand.Node k) ≡ j → ShowsValue v (nets.shown j (operand.Node k)) (value_by_words channels proc.nodes s words (operand.Node k))
nodes_are_shown v channels proc nets stage site_stage j s words staged made typed state earlier heard k n e is =
    nodes_shown_below v channels proc nets stage site_stage j s words staged made typed state earlier heard (suc k) k n (omega arith) e is

-- and so is all that a node of the stage reads
pub operands_are_shown : (v : Values) (channels : List Channel) (proc : Proc) (nets : ProcNets) (stage : Operand → ℕ) (site_stage : ℕ → ℕ) (j : ℕ) (s : Value) (words : ℕ → Word) → AreStaged proc.nodes stage site_stage
    → NodesShow v channels proc nets stage → HaveOperandTypes proc.state proc.nodes s (node_values (setting_by channels s words) proc.nodes) → (j ≡ 0 → ShowsValue v (nets.shown j operand.State) s)
    → ShowEarlier v channels proc nets stage j s words → AreHeard v channels proc nets stage j words
    → (k : ℕ) (n : Node) → slice_get proc.nodes k ≡ Some n → stage (operand.Node k) ≡ j → AllByRecursion (λ o. ShowsValue v (nets.shown j o) (value_by_words channels proc.nodes s words o)) (operands_read n)
operands_are_shown v channels proc nets stage site_stage j s words staged made typed state earlier heard k n e is =
    operands_shown v channels proc nets stage j k n s words staged.state e state
    (λ i m less there in_stage. nodes_are_shown v channels proc nets stage site_stage j s words staged made typed state earlier heard i m there in_stage)
    (operands_read n) (staged.earlier k n e) (subst (λ b. AllByRecursion (λ o. stage o ≤ b) (operands_read n)) is (staged.operands k n e)) (earlier k n e is)
