-- The signals of a proc's nodes: what each promises, and what they show in a stage.
use Rattle.std.specs.Prelude.{◌≡◌, ℕ, ◌<◌, ◌≤◌, List, [], ◌∷◌, ◌++◌, take, slice_get, Bool, true, is_some, if◌then◌else◌, Option, Some, None}
use Rattle.std.specs.List.{AllByRecursion}
use Rattle.xb_bits.specs.Word.{Word}
use Rattle.xb_value.specs.declared.value.Value.{Value}
use Rattle.xb_value.specs.Typing.{IsOfType}
use Rattle.xb_value.specs.declared.ty.Ty as ty
use Rattle.net_core.specs.Behavior.{IsWordOf, Turn, Skip, Receive, Give}
use Rattle.ir_tree.specs.declared.ir_type.IrType.{IrType}
use Rattle.ir_tree.specs.declared.node.Attributes.{Attributes}
use Rattle.ir_tree.specs.declared.node.Attributes.TheVariants as attributes
use Rattle.ir_tree.specs.declared.node.Node.{Node}
use Rattle.ir_tree.specs.declared.node.Operand.{Operand}
use Rattle.ir_tree.specs.declared.node.Operand.TheVariants as operand
use Rattle.ir_tree.specs.declared.node.Role.{Role}
use Rattle.ir_tree.specs.declared.node.Role.TheVariants as role
use Rattle.ir_tree.specs.declared.package.Channel.{Channel}
use Rattle.ir_tree.specs.declared.package.Proc.{Proc}
use Rattle.ir_tree.specs.Activations.{width_at, sent_by}
use Rattle.ir_tree.specs.NodeValues.{channel_type, role_of, operand_value, value_by, is_on, node_values, count_sites}
use Rattle.ir_tree.specs.Types.{ty_of}
use Rattle.ir_tree.specs.Rules.Fitting.{type_in, types_behind}
use Rattle.vlog_tree.specs.declared.expression.Atom.{Atom}
use Rattle.vlog_tree.specs.Value.{Values, bit, atom_value}
use Rattle.block_build.specs.Netlist.Leaves.{ShowsValue, first_or}
use Rattle.block_build.specs.Netlist.Procs.{setting_by}
use Rattle.block_build.specs.Netlist.Receives.{ReceiveNets}

-- ---- what nodes read

abbrev pub optional_read : Option Operand → List Operand
optional_read None = []
optional_read (Some o) = o ∷ []

-- cases and a default, an index, a predicate
abbrev pub attributes_read : Attributes → List Operand
attributes_read attributes.None = []
attributes_read (attributes.StartAndWidth start width) = []
attributes_read (attributes.Width width) = []
attributes_read (attributes.NewBitCount width) = []
attributes_read (attributes.Cases cases default) = cases ++ optional_read default
attributes_read (attributes.Index i) = []
attributes_read (attributes.Indices i) = i ∷ []
attributes_read (attributes.Value c) = []
attributes_read (attributes.Channel predicate c) = optional_read predicate

abbrev pub operands_read : Node → List Operand
operands_read n = n.operands ++ attributes_read n.attributes

-- it is the state, or a node before
abbrev pub IsEarlier : ℕ → Operand → Type 0
IsEarlier k operand.State = Unit {0}
IsEarlier k (operand.Node j) = j < k

-- each node reads nodes before it alone
abbrev pub ReadEarlierNodes : List Node → Type 0
ReadEarlierNodes nodes = (k : ℕ) (n : Node) → slice_get nodes k ≡ Some n → AllByRecursion (IsEarlier k) (operands_read n)

-- how many sites stand before a node
abbrev pub site_index : List Node → ℕ → ℕ
site_index nodes k = count_sites 0 (take k nodes)

-- the value of an operand in an activation from a state, by a word for each site
abbrev pub value_by_words : List Channel → List Node → Value → (ℕ → Word) → Operand → Value
value_by_words channels nodes s words o = operand_value s (node_values (setting_by channels s words) nodes) o

-- ---- where they stand

-- the stage of each operand, of which the state's is 0; and the stage of each site, which is that of its node
abbrev pub IsSiteStage : (Operand → ℕ) → (ℕ → ℕ) → ℕ → ℕ → Role → Type 0
IsSiteStage stage site_stage k i role.Pure = Unit {0}
IsSiteStage stage site_stage k i (role.Receive predicate c) = site_stage i ≡ stage (operand.Node k)
IsSiteStage stage site_stage k i (role.Send predicate c) = site_stage i ≡ stage (operand.Node k)

-- nodes read nothing of later stages
pub record AreStaged (nodes : List Node) (stage : Operand → ℕ) (site_stage : ℕ → ℕ) : Type 0 where
  pub state : stage operand.State ≡ 0
  pub earlier : ReadEarlierNodes nodes
  pub operands : (k : ℕ) (n : Node) → slice_get nodes k ≡ Some n → AllByRecursion (λ o. stage o ≤ stage (operand.Node k)) (operands_read n)
  pub sites : (k : ℕ) (n : Node) → slice_get nodes k ≡ Some n → IsSiteStage stage site_stage k (site_index nodes k) (role_of n)

-- ---- what their signals promise

-- the word of a receive stands on its signal, and is one of its channel
abbrev pub IsHeard : Values → List Channel → (ℕ → ℕ) → (ℕ → Word) → ℕ → Role → Type 0
IsHeard v channels has words i role.Pure = Unit {0}
IsHeard v channels has words i (role.Receive predicate c) = (v (has i) ≡ words i) × IsWordOf (width_at (channel_type channels c)) (words i)
IsHeard v channels has words i (role.Send predicate c) = Unit {0}

-- operands have values of their types
abbrev pub HaveOperandTypes : IrType → List Node → Value → List Value → Type 0
HaveOperandTypes state nodes s values = (o : Operand) → IsOfType (ty_of (type_in (types_behind state nodes) o)) (operand_value s values o)

-- whatever values there are: where the signals of what a node reads show them, and a receive's has the word of its site, the node's
-- own signals show its value. `shown` says which signals those are, `has` on which wire the word of each receive stands
abbrev pub NodeShows : Values → List Channel → IrType → List Node → (ℕ → ℕ) → (Operand → List Atom) → ℕ → Node → Type 0
NodeShows v channels state nodes has shown k n =
    (s : Value) (values : List Value) (words : ℕ → Word)
    → HaveOperandTypes state nodes s values
    → AllByRecursion (λ o. ShowsValue v (shown o) (operand_value s values o)) (operands_read n)
    → IsHeard v channels has words (site_index nodes k) (role_of n)
    → ShowsValue v (shown (operand.Node k)) (value_by (setting_by channels s words) values (site_index nodes k) n)

-- the signals of a proc: for each of its sites the number of its node, where it receives the wires of its word, and where it sends
-- the signal of the word; and for an operand and a stage in which it is read its signals there
pub record ProcNets : Type 0 where
  pub node : ℕ → ℕ
  pub receive : ℕ → ReceiveNets
  pub sent : ℕ → Atom
  pub shown : ℕ → Operand → List Atom

abbrev pub word_nets : ProcNets → ℕ → ℕ
word_nets nets i = (nets.receive i).has

-- all nodes, each in its own stage
abbrev pub NodesShow : Values → List Channel → Proc → ProcNets → (Operand → ℕ) → Type 0
NodesShow v channels proc nets stage =
    (k : ℕ) (n : Node) → slice_get proc.nodes k ≡ Some n
    → NodeShows v channels proc.state proc.nodes (word_nets nets) (nets.shown (stage (operand.Node k))) k n

-- ---- what they show

-- what the nodes of a stage read of earlier stages is shown there, by these words
abbrev pub ShowEarlier : Values → List Channel → Proc → ProcNets → (Operand → ℕ) → ℕ → Value → (ℕ → Word) → Type 0
ShowEarlier v channels proc nets stage j s words =
    (k : ℕ) (n : Node) → slice_get proc.nodes k ≡ Some n → stage (operand.Node k) ≡ j
    → AllByRecursion (λ o. stage o < j → ShowsValue v (nets.shown j o) (value_by_words channels proc.nodes s words o)) (operands_read n)

-- the words of the receives of a stage stand on their signals
abbrev pub AreHeard : Values → List Channel → Proc → ProcNets → (Operand → ℕ) → ℕ → (ℕ → Word) → Type 0
AreHeard v channels proc nets stage j words =
    (k : ℕ) (n : Node) → slice_get proc.nodes k ≡ Some n → stage (operand.Node k) ≡ j → IsHeard v channels (word_nets nets) words (site_index proc.nodes k) (role_of n)

-- ---- sites

-- a signal says whether a site is on: it is that of the predicate, which is a bit; or carries 1 where there is none
abbrev pub IsOnSignal : Values → IrType → List Node → (Operand → List Atom) → Option Operand → Atom → Type 0
IsOnSignal v state nodes shown None on = atom_value v on ≡ bit true
IsOnSignal v state nodes shown (Some o) on = (on ≡ first_or (shown o)) × (ty_of (type_in (types_behind state nodes) o) ≡ ty.Bits 1)

-- and whether its partner is there: a word that is received, or room for one that is sent
abbrev pub IsPartnerSignal : Values → Option Word → Bool → Atom → Role → Type 0
IsPartnerSignal v valid_word room partner role.Pure = ⊥
IsPartnerSignal v valid_word room partner (role.Receive predicate c) = atom_value v partner ≡ bit (is_some valid_word)
IsPartnerSignal v valid_word room partner (role.Send predicate c) = atom_value v partner ≡ bit room

abbrev pub predicate_of : Role → Option Operand
predicate_of role.Pure = None
predicate_of (role.Receive predicate c) = predicate
predicate_of (role.Send predicate c) = predicate

-- what a proc does at the site of a node, where the nodes have these values
abbrev pub turn_of : Value → List Value → Node → Role → Turn
turn_of s values n role.Pure = Skip
turn_of s values n (role.Receive predicate c) = if is_on s values predicate then Receive else Skip
turn_of s values n (role.Send predicate c) = if is_on s values predicate then Give (sent_by n s values) else Skip
