-- A proc as its scheduler sees it: how long each node takes, which nodes it takes values from, and what it is to the outside.
use Rattle.std.specs.Prelude.{◌≡◌, ℕ, List, [], ◌∷◌, ◌++◌, map, get_or, slice_get, Option, Some, None, Bool, true, false, IsTrue, Contains}
use Rattle.delay_model.specs.declared.timing.TimedBy.{TimedBy}
use Rattle.delay_model.specs.declared.timing.TimedBy.TheVariants as timed_by
use Rattle.delay_model.specs.Delays.{delay_of, timed_by_of}
use Rattle.xb_value.specs.Width.{width_of}
use Rattle.ir_tree.specs.declared.ir_type.IrType.{IrType}
use Rattle.ir_tree.specs.declared.node.Operand.{Operand}
use Rattle.ir_tree.specs.declared.node.Operand.TheVariants as operand
use Rattle.ir_tree.specs.declared.node.Attributes.{Attributes}
use Rattle.ir_tree.specs.declared.node.Attributes.TheVariants as attributes
use Rattle.ir_tree.specs.declared.node.Node.{Node}
use Rattle.ir_tree.specs.declared.node.Role.{Role}
use Rattle.ir_tree.specs.declared.node.Role.TheVariants as role
use Rattle.ir_tree.specs.declared.package.Proc.{Proc}
use Rattle.ir_tree.specs.declared.package.Package.{Package}
use Rattle.ir_tree.specs.Types.{ty_of}
use Rattle.ir_tree.specs.NodeValues.{role_of}
use Rattle.ir_tree.specs.Rules.Verified.{IsVerified}

-- ---- sources

-- the indices of the nodes among operands. The state has none
abbrev pub nodes_among : List Operand → List ℕ
nodes_among [] = []
nodes_among (operand.State ∷ os) = nodes_among os
nodes_among (operand.Node i ∷ os) = i ∷ nodes_among os

abbrev pub if_there : Option Operand → List Operand
if_there None = []
if_there (Some o) = o ∷ []

-- the operands that stand in attributes: cases, a default, an index, a predicate
abbrev pub operands_in : Attributes → List Operand
operands_in attributes.None = []
operands_in (attributes.StartAndWidth start width) = []
operands_in (attributes.Width width) = []
operands_in (attributes.NewBitCount width) = []
operands_in (attributes.Cases cases default) = cases ++ if_there default
operands_in (attributes.Index i) = []
operands_in (attributes.Indices o) = o ∷ []
operands_in (attributes.Value c) = []
operands_in (attributes.Channel predicate c) = if_there predicate

-- the indices of the nodes that are operands of a node
abbrev pub sources_of : Node → List ℕ
sources_of n = nodes_among (n.operands ++ operands_in n.attributes)

-- ---- delays

abbrev pub node_type_or : IrType → Option Node → IrType
node_type_or missing None = missing
node_type_or missing (Some n) = n.ty

-- the type of an operand, and of one that isn't there the type given for it
abbrev pub operand_type : IrType → List Node → IrType → Operand → IrType
operand_type state nodes missing operand.State = state
operand_type state nodes missing (operand.Node i) = node_type_or missing (slice_get nodes i)

-- the type of the first operand; where there is none, the node's own
abbrev pub first_type : IrType → List Node → IrType → List Operand → IrType
first_type state nodes own [] = own
first_type state nodes own (o ∷ os) = operand_type state nodes own o

-- the type by whose width a node is timed
abbrev pub type_timed_by : IrType → List Node → Node → TimedBy → IrType
type_timed_by state nodes n timed_by.Result = n.ty
type_timed_by state nodes n timed_by.FirstOperand = first_type state nodes n.ty n.operands

-- how long a node takes, among these nodes of a proc whose states have this type
abbrev pub node_delay : IrType → List Node → Node → ℕ
node_delay state nodes n = delay_of n.op (width_of (ty_of (type_timed_by state nodes n (timed_by_of n.op))))

-- ---- procs

pub record TimedNode : Type 0 where
  pub delay : ℕ
  pub sources : List ℕ
  pub role : Role

-- the nodes in line order, and what the next state is
pub record TimedProc : Type 0 where
  pub nodes : List TimedNode
  pub next : Operand

abbrev pub timed_node : IrType → List Node → Node → TimedNode
timed_node state nodes n = record { delay = node_delay state nodes n; sources = sources_of n; role = role_of n }

abbrev pub timed_nodes : Proc → List TimedNode
timed_nodes p = map (timed_node p.state p.nodes) p.nodes

abbrev pub timed_proc : Proc → TimedProc
timed_proc p = record { nodes = timed_nodes p; next = p.next }

-- ---- one node

-- what stands for a node that isn't there
abbrev pub no_node : TimedNode
no_node = record { delay = 0; sources = []; role = role.Pure }

-- the node of an index
abbrev pub node_at : List TimedNode → ℕ → TimedNode
node_at nodes i = get_or nodes i no_node

-- node i takes a value from node j
abbrev pub IsSource : List TimedNode → ℕ → ℕ → Type 0
IsSource nodes i j = Contains (node_at nodes i).sources j

abbrev pub is_site : Role → Bool
is_site role.Pure = false
is_site (role.Receive predicate c) = true
is_site (role.Send predicate c) = true

abbrev pub is_receive : Role → Bool
is_receive role.Pure = false
is_receive (role.Receive predicate c) = true
is_receive (role.Send predicate c) = false

abbrev pub is_send : Role → Bool
is_send role.Pure = false
is_send (role.Receive predicate c) = false
is_send (role.Send predicate c) = true

abbrev pub IsSite : List TimedNode → ℕ → Type 0
IsSite nodes i = IsTrue (is_site (node_at nodes i).role)

abbrev pub IsReceive : List TimedNode → ℕ → Type 0
IsReceive nodes i = IsTrue (is_receive (node_at nodes i).role)

abbrev pub IsSend : List TimedNode → ℕ → Type 0
IsSend nodes i = IsTrue (is_send (node_at nodes i).role)

-- it is a proc of a package that breaks no rule and passes no limit
pub record IsOfVerified (proc : Proc) : Type 0 where
  pub ir : Package
  pub verified : IsVerified ir
  pub place : ℕ
  pub there : slice_get ir.procs place ≡ Some proc
