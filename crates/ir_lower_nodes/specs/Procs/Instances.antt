-- What is promised of an instance of a proc that is lowered: where its parts have types, the IR proc does what the instance does.
use Rattle.std.specs.Prelude.{◌≡◌, ℕ, List, [], ◌∷◌, Option, Some}
use Rattle.xb_value.specs.declared.ty.Ty.{Ty}
use Rattle.delay_model.specs.declared.op.Op.TheVariants as op
use Rattle.ir_tree.specs.declared.constant.Constant.{Constant}
use Rattle.ir_tree.specs.declared.ir_type.IrType.{Token}
use Rattle.ir_tree.specs.declared.node.Attributes.TheVariants as attributes
use Rattle.ir_tree.specs.declared.node.Node.{Node}
use Rattle.ir_tree.specs.declared.node.Operand.{Operand}
use Rattle.ir_tree.specs.declared.package.Channel.{Channel}
use Rattle.ir_tree.specs.declared.package.Proc.{Proc}
use Rattle.ir_tree.specs.Activations.{activation}
use Rattle.ir_tree.specs.SameBehavior.{SameActivations}
use Rattle.ir_rebuild.specs.declared.putting.nodes.Nodes.{Nodes}
use Rattle.ir_rebuild.specs.Putting.Types.{ir_type_of}
use Rattle.ir_rebuild.specs.Putting.Given.{IsBuilt, IsNodeType, HasType, node_with}
use Rattle.dslx_meaning.specs.Lists.{and_then}
use Rattle.dslx_core.specs.CoreValues.{Functions}
use Rattle.dslx_core.specs.declared.design.Function.{Function}
use Rattle.dslx_core.specs.declared.design.Instance.{Instance}
use Rattle.dslx_core.specs.declared.expr.CoreExpr.{CoreExpr}
use Rattle.dslx_core.specs.declared.step.Step.{Step}
use Rattle.dslx_core.specs.Types.Typing.{FunctionTypes}
use Rattle.dslx_core.specs.Types.Designs.{FunctionSignature, WordTypes}
use Rattle.ir_lower_nodes.specs.Exprs.NodeTypes.{node_type}
use Rattle.ir_lower_nodes.specs.Exprs.Calls.{AreNodeFunctions, calls_below, types_below}
use Rattle.ir_lower_nodes.specs.Acts.Activities.{word_width}
use Rattle.ir_lower_nodes.specs.Acts.InstanceActivities.{instance_behavior}
use Rattle.ir_lower_nodes.specs.Steps.StepTypes.{steps_node_bind}
use Rattle.ir_lower_nodes.specs.Steps.Steps.{MembersCarryWords}

-- the type of the state behind steps, unless a part of them has none that a node may have
abbrev pub next_node_type : FunctionTypes → WordTypes → List Step → CoreExpr → List Ty → Option Ty
next_node_type calls words ss next bound = and_then (steps_node_bind calls words ss bound) (node_type next calls)

-- the token with which an activation begins
abbrev pub start_node : Node
start_node = node_with (Token []) op.AfterAll [] attributes.None

-- the proc of these nodes, whose next state is this operand
abbrev pub proc_of : List ℕ → Constant → Nodes → Operand → Proc
proc_of name init nodes o = record { name = name; state = nodes.state; init = init; nodes = nodes.list.items; next = o }

-- the nodes are built, and a proc of them does what the instance does
pub record ActivationLowered (ir : List Channel) (calls : Functions) (channels : List ℕ) (i : Instance) (nodes : Nodes) (o : Operand) : Type 0 where
  pub built : IsBuilt nodes
  pub has : HasType nodes o (ir_type_of i.state)
  pub same : (width : ℕ → ℕ) → ((c : ℕ) → width c ≡ word_width ir c) → (name : List ℕ) (init : Constant) → SameActivations (instance_behavior calls width channels i) (activation ir (proc_of name init nodes o))

abbrev pub ActivationLowers : List Function → List ℕ → Instance → Nodes → Operand → Type 0
ActivationLowers fs channels i nodes o =
    (signatures : List FunctionSignature) (n : ℕ) → AreNodeFunctions signatures fs → (ir : List Channel) (words : WordTypes) → MembersCarryWords ir channels words →
    IsNodeType (ir_type_of i.state) → next_node_type (types_below n signatures) words i.steps i.next (i.state ∷ []) ≡ Some i.state →
    ActivationLowered ir (calls_below n fs) channels i nodes o
