-- What is promised of steps that are lowered: where their parts have types, the nodes do what the steps do.
use Rattle.std.specs.Prelude.{◌≡◌, ℕ, List, [], ◌∷◌, ◌++◌, map, length, get_or, Option, Some, None}
use Rattle.xb_value.specs.declared.ty.Ty.{Ty}
use Rattle.xb_value.specs.declared.value.Value.{Value}
use Rattle.net_core.specs.declared.net.Site.{Site}
use Rattle.delay_model.specs.declared.op.Op.TheVariants as op
use Rattle.ir_tree.specs.declared.ir_type.IrType.{IrType, Token, Tuple}
use Rattle.ir_tree.specs.declared.node.Operand.{Operand}
use Rattle.ir_tree.specs.declared.node.Attributes.TheVariants as attributes
use Rattle.ir_tree.specs.declared.node.Node.{Node}
use Rattle.ir_tree.specs.declared.package.Channel.{Channel}
use Rattle.ir_tree.specs.Activations.{sites_of}
use Rattle.ir_tree.specs.NodeValues.{channel_type}
use Rattle.ir_tree.specs.Rules.Typed.Typed.{IsWordType}
use Rattle.ir_rebuild.specs.Built.{AreValues}
use Rattle.ir_rebuild.specs.declared.putting.nodes.Nodes.{Nodes}
use Rattle.ir_rebuild.specs.Putting.Types.{ir_type_of}
use Rattle.ir_rebuild.specs.Putting.Given.{IsBuilt, HasType, OperandsHaveTypes, node_with}
use Rattle.dslx_core.specs.CoreValues.{Functions}
use Rattle.dslx_core.specs.Designs.{Behind, do_step, site_of_step, sites_of_steps}
use Rattle.dslx_core.specs.declared.design.Function.{Function}
use Rattle.dslx_core.specs.declared.expr.CoreExpr.{CoreExpr}
use Rattle.dslx_core.specs.declared.step.Step.{Step}
use Rattle.dslx_core.specs.Types.Typing.{FunctionTypes}
use Rattle.dslx_core.specs.Types.Designs.{FunctionSignature, WordTypes}
use Rattle.ir_lower_nodes.specs.Exprs.Calls.{AreNodeFunctions, calls_below, types_below}
use Rattle.ir_lower_nodes.specs.Exprs.Lowered.{bound_by, Lowers}
use Rattle.ir_lower_nodes.specs.Acts.InstanceActivities.{steps_then}
use Rattle.ir_lower_nodes.specs.Acts.Activities.{ByWords, nodes_then, word_width, DoAlike}
use Rattle.ir_lower_nodes.specs.Steps.StepTypes.{step_node_binds, steps_node_bind}

-- ---- nodes

-- a receive of a word of this type, behind the token of the last site
abbrev pub receive_node : IrType → Operand → Option Operand → ℕ → Node
receive_node t token predicate c = node_with (Tuple (Token [] ∷ t ∷ []) []) op.Receive (token ∷ []) (attributes.Channel predicate c)

-- a send of what an operand is, behind the token of the last site
abbrev pub send_node : Operand → Operand → Option Operand → ℕ → Node
send_node token word predicate c = node_with (Token []) op.Send (token ∷ word ∷ []) (attributes.Channel predicate c)

-- some nodes are put behind those that are there, sites or not, and all are built
pub record AddsNodes (old new : Nodes) : Type 0 where
  pub state : new.state ≡ old.state
  pub built : IsBuilt new
  pub more : List Node
  pub are : new.list.items ≡ old.list.items ++ more

-- ---- channels

-- words of the type go over a channel
pub record CarriesWords (ir : List Channel) (c : ℕ) (t : Ty) : Type 0 where
  pub ty : channel_type ir c ≡ Some (ir_type_of t)
  pub word : IsWordType t

-- those at each member of a proc do, whose members are ends of the channels of these numbers
abbrev pub MembersCarryWords : List Channel → List ℕ → WordTypes → Type 0
MembersCarryWords ir channels words = (k : ℕ) (t : Ty) → words k ≡ Some t → CarriesWords ir (get_or channels k 0) t

-- ---- steps

-- a condition, if there is one, is lowered to an operand
abbrev pub ConditionLowers : List Function → Option CoreExpr → List Operand → Nodes → Nodes → Option Operand → Type 0
ConditionLowers fs None slots old new None = new ≡ old
ConditionLowers fs None slots old new (Some o) = ⊥
ConditionLowers fs (Some c) slots old new None = ⊥
ConditionLowers fs (Some c) slots old new (Some o) = Lowers fs c slots old new o

-- nodes were put for what is done before the rest of an activation: whatever the nodes before do with it, these do the same at these
-- sites where the nodes behind them do the same as the rest over what is bound then
pub record DoLowered (ir : List Channel) (sites : List Site) (f : Behind → Behind) (before after : List Operand) (old new : Nodes) (token : Operand) (us : List Ty) : Type 0 where
  pub adds : AddsNodes old new
  pub have : OperandsHaveTypes new after (map ir_type_of us)
  pub has : HasType new token (Token [])
  pub listed : sites_of adds.more ≡ sites
  pub alike : (s : Value) (values : List Value) → AreValues old.state old.list.items s values → length values ≡ length old.list.items →
      (rest : Behind) (nodes : List Value → ByWords) (more : List Site) →
      ((all : List Value) → AreValues new.state new.list.items s all → length all ≡ length new.list.items → DoAlike (word_width ir) more (rest (bound_by after s all)) (nodes all)) →
      DoAlike (word_width ir) (sites ++ more) (f rest (bound_by before s values)) (nodes_then ir s adds.more nodes values)

-- by what is said of types and functions
abbrev pub DoLoweredBy : (Functions → Behind → Behind) → (List ℕ → List Site) → (FunctionTypes → WordTypes → List Ty → Option (List Ty)) → List Function → List ℕ → List Operand → List Operand → Nodes → Nodes → Operand → Operand → Type 0
DoLoweredBy f sites binds fs channels before after old new from token =
    (signatures : List FunctionSignature) (n : ℕ) → AreNodeFunctions signatures fs →
    (ir : List Channel) (words : WordTypes) → MembersCarryWords ir channels words →
    (types us : List Ty) → IsBuilt old → OperandsHaveTypes old before (map ir_type_of types) → HasType old from (Token []) → binds (types_below n signatures) words types ≡ Some us →
    DoLowered ir (sites channels) (f (calls_below n fs)) before after old new token us

abbrev pub StepLowers : List Function → List ℕ → Step → List Operand → List Operand → Nodes → Nodes → Operand → Operand → Type 0
StepLowers fs channels s = DoLoweredBy (λ calls. do_step calls s) (λ cs. site_of_step cs s) (λ calls words. step_node_binds calls words s) fs channels

abbrev pub StepsLower : List Function → List ℕ → List Step → List Operand → List Operand → Nodes → Nodes → Operand → Operand → Type 0
StepsLower fs channels ss = DoLoweredBy (λ calls. steps_then calls ss) (λ cs. sites_of_steps cs ss) (λ calls words. steps_node_bind calls words ss) fs channels
