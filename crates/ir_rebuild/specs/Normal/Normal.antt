-- The normal form.
use Rattle.std.specs.Prelude.{◌≡◌, ℕ, nat_eq, Bool, true, false, ◌||◌, List, [], ◌∷◌, ◌++◌, slice_get, get_or, Option, Some, None}
use Rattle.std.specs.List.{list_all}
use Rattle.ir_tree.specs.declared.ir_type.IrType.{IrType}
use Rattle.ir_tree.specs.declared.node.Operand.{Operand}
use Rattle.ir_tree.specs.declared.node.Operand.TheVariants as operand
use Rattle.ir_tree.specs.declared.node.Attributes.{Attributes}
use Rattle.ir_tree.specs.declared.node.Attributes.TheVariants as attributes
use Rattle.ir_tree.specs.declared.node.Node.{Node}
use Rattle.ir_tree.specs.declared.package.Package.{Package}
use Rattle.ir_tree.specs.declared.package.Proc.{Proc}
use Rattle.ir_tree.specs.NodeValues.{role_of}
use Rattle.ir_rebuild.specs.Operands.{operands_in, optional_operand, node_of}
use Rattle.ir_rebuild.specs.Built.{is_plain_op}
use Rattle.ir_rebuild.specs.Kept.{is_site}
use Rattle.ir_rebuild.specs.Normal.Patterns.{is_literal_op, has_pattern}

-- ---- nodes that are live

-- by the next state, as a site, or by a node that is live itself
pub data IsReached (proc : Proc) : ℕ → Type 0 where
  by_next : (i : ℕ) → proc.next ≡ operand.Node i → IsReached proc i
  as_site : (i : ℕ) (n : Node) → slice_get proc.nodes i ≡ Some n → is_site (role_of n) ≡ true → IsReached proc i
  by_node : (i j k : ℕ) (n : Node) → IsReached proc j → slice_get proc.nodes j ≡ Some n → slice_get (operands_in n) k ≡ Some (operand.Node i) → IsReached proc i

-- what is marked is live
abbrev pub AreLive : Proc → List Bool → Type 0
AreLive proc kept = (i : ℕ) → get_or kept i false ≡ true → IsReached proc i

-- ---- literals and selects

abbrev pub is_literal_node : Option Node → Bool
is_literal_node None = false
is_literal_node (Some n) = is_literal_op n.op

abbrev pub names_literal : List Node → Operand → Bool
names_literal nodes o = is_literal_node (node_of nodes o)

-- one operand or more, all of them literals
abbrev pub all_literals : List Node → List Operand → Bool
all_literals nodes [] = false
all_literals nodes (o ∷ os) = list_all (names_literal nodes) (o ∷ os)

-- one node, or the state both times
abbrev pub same_operand : Operand → Operand → Bool
same_operand operand.State operand.State = true
same_operand operand.State (operand.Node j) = false
same_operand (operand.Node i) operand.State = false
same_operand (operand.Node i) (operand.Node j) = nat_eq i j

abbrev pub is_cases : Attributes → Bool
is_cases (attributes.Cases cases default) = true
is_cases _ = false

-- one operand all over
abbrev pub are_one : List Operand → Bool
are_one [] = false
are_one (o ∷ os) = list_all (same_operand o) os

-- a select whose selector is a literal, or that has one operand as all its cases and its default
abbrev pub chooses_one : List Node → List Operand → Attributes → Bool
chooses_one nodes os (attributes.Cases cases default) = all_literals nodes os || are_one (cases ++ optional_operand default)
chooses_one nodes os _ = false

-- ---- the normal form

-- among these nodes a node whose operands aren't all literals, no select that always chooses one operand, and none of the patterns
pub record IsNormalNode (state : IrType) (nodes : List Node) (n : Node) : Type 0 where
  pub folded : all_literals nodes (operands_in n) ≡ false
  pub chosen : chooses_one nodes n.operands n.attributes ≡ false
  pub narrowed : has_pattern state nodes n ≡ false

-- each plain node is normal
pub record AreNormal (state : IrType) (nodes : List Node) : Type 0 where
  pub each : (i : ℕ) (n : Node) → slice_get nodes i ≡ Some n → is_plain_op n.op ≡ true → IsNormalNode state nodes n

-- and each node is live
pub record IsNormalProc (proc : Proc) : Type 0 where
  pub nodes : AreNormal proc.state proc.nodes
  pub live : (i : ℕ) (n : Node) → slice_get proc.nodes i ≡ Some n → IsReached proc i

pub record IsNormal (ir : Package) : Type 0 where
  pub procs : (i : ℕ) (proc : Proc) → slice_get ir.procs i ≡ Some proc → IsNormalProc proc
