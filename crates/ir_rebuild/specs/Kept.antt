-- Which nodes are kept.
use Rattle.std.specs.Prelude.{◌≡◌, ℕ, Bool, true, false, List, length, replicate, get_or, slice_get, Some}
use Rattle.std.specs.List.{list_all}
use Rattle.ir_tree.specs.declared.node.Operand.{Operand}
use Rattle.ir_tree.specs.declared.node.Operand.TheVariants as operand
use Rattle.ir_tree.specs.declared.node.Node.{Node}
use Rattle.ir_tree.specs.declared.node.Role.{Role}
use Rattle.ir_tree.specs.declared.node.Role.TheVariants as role
use Rattle.ir_tree.specs.declared.package.Proc.{Proc}
use Rattle.ir_tree.specs.NodeValues.{role_of}
use Rattle.ir_tree.specs.Rules.Lines.{is_there}
use Rattle.ir_rebuild.specs.Operands.{operands_in}

abbrev pub is_kept : List Bool → Operand → Bool
is_kept kept operand.State = true
is_kept kept (operand.Node i) = get_or kept i false

abbrev pub is_site : Role → Bool
is_site role.Pure = false
is_site (role.Receive predicate c) = true
is_site (role.Send predicate c) = true

-- the operands of each node stand before it, and so does what the next state is
pub record StandBefore (proc : Proc) : Type 0 where
  pub operands : (j : ℕ) (n : Node) → slice_get proc.nodes j ≡ Some n → list_all (is_there j) (operands_in n) ≡ true
  pub next : is_there (length proc.nodes) proc.next ≡ true

-- sites are kept, what the next state is, and the operands of what is kept
pub record AreKept (proc : Proc) (kept : List Bool) : Type 0 where
  pub next : is_kept kept proc.next ≡ true
  pub sites : (j : ℕ) (n : Node) → slice_get proc.nodes j ≡ Some n → is_site (role_of n) ≡ true → get_or kept j false ≡ true
  pub operands : (j : ℕ) (n : Node) → slice_get proc.nodes j ≡ Some n → get_or kept j false ≡ true → list_all (is_kept kept) (operands_in n) ≡ true

-- all nodes are kept
abbrev pub AreAllKept : Proc → List Bool → Type 0
AreAllKept proc kept = kept ≡ replicate (length proc.nodes) true
