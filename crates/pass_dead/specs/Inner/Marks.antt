-- Marks of nodes that are live.
use Rattle.std.specs.Prelude.{◌≡◌, ◌≤◌, ◌<◌, ◌||◌, ℕ, Bool, true, false, List, [], ◌∷◌, length, get_or, slice_set}
use Rattle.std.specs.List.{list_all}
use Rattle.ir_tree.specs.declared.node.Operand.{Operand}
use Rattle.ir_tree.specs.declared.node.Operand.TheVariants as operand
use Rattle.ir_tree.specs.declared.node.Node.{Node}
use Rattle.ir_tree.specs.NodeValues.{role_of}
use Rattle.ir_tree.specs.Rules.Lines.{is_there}
use Rattle.ir_rebuild.specs.Operands.{operands_in}
use Rattle.ir_rebuild.specs.Kept.{is_kept, is_site}

-- the node that an operand names is marked
abbrev pub marked : List Bool → Operand → List Bool
marked kept operand.State = kept
marked kept (operand.Node i) = slice_set kept i true

abbrev pub marked_all : List Bool → List Operand → List Bool
marked_all kept [] = kept
marked_all kept (o ∷ os) = marked_all (marked kept o) os

-- the node of an index is visited: if it is marked or a site, it is marked with all its operands
abbrev pub visited_if : Bool → List Bool → ℕ → Node → List Bool
visited_if true kept place n = marked_all (slice_set kept place true) (operands_in n)
visited_if false kept place n = kept

abbrev pub visited : List Bool → ℕ → Node → List Bool
visited kept place n = visited_if (get_or kept place false || is_site (role_of n)) kept place n

-- these operands were marked, and nothing else
pub record Marks (old new : List Bool) (os : List Operand) : Type 0 where
  pub count : length new ≡ length old
  pub keeps : (o : Operand) → is_kept old o ≡ true → is_kept new o ≡ true
  pub marks : list_all (is_there (length old)) os ≡ true → list_all (is_kept new) os ≡ true
  pub stays : (i j : ℕ) → list_all (is_there i) os ≡ true → i ≤ j → get_or new j false ≡ get_or old j false

-- the node of an index was visited: it is marked if it is a site, and its operands are marked if it is marked
pub record IsVisited (place : ℕ) (n : Node) (old new : List Bool) : Type 0 where
  pub count : length new ≡ length old
  pub keeps : (o : Operand) → is_kept old o ≡ true → is_kept new o ≡ true
  pub site : is_site (role_of n) ≡ true → get_or new place false ≡ true
  pub operands : get_or new place false ≡ true → list_all (is_there (length old)) (operands_in n) ≡ true → list_all (is_kept new) (operands_in n) ≡ true
  pub stays : (j : ℕ) → list_all (is_there place) (operands_in n) ≡ true → place < j → get_or new j false ≡ get_or old j false
