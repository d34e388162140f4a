-- What `node_at` asks of `parse_tree`, which goes from the last production to the first.
use Rattle.std.specs.Prelude.{◌≡◌, ℕ, ◌^◌, ◌<◌, ◌≤◌, List, ◌∷◌, ◌++◌, length, drop, slice_get, Some}
use Rattle.base.specs.declared.grammar.table.Symbol.{Symbol}
use Rattle.base.specs.declared.grammar.tree.Node.{Node}
use Rattle.base.specs.Grammar.Syntax.{Rule}
use Rattle.base.specs.Grammar.Derivation.{IsRule}
use Rattle.base.specs.Grammar.Tree.{Forest, Grows, IsNode, productions_of, leaves_of}

-- A tree stands at this index, and its tokens can be counted.
pub record HasTree (rules : List Rule) (productions : List ℕ) (place : ℕ) : Type 0 where
  pub number : ℕ
  pub head : ℕ
  pub body : List Symbol
  pub below : Forest
  pub rest : List ℕ
  pub rule : IsRule rules number head body
  pub grows : Grows rules body below
  pub here : drop place productions ≡ number ∷ (productions_of below ++ rest)
  pub counted : length (leaves_of below) < 2 ^ 64

-- From this index on there is a node for each production.
pub record AreNodesFrom (rules : List Rule) (productions : List ℕ) (nodes : List Node) (from : ℕ) : Type 0 where
  pub all : length nodes ≡ length productions
  pub each : (place : ℕ) (n : Node) → from ≤ place → slice_get nodes place ≡ Some n → IsNode rules productions place n
