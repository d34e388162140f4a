-- Parse trees.
use Rattle.std.specs.Prelude.{◌≡◌, ℕ, suc, ◌+◌, ◌<◌, ◌≤◌, List, [], ◌∷◌, ◌++◌, length, drop, slice_get, Some}
use Rattle.base.specs.declared.grammar.table.Symbol.{Symbol}
use Rattle.base.specs.declared.grammar.table.Symbol.TheVariants.{Terminal, Nonterminal}
use Rattle.base.specs.declared.grammar.tree.Node.{Node}
use Rattle.base.specs.Grammar.Syntax.{Rule, Syntax}
use Rattle.base.specs.Grammar.Derivation.{IsRule, start_of}

-- Trees side by side, from the left: a token, or a node with the number of its rule and the trees below it; and then
-- the trees to the right.
pub data Forest : Type 0 where
  nothing : Forest
  token : ℕ → Forest → Forest
  node : ℕ → Forest → Forest → Forest

-- Symbol by symbol, the trees are what the symbols grow to by the rules.
pub data Grows (rules : List Rule) : List Symbol → Forest → Type 0 where
  empty : Grows rules [] nothing
  leaf : {t : ℕ} {s : List Symbol} {f : Forest} → Grows rules s f → Grows rules (Terminal t ∷ s) (token t f)
  branch : {p n : ℕ} (b : List Symbol) {s : List Symbol} {below right : Forest} → IsRule rules p n b → Grows rules b below → Grows rules s right → Grows rules (Nonterminal n ∷ s) (node p below right)

-- the numbers of the rules, each before those below it
abbrev pub productions_of : Forest → List ℕ
productions_of nothing = []
productions_of (token t right) = productions_of right
productions_of (node p below right) = p ∷ (productions_of below ++ productions_of right)

abbrev pub leaves_of : Forest → List ℕ
leaves_of nothing = []
leaves_of (token t right) = t ∷ leaves_of right
leaves_of (node p below right) = leaves_of below ++ leaves_of right

-- From this index on the productions have those of a tree as a prefix. The node says where they end, and how many
-- tokens the tree has.
pub record IsNode (rules : List Rule) (productions : List ℕ) (place : ℕ) (n : Node) : Type 0 where
  pub number : ℕ
  pub head : ℕ
  pub body : List Symbol
  pub below : Forest
  pub rest : List ℕ
  pub rule : IsRule rules number head body
  pub grows : Grows rules body below
  pub here : drop place productions ≡ number ∷ (productions_of below ++ rest)
  pub ends : n.end ≡ place + suc (length (productions_of below))
  pub counts : n.tokens ≡ length (leaves_of below)

-- There is a node for each production, at its index.
pub record AreNodes (rules : List Rule) (productions : List ℕ) (nodes : List Node) : Type 0 where
  pub all : length nodes ≡ length productions
  pub each : (place : ℕ) (n : Node) → slice_get nodes place ≡ Some n → IsNode rules productions place n

-- the parse tree of a derivation
pub record IsParseTree (y : Syntax) (numbers kinds : List ℕ) (f : Forest) : Type 0 where
  pub grows : Grows y.rules (start_of y) f
  pub productions : productions_of f ≡ numbers
  pub tokens : leaves_of f ≡ kinds

-- A derivation that is gone through: by these rules the productions derive the tokens.
pub record Derived : Type 0 where
  pub rules : List Rule
  pub productions : List ℕ
  pub tokens : List ℕ

-- A position in it: so many productions, and so many tokens, are before it.
pub record TreePosition : Type 0 where
  pub production : ℕ
  pub token : ℕ

-- A tree: the number of its rule, and the trees below it.
pub record Tree : Type 0 where
  pub number : ℕ
  pub below : Forest

-- where all begins
abbrev pub beginning : TreePosition
beginning = record { production = 0; token = 0 }

-- where the trees below the one at this position begin
abbrev pub below_of : TreePosition → TreePosition
below_of at = record { production = at.production + 1; token = at.token }

-- the position behind the token at this one
abbrev pub behind_token : TreePosition → TreePosition
behind_token at = record { production = at.production; token = at.token + 1 }

-- the position behind the tree at this one, of which this is the node
abbrev pub behind : Node → TreePosition → TreePosition
behind n at = record { production = n.end; token = at.token + n.tokens }

-- At this position stands a tree of the nonterminal.
pub record IsTreeAt (d : Derived) (at : TreePosition) (head : ℕ) (t : Tree) : Type 0 where
  pub body : List Symbol
  pub rule : IsRule d.rules t.number head body
  pub grows : Grows d.rules body t.below
  pub others : List ℕ
  pub here : drop at.production d.productions ≡ t.number ∷ (productions_of t.below ++ others)
  pub more : List ℕ
  pub reads : drop at.token d.tokens ≡ leaves_of t.below ++ more
  pub within : at.token ≤ length d.tokens

-- A tree at this position, of which this is the node, has a production, and ends within the derivation.
pub record IsExtent (d : Derived) (at : TreePosition) (n : Node) : Type 0 where
  pub some : at.production < n.end
  pub end : n.end ≤ length d.productions
  pub stop : at.token + n.tokens ≤ length d.tokens

-- Where the trees of the symbols stand, side by side from the one position up to the other: each token where the one
-- before ends, and each tree where the nodes say that the one before ends. At symbols that are written out it computes
-- to a fact for each.
abbrev pub AreLaid : Derived → List Node → List Symbol → Forest → TreePosition → TreePosition → Type 0
AreLaid d nodes [] f at end = (f ≡ nothing) × (at.production ≡ end.production) × (at.token ≡ end.token)
AreLaid d nodes (Terminal t ∷ s) f at end =
    (right : Forest) × (f ≡ token t right) × (slice_get d.tokens at.token ≡ Some t) × AreLaid d nodes s right (behind_token at) end
AreLaid d nodes (Nonterminal n ∷ s) f at end =
    (t : Tree) × (right : Forest) × (child : Node) × (f ≡ node t.number t.below right) × (slice_get nodes at.production ≡ Some child) × IsTreeAt d at n t × AreLaid d nodes s right (behind child at) end
