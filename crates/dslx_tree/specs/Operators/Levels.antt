-- The tree of a chain of operands with binary operators between them: the operators of the tightest level first, and
-- those of one level from the left.
use Rattle.std.specs.Prelude.{ℕ, zero, suc, ◌==◌, ◌<◌, if◌then◌else◌, List, [], ◌∷◌}
use Rattle.xb_span.specs.declared.span.Span.{Span}
use Rattle.dslx_tree.specs.declared.operator.Binary.{Binary}
use Rattle.dslx_tree.specs.declared.operator.TheConstants.{LEVELS}
use Rattle.dslx_tree.specs.declared.expr.Expr.{roll-Expr}
use Rattle.dslx_tree.specs.declared.expr.Node.{Node}
use Rattle.dslx_tree.specs.declared.expr.Node as nodes
use Rattle.dslx_tree.specs.Levels.{level_of}
use Rattle.dslx_tree.specs.declared.operators.chain.Operand.{Operand}
use Rattle.dslx_tree.specs.declared.operators.chain.Link.{Link}

-- a chain: its first operand, and the others with the operators before them, in order
pub record Operands : Type 0 where
  pub first : Operand
  pub links : List Link

-- two operands and the operator between them; its span is that of all tokens of both
abbrev pub joined : Binary → Operand → Operand → Operand
joined operator left right =
    let span : Span = record { from = left.span.from; to = right.span.to } in
    record { span = span; expr = roll-Expr (record { span = span; node = nodes.Binary operator left.expr right.expr }) }

-- From the left, operands between which an operator of the level stands are made one.
abbrev pub merged : ℕ → Operand → List Link → Operands
merged level first [] = record { first = first; links = [] }
merged level first (l ∷ links) =
    if level_of l.operator == level
    then merged level (joined l.operator first l.operand) links
    else (let rest = merged level l.operand links in record { first = first; links = record { operator = l.operator; operand = rest.first } ∷ rest.links })

-- the chain once so many levels, from the tightest, are made
abbrev pub merged_to : ℕ → Operand → List Link → Operands
merged_to zero first links = record { first = first; links = links }
merged_to (suc level) first links = let so_far = merged_to level first links in merged level so_far.first so_far.links

abbrev pub tree_of : Operand → List Link → Operand
tree_of first links = (merged_to LEVELS first links).first

-- Each of the operators binds more tightly than those of this level.
abbrev pub AreBelow : ℕ → List Link → Type 0
AreBelow level [] = Unit {0}
AreBelow level (l ∷ links) = (level_of l.operator < level) × AreBelow level links
